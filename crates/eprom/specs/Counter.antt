-- The fetcher's address counter: 17 bits. Assumes nothing.
use Rattle.std.specs.Prelude.{ℕ, ◌+◌, ◌-◌, ◌%◌, Bool, ◌||◌, ◌==◌}
use Rattle.chain.specs.Paper.{first_mode, downward, eprom_internal}
use Rattle.chain.specs.Rules.{pick}

-- the modes that boot from an EPROM: 1, 2 and 5
abbrev pub fetches : ℕ → Bool
fetches mode = mode == first_mode || mode == downward || mode == eprom_internal

-- how many values it has, and the last of them, 1FFFF
abbrev pub counts : ℕ
counts = 0x20000

abbrev pub last_count : ℕ
last_count = 0x1ffff

-- where it starts, and what resets it: 00000, in mode 2 1FFFF
unfoldable pub home_of : ℕ → ℕ
home_of mode = pick (mode == downward) last_count 0

-- a byte later: up by one, in mode 2 down, wrapping past either end
unfoldable pub next_of : ℕ → ℕ → ℕ
next_of mode k = pick (mode == downward) ((k + (counts - 1)) % counts) ((k + 1) % counts)
