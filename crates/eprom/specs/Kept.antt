-- What a fetcher keeps of the first device's section beside its counter, and the jump that this decides. Assumes nothing.
use Rattle.std.specs.Prelude.{ℕ, ◌+◌, ◌*◌, Bool, ◌&&◌, List, [], ◌∷◌, ◌==◌, nat_lt, slice_index, slice_set}
use Rattle.chain.specs.declared.Place.{Place}
use Rattle.chain.specs.Paper.{at_preamble, at_control, at_address, at_address2, at_address3, at_null, B0, B1}
use Rattle.chain.specs.Rules.{pick, Row, ◌⇒◌, row_of}
use Rattle.eprom.specs.declared.Fetcher.{Fetcher}
use Rattle.eprom.specs.Counter.{last_count, home_of, next_of}

-- a fetcher with one field replaced
abbrev pub with_counter : Fetcher → ℕ → Fetcher
with_counter f k = record { counter = k; control = f.control; address = f.address; nulled = f.nulled }

abbrev pub with_control : Fetcher → ℕ → Fetcher
with_control f b = record { counter = f.counter; control = b; address = f.address; nulled = f.nulled }

abbrev pub with_address : Fetcher → ℕ → ℕ → Fetcher
with_address f i b = record { counter = f.counter; control = f.control; address = slice_set f.address i b; nulled = f.nulled }

abbrev pub with_nulled : Fetcher → ℕ → Fetcher
with_nulled f n = record { counter = f.counter; control = f.control; address = f.address; nulled = n }

-- nothing kept but the counter
abbrev pub fetcher_at : ℕ → Fetcher
fetcher_at k = record { counter = k; control = 0; address = 0 ∷ 0 ∷ 0 ∷ []; nulled = 0 }

abbrev pub not_yet : ℕ
not_yet = 0

-- the run is at the first device
abbrev pub first : Place → Bool
first p = p.device == 0

-- what is kept once the byte b is taken, by the awaited byte: of an earlier run nothing, and of the first device's section its control byte, its external
-- address and that its first null byte was taken
abbrev pub kept_rows : Fetcher → ℕ → List (Row Fetcher)
kept_rows f b =
    (at_preamble ⇒ fetcher_at f.counter)
    ∷ (at_control ⇒ with_control f b)
    ∷ (at_address ⇒ with_address f 0 b)
    ∷ (at_address2 ⇒ with_address f 1 b)
    ∷ (at_address3 ⇒ with_address f 2 b)
    ∷ (at_null ⇒ with_nulled f (pick (f.nulled == not_yet) 1 f.nulled))
    ∷ []

unfoldable pub kept_of : Place → Fetcher → ℕ → Fetcher
kept_of p f b = pick (first p) (row_of p.awaited (kept_rows f b) f) f

-- the external address, low byte first
unfoldable pub external_of : Fetcher → ℕ
external_of f = slice_index f.address 0 + slice_index f.address 1 * 256 + slice_index f.address 2 * 65536

-- the byte awaited is the first null byte of the first device's section, none of them was fetched before, and its control byte set B1
unfoldable pub jumps : Place → Fetcher → Bool
jumps p f = first p && p.awaited == at_null && f.nulled == not_yet && B1 f.control

-- 19: the jump is above 1FFFF
unfoldable pub astray : Place → Fetcher → Bool
astray p f = jumps p f && nat_lt last_count (external_of f)

-- the fetcher after the byte b, where the run goes on: its counter jumps, or is a byte later
unfoldable pub onward : Place → Fetcher → ℕ → Fetcher
onward p f b = with_counter (kept_of p f b) (pick (jumps p f) (external_of f) (next_of p.mode f.counter))

-- the fetcher after a run's last byte: nothing is kept, and B0 of the control byte decides about the counter, clear resets it, set keeps its next value
unfoldable pub fetcher_at_end : Place → Fetcher → ℕ → Fetcher
fetcher_at_end p f b = fetcher_at (pick (B0 (kept_of p f b).control) (next_of p.mode f.counter) (home_of p.mode))
