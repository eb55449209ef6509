-- The counter n bytes later: one byte is the next, and bytes add up. Assumes nothing.
use Rattle.std.proofs.Common.{◌≡◌, ℕ, suc, ◌+◌, ◌-◌, ◌%◌, ◌≤◌, eqb, refl, arith}
use Rattle.chain.specs.Paper.{downward}
use Rattle.chain.proofs.ByCases.{by_test, either_way}
use Rattle.eprom.specs.Counter.{counts, last_count, next_of}
use Rattle.eprom.specs.Steps.{further_of}

pub next_further : (mode k : ℕ) → next_of mode k ≡ further_of mode k 1
unfolding next_of further_of
next_further mode k = refl

pub further_low : (mode k n : ℕ) → further_of mode k n ≤ last_count
unfolding further_of
further_low mode k n = either_way (λ (x : ℕ). x ≤ last_count) (eqb mode downward) ((k + (counts - n)) % counts) ((k + n) % counts) (omega arith) (omega arith)

pub next_low : (mode k : ℕ) → next_of mode k ≤ last_count
next_low mode k = rw (next_further mode k) (further_low mode k 1)

-- a byte, then n more
pub further_next : (mode k n : ℕ) → k ≤ last_count → suc n ≤ counts → further_of mode (next_of mode k) n ≡ further_of mode k (suc n)
unfolding next_of further_of
further_next mode k n h g = by_test (eqb mode downward) (λ e. rw e (omega arith)) (λ e. rw e (omega arith))
