use Rattle.std.proofs.Common.{ℕ, ◌≡◌, ◌≤◌, ◌<◌, ◌+◌, ◌-◌, ◌*◌}
use Rattle.sheet.specs.Count.{sum_from}
use Rattle.sheet.proofs.over.over_cells.Given as goal

-- `sheet::over::over_cells` meets its contract. The invariants: what is summed and what the cells to come give make all, in a block and over all; each cell
-- gives 8 at most. Assumes nothing.
abbrev pub invariant-loop-i : goal.invariant-loop-i
invariant-loop-i g l =
    (l.few ≤ 8 * (l.i - l.start))
    × ((f : ℕ → ℕ) → ((i r : ℕ) → i < l.n → goal.F-post g l.f i r → r ≡ f i)
    → l.few + sum_from f l.i (l.i-end - l.i) ≡ sum_from f l.start (l.i-end - l.start))

abbrev pub invariant-loop-start : goal.invariant-loop-start
invariant-loop-start g l =
    (l.sum ≤ 8 * l.start)
    × ((f : ℕ → ℕ) → ((i r : ℕ) → i < l.n → goal.F-post g l.f i r → r ≡ f i) → l.sum + sum_from f l.start (l.n - l.start) ≡ sum_from f 0 l.n)
