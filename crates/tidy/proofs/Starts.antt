-- Windows whose starts ascend have spans whose starts ascend. Assumes nothing.
use Prim.Native.Nat.{ℕ}
use mathlib.Core.List.{List, [], ◌∷◌}
use Rattle.chain.specs.declared.window.Window.{Window as Row}
use Rattle.tidy.specs.InOrder.{Ascending}
use Rattle.tidy.specs.Steps.{row_start, key_spans, Rising}

pub rising_up : (ends : List ℕ) (xs : List Row) (a : ℕ) → Ascending row_start a xs → Rising a (key_spans ends xs)
rising_up ends [] a h = tt
rising_up ends (x ∷ xs) a h = (h.0, rising_up ends xs x.start h.1)
