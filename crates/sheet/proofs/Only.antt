-- Two results that meet the sheet's promise agree. Assumes nothing.
use Prim.Native.Nat.{ℕ}
use mathlib.Core.Path.{◌≡◌, sym, ◌∙◌}
use mathlib.Core.List.{List}
use Rattle.sheet.specs.declared.Sheet.{Sheet}
use Rattle.sheet.specs.Sheet.{LoadSheet}

pub load_sheet_only : (kind mode : ℕ) (s lengths numbers figures : List ℕ) (r q : Sheet) (n o f g : List ℕ)
    → LoadSheet kind mode s lengths numbers figures r n f → LoadSheet kind mode s lengths numbers figures q o g → (r ≡ q) × (n ≡ o) × (f ≡ g)
load_sheet_only kind mode s lengths numbers figures r q n o f g a b = (
  a.answer ∙ sym b.answer,
  a.numbers_left ∙ sym b.numbers_left,
  a.figures_left ∙ sym b.figures_left,
)
