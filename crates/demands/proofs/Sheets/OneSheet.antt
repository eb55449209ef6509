-- The claims leave no other sheet: rows that the loader's own calls give, and sums that are the columns', fix every entry and every sum. Assumes nothing.
use Prim.Native.Nat.{ℕ, ◌+◌}
use mathlib.Core.Path.{◌≡◌, refl, ap, sym, ◌∙◌}
use mathlib.Core.List.{List, [], ◌∷◌}
use native.Mathlib.Omega.{arith}
use lib.ListN.{length, replicate, length-replicate}
use Rattle.chain.specs.Rules.{pick}
use Rattle.chain.specs.Kinds.{size_of}
use Rattle.chain.specs.Output.{over}
use Rattle.sheet.specs.declared.Sheet.{Sheet}
use Rattle.sheet.specs.Stream.{Device, reset_device}
use Rattle.sheet.specs.Sheet.{streams_of, numbers_of, figures_of}
use Rattle.demands.specs.Loader.{Loader, AfterSheet, with_sheet}
use Rattle.demands.specs.SheetTable.{SheetLeaves}
use Rattle.demands.specs.LoadSheets.{unfound, failed_row, hand_row, hand_leaves, hand_rows, Alone, ColumnSums, OneSheet}
use Rattle.demands.proofs.Sheets.OnlySheet.{same_summed}
use Rattle.demands.proofs.Sheets.OneDevice.{reset_there}

-- the sums are among what a sheet leaves
pub columns_of : (l : Loader) → SheetLeaves l → ColumnSums l
columns_of l h kind mode s lengths numbers figures z = (h.filled kind mode s lengths numbers figures z).columns

-- the rows by hand do not speak of the sheet
same_rows : (l : Loader) (f : ℕ → ℕ → List ℕ → List ℕ → List ℕ → List ℕ → AfterSheet) (out : List ℕ) (mode : ℕ) (ss : List (List ℕ)) (d : Device)
    → hand_rows (with_sheet l f) out mode d ss ≡ hand_rows l out mode d ss
same_rows l f out mode [] d = refl
same_rows l f out mode (s ∷ ss) d =
    ap (λ (rs : List Sheet). pick (unfound l out mode s) failed_row (hand_row l out mode d s) ∷ rs)
    (same_rows l f out mode ss (hand_leaves l out mode d s))

pub one_sheet : (l : Loader) → Alone l → ColumnSums l → OneSheet l
one_sheet l a c f b e kind mode s lengths numbers figures known u y z =
    let d : Device = reset_device kind in
    let out : List ℕ = replicate (length s + (size_of kind + 3)) 0 in
    let long : length out ≡ length s + (size_of kind + 3) = length-replicate {A = ℕ} (length s + (size_of kind + 3)) 0 in
    let r = reset_there kind known in
    let p = a kind mode s lengths numbers figures u y d r out (omega (arith, long)) (omega (arith, long)) in
    let q = b kind mode s lengths numbers figures u z d r out (omega (arith, long)) (omega (arith, long)) in
    let h = same_rows l f out mode (streams_of lengths s) d in
    same_summed (length lengths) (f kind mode s lengths numbers figures) (l.sheet kind mode s lengths numbers figures)
    (e kind mode s lengths numbers figures z) (c kind mode s lengths numbers figures y) (z ∙ sym y)
    (q.numbers_left ∙ ap (λ (rs : List Sheet). over (numbers_of rs) numbers) h ∙ sym p.numbers_left)
    (q.figures_left ∙ ap (λ (rs : List Sheet). over (figures_of rs) figures) h ∙ sym p.figures_left)
