-- Our sheet keeps its promise; and every sheet that does gives our numbers, and leaves with each what ours leaves. Assumes nothing.
use Prim.Native.Nat.{ℕ}
use mathlib.Core.Path.{◌≡◌, refl, sym, ap, subst, ◌∙◌}
use mathlib.Core.List.{List}
use Rattle.chain.specs.Paper.{done}
use Rattle.chain.specs.Table.{Table}
use Rattle.demands.specs.Loader.{Loader, AfterSheet}
use Rattle.demands.specs.SheetTable.{KeepsSheet, sheet_table, SheetNumbers, SheetRefused, SheetFilled, SheetLeaves}
use Rattle.demands.specs.Ours.{ours}
use Rattle.demands.proofs.Promised.{sheet_ours}
use Rattle.demands.proofs.Numbers.SheetTables.{sheet_numbers}
use Rattle.demands.proofs.Numbers.SheetLeft.{sheet_leaves}

pub sheet_kept : KeepsSheet ours
sheet_kept kind mode s lengths numbers figures = record { answer = refl; numbers_left = refl; figures_left = refl }

module _ (l : Loader) (k : KeepsSheet l) where
  pub sheet_as_ours : (kind mode : ℕ) (s lengths numbers figures : List ℕ) → ours.sheet kind mode s lengths numbers figures ≡ l.sheet kind mode s lengths numbers figures
  sheet_as_ours kind mode s lengths numbers figures =
      let a = l.sheet kind mode s lengths numbers figures in
      sym (sheet_ours kind mode s lengths numbers figures a.sums a.numbers a.figures (k kind mode s lengths numbers figures))

  pub sheet_numbers_kept : SheetNumbers l
  sheet_numbers_kept kind mode s lengths numbers figures =
      subst (λ (a : AfterSheet). Table a.sums.number (sheet_table kind mode s lengths numbers figures) done)
      (sheet_as_ours kind mode s lengths numbers figures) (sheet_numbers kind mode s lengths numbers figures)

  pub sheet_leaves-kept : SheetLeaves l
  sheet_leaves-kept =
      record {
        refused =
            λ kind mode s lengths numbers figures z.
            let e = sheet_as_ours kind mode s lengths numbers figures in
            subst (SheetRefused numbers figures) e
            (sheet_leaves.refused kind mode s lengths numbers figures (λ h. z (sym (ap (λ (a : AfterSheet). a.sums.number) e) ∙ h)));
        filled =
            λ kind mode s lengths numbers figures h.
            let e = sheet_as_ours kind mode s lengths numbers figures in
            subst (SheetFilled kind mode s lengths numbers figures) e
            (sheet_leaves.filled kind mode s lengths numbers figures (ap (λ (a : AfterSheet). a.sums.number) e ∙ h));
      }
