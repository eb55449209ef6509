-- The numbers of a load sheet and what it leaves with each leave a loader no other sheet than ours. Assumes nothing.
use Prim.Native.Nat.{ℕ, zero, suc, ◌+◌, ◌*◌, ◌/◌, ◌%◌, ◌<◌}
use mathlib.Core.Path.{◌≡◌, refl, sym, ap, ap₂, ◌∙◌}
use mathlib.Core.List.{List, [], ◌∷◌}
use native.Mathlib.Nat.{div-add-mod', mod-lt}
use native.Mathlib.Omega.{arith}
use lib.Dec.{lit<}
use lib.ListN.{length, get_or, drop}
use Rattle.chain.specs.Paper.{done}
use Rattle.chain.proofs.ByCases.{by_eq}
use Rattle.sheet.specs.Count.{sum_from}
use Rattle.sheet.specs.Sheet.{figures_a_row, sheet_number}
use Rattle.demands.specs.Loader.{Loader, AfterSheet}
use Rattle.demands.specs.SheetTable.{KeepsSheet, SheetNumbers, row_at, figure_at, Summed, SheetRefused, SheetFilled, SheetLeaves}
use Rattle.demands.specs.Ours.{ours}
use Rattle.demands.proofs.Numbers.SheetTables.{sheet_rows_lem, sheet_number_lem}
use Rattle.demands.proofs.Numbers.SheetRows.{figure_entered}
use Rattle.demands.proofs.Numbers.SheetLeft.{sheet_leaves}
use Rattle.demands.proofs.Boards.OnlyFetcher.{by_table}

-- ---- two that left the same

same_by : (a b : AfterSheet) → a.sums.number ≡ b.sums.number → a.sums.taken ≡ b.sums.taken → a.sums.«data» ≡ b.sums.«data»
    → a.sums.cells ≡ b.sums.cells → a.sums.again ≡ b.sums.again → a.sums.bits ≡ b.sums.bits → a.sums.edges ≡ b.sums.edges
    → a.numbers ≡ b.numbers → a.figures ≡ b.figures → a ≡ b
same_by a b n t d c g w e x y = λ i.
    record {
      sums = record { number = n i; taken = t i; «data» = d i; cells = c i; again = g i; bits = w i; edges = e i };
      numbers = x i;
      figures = y i;
    }

-- the same tables have the same sums
pub same_summed : (n : ℕ) (a b : AfterSheet) → Summed n a → Summed n b → a.sums.number ≡ b.sums.number → a.numbers ≡ b.numbers
    → a.figures ≡ b.figures → a ≡ b
same_summed n a b p q e x y =
    let same : (j : ℕ) → sum_from (figure_at a.figures j) 0 n ≡ sum_from (figure_at b.figures j) 0 n =
    λ j. ap (λ (f : List ℕ). sum_from (figure_at f j) 0 n) y in
    same_by a b e (p.taken ∙ same 0 ∙ sym q.taken) (p.«data» ∙ same 1 ∙ sym q.«data») (p.cells ∙ same 2 ∙ sym q.cells)
    (p.again ∙ same 3 ∙ sym q.again) (p.bits ∙ same 4 ∙ sym q.bits) (p.edges ∙ same 5 ∙ sym q.edges) x y

same-refused : (numbers figures : List ℕ) (a b : AfterSheet) → a.sums.number ≡ b.sums.number → SheetRefused numbers figures a
    → SheetRefused numbers figures b → a ≡ b
same-refused numbers figures a b n p q =
    same_by a b n (p.taken ∙ sym q.taken) (p.«data» ∙ sym q.«data») (p.cells ∙ sym q.cells) (p.again ∙ sym q.again)
    (p.bits ∙ sym q.bits) (p.edges ∙ sym q.edges) (p.numbers_kept ∙ sym q.numbers_kept) (p.figures_kept ∙ sym q.figures_kept)

-- the same front, entry by entry, and the same rest
same-list : (n : ℕ) (x y : List ℕ) → length x ≡ length y → ((i : ℕ) → i < n → get_or x i 0 ≡ get_or y i 0) → drop n x ≡ drop n y → x ≡ y
same-list zero x y l f d = d
same-list (suc n) [] [] l f d = refl
same-list (suc n) [] (b ∷ y) l f d = absurd (omega (arith, l))
same-list (suc n) (a ∷ x) [] l f d = absurd (omega (arith, l))
same-list (suc n) (a ∷ x) (b ∷ y) l f d =
    ap₂ ◌∷◌ (f 0 (omega arith)) (same-list n x y (omega (arith, l)) (λ i h. f (suc i) (omega (arith, h))) d)

module _ (kind mode : ℕ) (s lengths numbers figures : List ℕ) (a b : AfterSheet) (p : SheetFilled kind mode s lengths numbers figures a)
    (q : SheetFilled kind mode s lengths numbers figures b) where
  same_figure : (i j : ℕ) → i < length lengths → j < figures_a_row → figure_at a.figures j i ≡ figure_at b.figures j i
  same_figure i j l h =
      figure_entered (row_at kind mode s lengths i) i a.numbers a.figures (p.rows i l) j h
      ∙ sym (figure_entered (row_at kind mode s lengths i) i b.numbers b.figures (q.rows i l) j h)

  -- every entry of the front is some stream's
  same-entry : (k : ℕ) → k < figures_a_row * length lengths → get_or a.figures k 0 ≡ get_or b.figures k 0
  same-entry k h =
      let e = div-add-mod' k 6 in
      let w = mod-lt k (lit< {m = 0} {n = 6} tt) in
      let r : figures_a_row * (k / 6) + k % 6 ≡ k = omega (arith, e) in
      rw r at (same_figure (k / 6) (k % 6) (omega (arith, e, w, h)) w)

  same_figures : a.figures ≡ b.figures
  same_figures =
      same-list (figures_a_row * length lengths) a.figures b.figures (p.figures_many ∙ sym q.figures_many) same-entry
      (p.figures_rest ∙ sym q.figures_rest)

  same_numbers : a.numbers ≡ b.numbers
  same_numbers =
      same-list (length lengths) a.numbers b.numbers (p.numbers_many ∙ sym q.numbers_many)
      (λ i l. (p.rows i l).number ∙ sym (q.rows i l).number)
      (p.numbers_rest ∙ sym q.numbers_rest)

  same_filled : a.sums.number ≡ b.sums.number → a ≡ b
  same_filled n = same_summed (length lengths) a b p.columns q.columns n same_numbers same_figures

-- ---- a loader that has both gives our sheet

module _ (l : Loader) (table : SheetNumbers l) (leaves : SheetLeaves l) (kind mode : ℕ) (s lengths numbers figures : List ℕ) where
  abbrev theirs : AfterSheet
  theirs = l.sheet kind mode s lengths numbers figures

  abbrev our : AfterSheet
  our = ours.sheet kind mode s lengths numbers figures

  abbrev number : ℕ
  number = sheet_number kind mode s lengths (length numbers) (length figures)

  their_number : theirs.sums.number ≡ number
  unfolding sheet_number
  their_number =
      by_table [] theirs.sums.number done (table kind mode s lengths numbers figures) tt (sheet_rows_lem kind mode s lengths numbers figures)

  same_number : theirs.sums.number ≡ our.sums.number
  same_number = their_number ∙ sym (sheet_number_lem kind mode s lengths number)

  pub same_sheet : theirs ≡ our
  same_sheet =
      by_eq our.sums.number done
      (λ h.
      same_filled kind mode s lengths numbers figures theirs our (leaves.filled kind mode s lengths numbers figures (same_number ∙ h))
      (sheet_leaves.filled kind mode s lengths numbers figures h) same_number)
      (λ z.
      same-refused numbers figures theirs our same_number (leaves.refused kind mode s lengths numbers figures (λ h. z (sym same_number ∙ h)))
      (sheet_leaves.refused kind mode s lengths numbers figures z))

pub only_sheet : (l : Loader) → SheetNumbers l → SheetLeaves l → KeepsSheet l
only_sheet l table leaves kind mode s lengths numbers figures =
    let i = same_sheet l table leaves kind mode s lengths numbers figures in
    record {
      answer = ap (λ (a : AfterSheet). a.sums) i;
      numbers_left = ap (λ (a : AfterSheet). a.numbers) i;
      figures_left = ap (λ (a : AfterSheet). a.figures) i;
    }
