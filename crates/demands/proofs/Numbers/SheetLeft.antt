-- What a load sheet leaves: refused, all as lent; done, each stream's row in the front of the tables, and the sums of the columns. Assumes nothing.
use Prim.Native.Nat.{ℕ, ◌*◌, ◌<◌, ◌≤◌}
use mathlib.Core.Logic.{◌≢◌}
use mathlib.Core.Path.{◌≡◌, sym, ap, subst, ◌∙◌}
use mathlib.Core.List.{List}
use native.Mathlib.Omega.{arith}
use borrow.Author.Tests.{ne_eqb}
use lib.ListN.{length, drop, length-append, length-drop}
use lib.Seq.{drop_at}
use Rattle.chain.specs.Paper.{done}
use Rattle.chain.specs.Output.{over}
use Rattle.chain.proofs.Output.{refused_as_lent}
use Rattle.sheet.specs.declared.Sheet.{Sheet}
use Rattle.sheet.specs.Count.{sum_from}
use Rattle.sheet.specs.Stream.{reset_device}
use Rattle.sheet.specs.Sheet.{streams_of, rows_of, sum_of, sums_of, numbers_of, figures_a_row, figures_of, refused_sheet, sheet_number, sheet_rows, sheet_of}
use Rattle.sheet.proofs.Accepted.{accepted}
use Rattle.sheet.proofs.Rows.{numbers_length, figures_length}
use Rattle.sheet.proofs.Columns.{figure_of, column_sum}
use Rattle.demands.specs.Loader.{AfterSheet}
use Rattle.demands.specs.SheetTable.{figure_at, Entered, SheetRefused, SheetFilled, SheetLeaves}
use Rattle.demands.specs.Ours.{ours}
use Rattle.demands.proofs.Numbers.SheetTables.{sheet_number_lem}
use Rattle.demands.proofs.Numbers.SheetRows.{rows_many, row_is, entered}

-- ---- tables with something over their front

length_over : (xs out : List ℕ) → length xs ≤ length out → length (over xs out) ≡ length out
length_over xs out h =
    let a = length-append xs (drop (length xs) out) in
    let b = length-drop (length xs) out in
    omega (arith, a, b, h)

rest_over : (xs out : List ℕ) (n : ℕ) → length xs ≡ n → drop n (over xs out) ≡ drop n out
rest_over xs out n h = drop_at xs (drop (length xs) out) n h ∙ ap (λ (k : ℕ). drop k out) h

-- ---- ours

module _ (kind mode : ℕ) (s lengths numbers figures : List ℕ) where
  abbrev number : ℕ
  number = sheet_number kind mode s lengths (length numbers) (length figures)

  abbrev left : AfterSheet
  left = ours.sheet kind mode s lengths numbers figures

  refused_sums : number ≢ done → left.sums ≡ refused_sheet number
  unfolding sheet_of
  refused_sums z = rw (ne_eqb number done z)

  sheet_refused : number ≢ done → SheetRefused numbers figures left
  sheet_refused z =
      let e = refused_sums z in
      record {
        taken = ap (λ (r : Sheet). r.taken) e;
        «data» = ap (λ (r : Sheet). r.«data») e;
        cells = ap (λ (r : Sheet). r.cells) e;
        again = ap (λ (r : Sheet). r.again) e;
        bits = ap (λ (r : Sheet). r.bits) e;
        edges = ap (λ (r : Sheet). r.edges) e;
        numbers_kept = refused_as_lent number (numbers_of (sheet_rows kind mode s lengths)) numbers z;
        figures_kept = refused_as_lent number (figures_of (sheet_rows kind mode s lengths)) figures z;
      }

  abbrev rows : List Sheet
  rows = rows_of (reset_device kind) mode (streams_of lengths s)

  many : length rows ≡ length lengths
  many = rows_many (reset_device kind) mode lengths s

  abbrev full : AfterSheet
  full = record { sums = sums_of rows; numbers = over (numbers_of rows) numbers; figures = over (figures_of rows) figures }

  full-left : number ≡ done → left ≡ full
  unfolding sheet_of sheet_rows
  full-left h = rw h

  column : (j : ℕ) → j < figures_a_row → sum_of (figure_of j) rows ≡ sum_from (figure_at full.figures j) 0 (length lengths)
  column j h = sym (column_sum (drop (length (figures_of rows)) figures) j h rows) ∙ ap (sum_from (figure_at full.figures j) 0) many

  sheet_filled : number ≡ done → SheetFilled kind mode s lengths numbers figures full
  sheet_filled h =
      let fits = accepted kind mode s lengths (length numbers) (length figures) h in
      let n = numbers_length rows ∙ many in
      let f = figures_length rows ∙ ap (λ (k : ℕ). figures_a_row * k) many in
      record {
        numbers_many = length_over (numbers_of rows) numbers (omega (arith, n, fits.room_numbers));
        figures_many = length_over (figures_of rows) figures (omega (arith, f, fits.room_figures));
        rows =
            λ i l.
            subst (λ (r : Sheet). Entered r i full.numbers full.figures) (row_is (reset_device kind) mode lengths s i l)
            (entered (drop (length (numbers_of rows)) numbers) (drop (length (figures_of rows)) figures) rows i (omega (arith, l, many)));
        numbers_rest = rest_over (numbers_of rows) numbers (length lengths) n;
        figures_rest = rest_over (figures_of rows) figures (figures_a_row * length lengths) f;
        columns =
            record {
              taken = column 0 (omega arith);
              «data» = column 1 (omega arith);
              cells = column 2 (omega arith);
              again = column 3 (omega arith);
              bits = column 4 (omega arith);
              edges = column 5 (omega arith);
            };
      }

pub sheet_leaves : SheetLeaves ours
sheet_leaves =
    record {
      refused =
          λ kind mode s lengths numbers figures z.
          sheet_refused kind mode s lengths numbers figures
          (λ h. z (sheet_number_lem kind mode s lengths (sheet_number kind mode s lengths (length numbers) (length figures)) ∙ h));
      filled =
          λ kind mode s lengths numbers figures h.
          let e = sym (sheet_number_lem kind mode s lengths (sheet_number kind mode s lengths (length numbers) (length figures))) ∙ h in
          subst (SheetFilled kind mode s lengths numbers figures) (sym (full-left kind mode s lengths numbers figures e))
          (sheet_filled kind mode s lengths numbers figures e);
    }
