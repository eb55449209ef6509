-- No sum of a sheet and no figure passes 32 bits, and the figures of a row stand to each other as the claims say. Of every loader whose sheet keeps its
-- promise. Assumes nothing.
use Prim.Native.Nat.{ℕ, ◌+◌, ◌*◌, ◌^◌, ◌≤◌, ◌<◌}
use mathlib.Core.Path.{◌≡◌, ap, sym, subst, ◌∙◌}
use mathlib.Core.List.{List, ◌++◌}
use native.Mathlib.Omega.{arith}
use lib.ListN.{length, get_or, drop, get_or-append}
use Rattle.chain.specs.Paper.{most_bytes, done}
use Rattle.chain.specs.Bytes.{Bytes}
use Rattle.chain.specs.Output.{output_of}
use Rattle.sheet.specs.declared.Sheet.{Sheet}
use Rattle.sheet.specs.Stream.{reset_device}
use Rattle.sheet.specs.Sheet.{figures_a_row, figures_of, sheet_number, sheet_rows}
use Rattle.sheet.proofs.Accepted.{accepted}
use Rattle.sheet.proofs.Bounds.{RowBounds}
use Rattle.sheet.proofs.Rows.{figures_length}
use Rattle.sheet.proofs.Totals.{sheet_each, answer_small, entries_small}
use Rattle.demands.specs.Loader.{Loader, AfterSheet}
use Rattle.demands.specs.SheetTable.{KeepsSheet, row_at, figure_at}
use Rattle.demands.specs.LoadSheets.{Within32, FiguresAmong}
use Rattle.demands.proofs.Numbers.SheetTables.{sheet_number_lem}
use Rattle.demands.proofs.Numbers.SheetRows.{row_in, each_in, rows_many, row_is}
use Rattle.demands.proofs.Sheets.Kept.{sheet_leaves-kept}

-- a row by itself
record Bounded (r : Sheet) : Type 0 where
  pub «data» : r.«data» ≤ r.taken
  pub stores : r.cells + r.again ≤ r.«data»
  pub again : r.again ≤ r.cells
  pub bits : r.bits ≤ 8 * r.cells

bounded : (s : List ℕ) (r : Sheet) → length s ≤ most_bytes → RowBounds s r → Bounded r
bounded s r h b = record { «data» = b.«data»; stores = b.cells; again = b.again; bits = b.bits }

module _ (l : Loader) (k : KeepsSheet l) (kind mode : ℕ) (s lengths numbers figures : List ℕ) (u : Bytes s) where
  abbrev w : AfterSheet
  w = l.sheet kind mode s lengths numbers figures

  abbrev n : ℕ
  n = sheet_number kind mode s lengths (length numbers) (length figures)

  abbrev rows : List Sheet
  rows = sheet_rows kind mode s lengths

  many : length rows ≡ length lengths
  unfolding sheet_rows
  many = rows_many (reset_device kind) mode lengths s

  -- the row of a stream is that of the definition
  row_of : (i : ℕ) → i < length lengths → row_in rows i ≡ row_at kind mode s lengths i
  unfolding sheet_rows
  row_of i h = row_is (reset_device kind) mode lengths s i h

  -- ---- answered 0

  module _ (z : w.sums.number ≡ done) where
    abbrev rest : List ℕ
    rest = drop (length (figures_of rows)) figures

    done_is : n ≡ done
    done_is = sym (ap (λ (r : Sheet). r.number) (k kind mode s lengths numbers figures).answer ∙ sheet_number_lem kind mode s lengths n) ∙ z

    table_is : w.figures ≡ figures_of rows ++ rest
    table_is = (k kind mode s lengths numbers figures).figures_left ∙ ap (λ (x : ℕ). output_of x (figures_of rows) figures) done_is

    entry_small : (i j : ℕ) → i < length lengths → j < figures_a_row → figure_at w.figures j i < 2 ^ 32
    entry_small i j h g =
        let e : figure_at w.figures j i ≡ get_or (figures_of rows) (figures_a_row * i + j) 0 =
        ap (λ (t : List ℕ). figure_at t j i) table_is
        ∙ get_or-append (figures_of rows) rest 0 (figures_a_row * i + j) (omega (arith, figures_length rows, many)) in
        rw e (entries_small kind mode s lengths (length numbers) (length figures) u done_is (figures_a_row * i + j))

    row_bounded : (i : ℕ) → i < length lengths → Bounded (row_at kind mode s lengths i)
    row_bounded i h =
        let a = accepted kind mode s lengths (length numbers) (length figures) done_is in
        let b = sheet_each kind mode s lengths a.known a.mode_known u a.few a.short Bounded bounded in
        subst Bounded (row_of i h) (each_in Bounded rows b i (omega (arith, h, many)))

pub within_32 : (l : Loader) → KeepsSheet l → Within32 l
within_32 l k kind mode s lengths numbers figures u =
    let b = answer_small kind mode s lengths (length numbers) (length figures) u in
    let e = (k kind mode s lengths numbers figures).answer in
    record {
      taken = rw e b.taken;
      «data» = rw e b.«data»;
      cells = rw e b.cells;
      again = rw e b.again;
      bits = rw e b.bits;
      edges = rw e b.edges;
      figures = λ z i j h g. entry_small l k kind mode s lengths numbers figures u z i j h g;
    }

pub figures_among : (l : Loader) → KeepsSheet l → FiguresAmong l
figures_among l k kind mode s lengths numbers figures u z i h =
    let e = ((sheet_leaves-kept l k).filled kind mode s lengths numbers figures z).rows i h in
    let b = row_bounded l k kind mode s lengths numbers figures u z i h in
    record {
      «data» = omega (arith, b.«data», e.taken, e.«data»);
      stores = omega (arith, b.stores, e.«data», e.cells, e.again);
      again = omega (arith, b.again, e.cells, e.again);
      bits = omega (arith, b.bits, e.cells, e.bits);
    }
