-- The table of a load sheet's numbers. Assumes nothing.
use Prim.Native.Nat.{ℕ}
use mathlib.Core.List.{List}
use mathlib.Core.Path.{◌≡◌, refl, sym}
use borrow.Author.Tests.{eqb-true}
use lib.Dec.{eqb}
use lib.ListN.{length}
use Rattle.chain.specs.Paper.{done}
use Rattle.chain.specs.Table.{Table}
use Rattle.chain.proofs.ByCases.{by_test}
use Rattle.chain.proofs.BadChain.{m_unknown}
use Rattle.chain.proofs.Table.{Same, table, table-reads}
use Rattle.sheet.specs.Sheet.{sheet_rules, sheet_number, sheet_of}
use Rattle.demands.specs.SheetTable.{sheet_table, SheetNumbers}
use Rattle.demands.specs.Ours.{ours}

module _ (kind mode : ℕ) (s lengths numbers figures : List ℕ) where
  pub sheet_rows_lem : Same (sheet_rules kind mode s lengths (length numbers) (length figures)) (sheet_table kind mode s lengths numbers figures)
  sheet_rows_lem = search (m_unknown, table-reads) depth 60

  number-table : Table (sheet_number kind mode s lengths (length numbers) (length figures)) (sheet_table kind mode s lengths numbers figures) done
  unfolding sheet_number
  number-table = table (sheet_rules kind mode s lengths (length numbers) (length figures)) (sheet_table kind mode s lengths numbers figures) done tt sheet_rows_lem

-- the sums carry the call's number
pub sheet_number_lem : (kind mode : ℕ) (s lengths : List ℕ) (n : ℕ) → (sheet_of kind mode s lengths n).number ≡ n
unfolding sheet_of
sheet_number_lem kind mode s lengths n = by_test (eqb n done) (λ e. rw e (sym (eqb-true n done e))) (λ e. rw e refl)

pub sheet_numbers : SheetNumbers ours
sheet_numbers kind mode s lengths numbers figures =
    rw (sheet_number_lem kind mode s lengths (sheet_number kind mode s lengths (length numbers) (length figures))) (number-table kind mode s lengths numbers figures)
