-- The table of the tidier's numbers, and what its refusals leave. Assumes nothing.
use Prim.Native.Nat.{ℕ}
use mathlib.Core.Bool.{Bool, not}
use mathlib.Core.Logic.{◌≢◌}
use mathlib.Core.Path.{◌≡◌, refl, ap, ◌∙◌}
use mathlib.Core.List.{List, ◌∷◌}
use borrow.Author.Tests.{eqb-true, eqb-false}
use lib.Dec.{eqb, ltb}
use lib.ListN.{length}
use Rattle.chain.specs.Paper.{first_mode, done, bad_chain, too_short}
use Rattle.chain.specs.Rules.{Rule, ◌gives◌, pick, first_of}
use Rattle.chain.specs.Kinds.{size_of}
use Rattle.chain.specs.Bytes.{Bytes}
use Rattle.chain.specs.Output.{NothingWritten}
use Rattle.chain.specs.Table.{Table}
use Rattle.chain.proofs.ByCases.{by_test}
use Rattle.chain.proofs.BadChain.{m_unknown}
use Rattle.chain.proofs.Output.{nothing_written}
use Rattle.chain.proofs.Table.{table, table-reads}
use Rattle.tidy.specs.Tidy.{tidied, tidy_number, tidy_of, tidy_output}
use Rattle.demands.specs.ListTable.{own_number, tidy_table}
use Rattle.demands.proofs.Numbers.ListTables.{own_rules, spread, own-stream, own-among}

module _ (kind : ℕ) (s : List ℕ) (small : Bytes s) (out : List ℕ) where
  abbrev short : Bool
  short = ltb (length out) (length (tidied (size_of kind) s))

  abbrev rules : List Rule
  rules = (eqb (size_of kind) 0 gives bad_chain) ∷ own_rules (own_number kind first_mode s) short

  tidy_number_lem : tidy_number kind s (length out) ≡ first_of rules done
  unfolding tidy_number
  tidy_number_lem =
      by_test (eqb (size_of kind) 0) (λ e. rw e)
      (λ e.
      let known = eqb-false (size_of kind) 0 e in
      let own : ℕ = own_number kind first_mode s in
      rw e
      (ap (λ (n : ℕ). pick (not (eqb n done)) n (pick short too_short done)) (own-stream kind first_mode s small known refl)
      ∙ last own short
      ∙ spread own short (own-among kind first_mode s small known refl)))
    where
      last : (own : ℕ) (short : Bool)
          → pick (not (eqb own done)) own (pick short too_short done) ≡ pick (not (eqb own done)) own (pick short too_short own)
      last own short = by_test (eqb own done) (λ e. rw (eqb-true own done e)) (λ e. rw e)

  -- s is bytes, as its type in the code says
  pub tidy_table_lem : Table (tidy_of kind s (length out)).number (tidy_table kind s out) done
  tidy_table_lem = rw tidy_number_lem (table rules (tidy_table kind s out) done tt (search (m_unknown, table-reads) depth 40))

pub tidy_refused : (kind : ℕ) (s out : List ℕ) → (tidy_of kind s (length out)).number ≢ done
    → NothingWritten (tidy_of kind s (length out)).length out (tidy_output kind s out)
tidy_refused kind s out = nothing_written (tidy_number kind s (length out)) (tidied (size_of kind) s) out
