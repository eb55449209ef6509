-- What a byte and a run of them leave as it was: the sort of run, and in a check every cell. Assumes nothing.
use Prim.Native.Nat.{ℕ}
use mathlib.Core.Bool.{false, and-false}
use mathlib.Core.Path.{◌≡◌, refl, ◌∙◌}
use mathlib.Core.List.{List}
use lib.Dec.{eqb}
use Rattle.chain.specs.declared.Chain.{Chain}
use Rattle.chain.specs.Paper.{checking, more}
use Rattle.chain.proofs.ByCases.{by_test}
use Rattle.awaited.specs.Byte.{number_of}
use Rattle.machine.specs.Run.{writes, memory_of, missed_of, counted, Run, step_of, run_of}
use Rattle.machine.proofs.Frame.{advance_frame}
use Rattle.machine.proofs.Runs.{run_keeps}

module _ (c : Chain) (m : List ℕ) (b : ℕ) where
  -- the sort of run stays
  pub step_check : (step_of c m b).chain.place.check ≡ c.place.check
  unfolding step_of
  step_check =
      by_test (eqb (number_of c b) more) (λ e. rw e (advance_frame (counted c.place 1 (missed_of c m b)) b).check) (λ e. rw e)

  -- a run that is no write changes no cell
  pub unwritten : writes c ≡ false → (step_of c m b).memory ≡ m
  unfolding step_of memory_of
  unwritten w = by_test (eqb (number_of c b) more) (λ e. simp (e, w, and-false)) (λ e. rw e)

-- ---- a run of them

record Still (r s : Run) : Type 0 where
  check : s.chain.place.check ≡ r.chain.place.check
  cells : writes r.chain ≡ false → s.memory ≡ r.memory

run-still : (bs : List ℕ) (r : Run) → Still r (run_of r bs)
run-still =
    run_keeps Still (λ r. record { check = refl; cells = λ _. refl })
    (λ r s t x y.
    record {
      check = y.check ∙ x.check;
      cells = λ w. y.cells (rw x.check w) ∙ x.cells w;
    })
    (λ r b. record { check = step_check r.chain r.memory b; cells = unwritten r.chain r.memory b })

-- a run that is no write changes no cell
pub unwritten_run : (bs : List ℕ) (r : Run) → writes r.chain ≡ false → (run_of r bs).memory ≡ r.memory
unwritten_run bs r = (run-still bs r).cells

-- a check changes no cell
pub check-cells : (bs : List ℕ) (r : Run) → r.chain.place.check ≡ checking → (run_of r bs).memory ≡ r.memory
check-cells bs r h = (run-still bs r).cells (rw h refl)
