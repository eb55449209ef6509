-- What an open run keeps from byte to byte: count, kinds, running, mode and check. Assumes nothing.
use Prim.Native.Nat.{ℕ}
use mathlib.Core.Path.{◌≡◌, refl, ◌∙◌}
use mathlib.Core.List.{List, [], ◌∷◌}
use Rattle.chain.specs.declared.Chain.{Chain}
use Rattle.chain.specs.Paper.{more}
use Rattle.machine.specs.Run.{memory_of, missed_of, counted, run, went_on, run_of}
use Rattle.machine.proofs.Frame.{advance_frame}
use Rattle.machine.proofs.Runs.{run_went, run-first}

pub record Stays (c d : Chain) : Type 0 where
  pub count : d.count ≡ c.count
  pub kinds : d.kinds ≡ c.kinds
  pub running : d.place.running ≡ c.place.running
  pub mode : d.place.mode ≡ c.place.mode
  pub check : d.place.check ≡ c.place.check

pub went_stays : (c : Chain) (m : List ℕ) (b : ℕ) → Stays c (went_on c m b)
went_stays c m b =
    let f = advance_frame (counted c.place 1 (missed_of c m b)) b in
    record { count = refl; kinds = refl; running = f.running; mode = f.mode; check = f.check }

pub stays_trans : (c d e : Chain) → Stays c d → Stays d e → Stays c e
stays_trans c d e s t =
    record {
      count = t.count ∙ s.count;
      kinds = t.kinds ∙ s.kinds;
      running = t.running ∙ s.running;
      mode = t.mode ∙ s.mode;
      check = t.check ∙ s.check;
    }

pub run_stays : (bs : List ℕ) (c : Chain) (m : List ℕ) → (run_of (run c m more) bs).number ≡ more → Stays c (run_of (run c m more) bs).chain
run_stays [] c m n = unfold run_of in record { count = refl; kinds = refl; running = refl; mode = refl; check = refl }
run_stays (b ∷ bs) c m n =
    let e = run_went c m b bs (run-first c m b bs n) in
    rw e
    (stays_trans c (went_on c m b) (run_of (run (went_on c m b) (memory_of c m b) more) bs).chain (went_stays c m b)
    (run_stays bs (went_on c m b) (memory_of c m b) (rw e at n)))
