-- A byte, and a run, from a well-formed open place: closed, or well formed. Assumes nothing.
use Prim.Native.Nat.{ℕ, ◌<◌, ◌≤◌}
use mathlib.Core.Bool.{true, and-false}
use mathlib.Core.Path.{◌≡◌, ◌∙◌}
use mathlib.Core.List.{List}
use borrow.Author.Tests.{eqb-true}
use lib.Dec.{eqb}
use lib.ListN.{length}
use Rattle.chain.specs.declared.Chain.{Chain}
use Rattle.chain.specs.declared.Place.{Place}
use Rattle.chain.specs.Paper.{writing, most_devices, done, more}
use Rattle.chain.specs.Set.{with_place, closed_place}
use Rattle.chain.specs.State.{is_well_formed, state_number, feed_number}
use Rattle.chain.specs.Bytes.{Bytes}
use Rattle.chain.proofs.ByCases.{by_test}
use Rattle.chain.proofs.WellFormed.{formed_of, of_formed}
use Rattle.chain.proofs.Sound.{Sound, feed_sound, sound_feed, feed_closed}
use Rattle.awaited.specs.Byte.{number_of}
use Rattle.machine.specs.Run.{missed_of, registers_of, counted, Run, run, went_on, run_of}
use Rattle.machine.proofs.Runs.{After, run_by, memory-length, registers-length}
use Rattle.grammar.proofs.Runs.Stays.{went_stays}
use Rattle.grammar.proofs.Runs.Steps.{advance_keeps}

-- ---- one byte

-- a byte counted, and in a check perhaps a mismatch
pub counted_keeps : (c : Chain) (g : List ℕ) (p : Place) (n k : ℕ) → (p.check ≡ writing → k ≡ 0)
    → is_well_formed c g p ≡ true → is_well_formed c g (counted p n k) ≡ true
unfolding is_well_formed
counted_keeps c g p n k z h =
    by_test (eqb p.check writing)
    (λ e.
    let w = eqb-true p.check writing e in
    let m = (formed_of c g p h).write_mismatches w in
    rw (z w, m) (rw m at h))
    (λ e. rw e (rw e at h))

pub write_misses : (c : Chain) (m : List ℕ) (b : ℕ) → c.place.check ≡ writing → missed_of c m b ≡ 0
unfolding missed_of
write_misses c m b w = rw (w, and-false)

module _ (c : Chain) (m : List ℕ) (b : ℕ) where
  pub went_keeps : b < 256 → c.count ≤ most_devices → length c.registers ≡ most_devices
      → is_well_formed c c.registers c.place ≡ true → number_of c b ≡ more
      → is_well_formed (went_on c m b) (went_on c m b).registers (went_on c m b).place ≡ true
  unfolding is_well_formed number_of registers_of
  went_keeps small few eight h n =
      advance_keeps c (counted c.place 1 (missed_of c m b)) b small few eight
      (counted_keeps c c.registers c.place 1 (missed_of c m b) (write_misses c m b) h) n

-- ---- the state: where a slice is taken, it is taken again

pub went_sound : (c : Chain) (m : List ℕ) (b len : ℕ) → b < 256 → length c.registers ≡ most_devices → number_of c b ≡ more
    → Sound c len → Sound (went_on c m b) len
went_sound c m b len small eight n s =
    let u = s.usable in
    let d = went_on c m b in
    let w = formed_of d d.registers d.place (went_keeps c m b small u.fits.few eight (of_formed c c.registers c.place s.formed) n) in
    record {
      usable = record { fits = u.fits; kinds = u.kinds; registers = w.unused_registers };
      running = (went_stays c m b).running ∙ s.running;
      formed = w;
    }

-- a run that goes on leaves a state that takes the next slice; one that is over, its place closed, a state that every call takes
module _ (c : Chain) (m bs : List ℕ) (small : Bytes bs) (eight : length c.registers ≡ most_devices) (h : feed_number c (length m) ≡ done) where
  abbrev Open : Chain → List ℕ → Type 0
  Open d k = (length d.registers ≡ most_devices) × (feed_number d (length k) ≡ done)

  abbrev Closed : Run → Type 0
  Closed r = state_number (with_place r.chain closed_place) (length r.memory) ≡ done

  run-after : After Open Closed (run_of (run c m more) bs)
  run-after =
      run_by Open Closed
      (λ d k b small n s. (
        registers-length d k b ∙ s.0,
        rw (memory-length d k b) (sound_feed (went_on d k b) (length k) (went_sound d k b (length k) small s.0 n (feed_sound d (length k) s.1))),
      ))
      (λ d k b n s. feed_closed d (length k) s.1) bs small c m (eight, h)

  pub run_open : (run_of (run c m more) bs).number ≡ more
      → feed_number (run_of (run c m more) bs).chain (length (run_of (run c m more) bs).memory) ≡ done
  run_open n = (run-after.going n).1

  pub run-closed : ((run_of (run c m more) bs).number ≡ more → ⊥)
      → state_number (with_place (run_of (run c m more) bs).chain closed_place) (length (run_of (run c m more) bs).memory) ≡ done
  run-closed n = run-after.over n
