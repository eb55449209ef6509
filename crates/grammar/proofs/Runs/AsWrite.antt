-- A check goes the way of a write: as long as it goes on, a write of the same bytes does, over any memory, with the same registers and place.
-- Number 7 alone tells them apart, and it ends a check. Assumes nothing.
use Prim.Native.Nat.{ℕ}
use mathlib.Core.Bool.{and-false}
use mathlib.Core.Path.{◌≡◌, refl}
use mathlib.Core.List.{List, [], ◌∷◌}
use native.Mathlib.Omega.{arith}
use Rattle.chain.specs.declared.Chain.{Chain}
use Rattle.chain.specs.Paper.{writing, checking, done, more}
use Rattle.chain.specs.Set.{with_place}
use Rattle.chain.specs.WellFormed.{WellFormed}
use Rattle.chain.specs.State.{feed_number}
use Rattle.chain.proofs.FirstOf.{None, first-none, none_first}
use Rattle.chain.proofs.Sound.{feed_sound, sound_feed}
use Rattle.awaited.specs.Byte.{byte_rules, number_of}
use Rattle.machine.specs.Run.{registers_of, memory_of, missed_of, counted, Run, run, went_on, run_of}
use Rattle.machine.proofs.Runs.{run_went, run-first}
use Rattle.grammar.proofs.Runs.Blind.{sorted, advance_sorted}

-- the same chain, its run a write
abbrev pub as_write : Chain → Chain
as_write c = with_place c (sorted c.place writing 0)

-- ---- one byte

module _ (c : Chain) (b : ℕ) where
  -- a byte that no rule refuses is refused by none in a write
  number-as_write : number_of c b ≡ more → number_of (as_write c) b ≡ more
  unfolding number_of
  number-as_write n =
      let r : None (byte_rules c b) = first-none (byte_rules c b) more tt n in
      none_first (byte_rules (as_write c) b) more
      (r.0, (r.1.0, (r.1.1.0, (r.1.1.1.0, (r.1.1.1.1.0, (refl, r.1.1.1.1.1.1))))))

  write_misses : (n : List ℕ) → missed_of (as_write c) n b ≡ 0
  unfolding missed_of
  write_misses n = simp and-false

  registers-as_write : registers_of (as_write c) b ≡ registers_of c b
  unfolding registers_of
  registers-as_write = refl

  went_as_write : (m n : List ℕ) → went_on (as_write c) n b ≡ as_write (went_on c m b)
  went_as_write m n = rw (write_misses n, registers-as_write, advance_sorted writing 0 (counted c.place 1 (missed_of c m b)) b)

-- ---- a run of them

-- the second run goes on as the first does, as a write
pub record AsWrite (r s : Run) : Type 0 where
  pub number : s.number ≡ more
  pub chain : s.chain ≡ as_write r.chain

pub run-as_write : (bs : List ℕ) (c : Chain) (m n : List ℕ) → (run_of (run c m more) bs).number ≡ more
    → AsWrite (run_of (run c m more) bs) (run_of (run (as_write c) n more) bs)
run-as_write [] c m n h = unfold run_of in record { number = refl; chain = refl }
run-as_write (b ∷ bs) c m n h =
    let e = run-first c m b bs h in
    let f = run_went c m b bs e in
    rw (f, run_went (as_write c) n b bs (number-as_write c b e), went_as_write c b m n)
    (run-as_write bs (went_on c m b) (memory_of c m b) (memory_of (as_write c) n b) (rw f at h))

-- ---- a state that takes bytes takes them as a write

formed-as_write : (c : Chain) → WellFormed c c.registers c.place → WellFormed (as_write c) c.registers (sorted c.place writing 0)
formed-as_write c f =
    record {
      mode_1_to_6 = f.mode_1_to_6;
      write_or_check = (omega arith, omega arith);
      awaited_0_to_13 = f.awaited_0_to_13;
      device_in_chain = f.device_in_chain;
      unused_registers = f.unused_registers;
      write_mismatches = λ _. refl;
      first_device = f.first_device;
      second_in_6 = f.second_in_6;
      control_before = f.control_before;
      control_taken = f.control_taken;
      control_checked = λ e. absurd (no_check e.1);
      at_0_to_6_and_13 = f.at_0_to_6_and_13;
      at_7_to_12 = f.at_7_to_12;
      at_7_and_8 = f.at_7_and_8;
      at_9 = f.at_9;
      at_10 = f.at_10;
      at_11 = f.at_11;
      at_12 = f.at_12;
      at_2 = f.at_2;
      at_2_checked = λ e. absurd (no_check e.1);
    }
  where
    no_check : writing ≡ checking → ⊥
    no_check e = omega arith

pub feed_as_write : (c : Chain) (len : ℕ) → feed_number c len ≡ done → feed_number (as_write c) len ≡ done
feed_as_write c len h =
    let s = feed_sound c len h in
    let u = s.usable in
    sound_feed (as_write c) len
    (record {
      usable = record { fits = u.fits; kinds = u.kinds; registers = u.registers };
      running = s.running;
      formed = formed-as_write c s.formed;
    })
