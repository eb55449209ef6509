-- A check leaves B3 of every register as it was: the device that it begins has it clear, and a control byte that sets it is 7 and stored
-- nowhere. Assumes nothing.
use Prim.Native.Nat.{ℕ, zero, suc}
use mathlib.Core.Bool.{true, false, and-false}
use mathlib.Core.Path.{◌≡◌, refl, sym, ap, ◌∙◌}
use mathlib.Core.List.{List, [], ◌∷◌}
use lib.Dec.{eqb}
use lib.ListN.{length, get_or, set}
use lib.Seq.{get_or-set_other}
use borrow.Author.Tests.{eqb-true}
use Rattle.chain.specs.declared.Chain.{Chain}
use Rattle.chain.specs.Paper.{preamble, at_control, checking, most_devices, done, no_check, more, B3}
use Rattle.chain.specs.Bytes.{Bytes}
use Rattle.chain.specs.State.{feed_number}
use Rattle.chain.specs.WellFormed.{place_register}
use Rattle.chain.proofs.ByCases.{by_test, by_eq}
use Rattle.chain.proofs.Means.{said, reads}
use Rattle.chain.proofs.Sound.{Sound, feed_sound}
use Rattle.awaited.specs.Byte.{awaits, number_of}
use Rattle.machine.specs.Run.{registers_of, Run, run, run_of}
use Rattle.machine.proofs.Runs.{After, run_by, memory-length, registers-length}
use Rattle.grammar.proofs.Runs.Stays.{went_stays}
use Rattle.grammar.proofs.Runs.Steps.{no_rule}
use Rattle.grammar.proofs.Runs.Keeps.{went_sound}

-- B3 of every register is the same
abbrev pub SameB3 : List ℕ → List ℕ → Type 0
SameB3 g h = (d : ℕ) → B3 (get_or h d 0) ≡ B3 (get_or g d 0)

-- of a list with one place set, each place holds what was set or what it held
set_either : (P : ℕ → Type 0) (l : List ℕ) (i b d : ℕ) → P b → P (get_or l d 0) → P (get_or (set l i b) d 0)
set_either P [] i b d x y = y
set_either P (z ∷ l) zero b zero x y = x
set_either P (z ∷ l) zero b (suc d) x y = y
set_either P (z ∷ l) (suc i) b zero x y = y
set_either P (z ∷ l) (suc i) b (suc d) x y = set_either P l i b d x y

set_b3 : (g : List ℕ) (i b : ℕ) → B3 (get_or g i 0) ≡ false → B3 b ≡ false → SameB3 g (set g i b)
set_b3 g i b h e d =
    by_eq d i
    (λ q. rw q (set_either (λ (x : ℕ). B3 x ≡ false) g i b i e h ∙ sym h))
    (λ n. ap B3 (get_or-set_other g i d b 0 n))

-- ---- one byte

module _ (c : Chain) (b len : ℕ) (s : Sound c len) (k : c.place.check ≡ checking) where
  -- at the control byte of a check the stored register has it clear
  stored_clear : awaits c at_control ≡ true → B3 (place_register c.registers c.place) ≡ false
  stored_clear e = said (search reads) (s.formed.at_2_checked (eqb-true c.place.awaited at_control e, k))

  -- and so has a control byte that is taken
  taken_clear : number_of c b ≡ more → awaits c at_control ≡ true → B3 b ≡ false
  taken_clear n e = rw (k, eqb-true c.place.awaited at_control e, and-false (eqb b preamble)) at (no_rule c b n no_check)

  byte_b3 : number_of c b ≡ more → SameB3 c.registers (registers_of c b)
  unfolding registers_of
  byte_b3 n =
      by_test (awaits c at_control) (λ e. rw e (set_b3 c.registers c.place.device b (stored_clear e) (taken_clear n e)))
      (λ e. rw e (λ d. refl))

-- ---- a run of them

module _ (c : Chain) (m bs : List ℕ) (small : Bytes bs) (eight : length c.registers ≡ most_devices) (h : feed_number c (length m) ≡ done)
    (k : c.place.check ≡ checking) where
  record Checks (d : Chain) (l : List ℕ) : Type 0 where
    registers : length d.registers ≡ most_devices
    sound : Sound d (length l)
    check : d.place.check ≡ checking
    b3 : SameB3 c.registers d.registers

  after : After Checks (λ (r : Run). SameB3 c.registers r.chain.registers) (run_of (run c m more) bs)
  after =
      run_by Checks (λ (r : Run). SameB3 c.registers r.chain.registers)
      (λ d l b low n s.
      record {
        registers = registers-length d l b ∙ s.registers;
        sound = rw (memory-length d l b) (went_sound d l b (length l) low s.registers n s.sound);
        check = (went_stays d l b).check ∙ s.check;
        b3 = λ i. byte_b3 d b (length l) s.sound s.check n i ∙ s.b3 i;
      })
      (λ d l b n s. s.b3) bs small c m
      (record { registers = eight; sound = feed_sound c (length m) h; check = k; b3 = λ i. refl })

  pub check_b3 : SameB3 c.registers (run_of (run c m more) bs).chain.registers
  check_b3 =
      by_eq (run_of (run c m more) bs).number more (λ e. (after.going e).b3) (λ e. after.over e)
