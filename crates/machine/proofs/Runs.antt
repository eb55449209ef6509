-- One step, and a run byte by byte: it goes on or it is over. Assumes nothing.
use Rattle.std.proofs.Common.{◌≡◌, ℕ, ◌<◌, ◌&&◌, eqb, List, [], ◌∷◌, length, get_or, set, sym, refl, ap, ◌∙◌, arith, length-set, get_or-set_other, eq-eqb, ne_eqb, eqb-true}
use borrow.Author.Tests.{eqb-false}
use Rattle.chain.specs.declared.Chain.{Chain}
use Rattle.chain.specs.Paper.{at_control, at_data, more}
use Rattle.chain.specs.Bytes.{Bytes}
use Rattle.chain.proofs.ByCases.{by_test, either_way}
use Rattle.awaited.specs.Byte.{awaits, number_of}
use Rattle.machine.specs.Run.{address_of, memory_of, writes, registers_of, ended, Run, run, went_on, step_of, on_byte, run_of}
use Rattle.machine.proofs.Feed.{run-over}

module _ (c : Chain) (m : List ℕ) (b : ℕ) where
  pub step_went : number_of c b ≡ more → step_of c m b ≡ run (went_on c m b) (memory_of c m b) more
  unfolding step_of
  step_went e = rw (eq-eqb (number_of c b) more e)

  pub step_ended : (number_of c b ≡ more → ⊥) → step_of c m b ≡ run (ended c) m (number_of c b)
  unfolding step_of
  step_ended e = rw (ne_eqb (number_of c b) more e)

  pub step_number : (step_of c m b).number ≡ number_of c b
  step_number =
      by_test (eqb (number_of c b) more)
      (λ e. let g = eqb-true (number_of c b) more e in rw (step_went g) (sym g))
      (λ e. rw (step_ended (eqb-false (number_of c b) more e)))

  pub run_went : (bs : List ℕ) → number_of c b ≡ more
      → run_of (run c m more) (b ∷ bs) ≡ run_of (run (went_on c m b) (memory_of c m b) more) bs
  unfolding run_of
  run_went bs e = ap (λ (r : Run). run_of r bs) (step_went e)

  pub run-ended : (bs : List ℕ) → (number_of c b ≡ more → ⊥)
      → run_of (run c m more) (b ∷ bs) ≡ run (ended c) m (number_of c b)
  unfolding run_of
  run-ended bs e = ap (λ (r : Run). run_of r bs) (step_ended e) ∙ run-over bs (run (ended c) m (number_of c b)) e

  -- open in the end, open after the first byte
  pub run-first : (bs : List ℕ) → (run_of (run c m more) (b ∷ bs)).number ≡ more → number_of c b ≡ more
  run-first bs n =
      by_test (eqb (number_of c b) more) (eqb-true (number_of c b) more)
      (λ e. sym (ap (λ (r : Run). r.number) (run-ended bs (eqb-false (number_of c b) more e))) ∙ n)

-- P of an open run, Q of one that is over
pub record After (P : Chain → List ℕ → Type 0) (Q : Run → Type 0) (r : Run) : Type 0 where
  pub going : r.number ≡ more → P r.chain r.memory
  pub over : (r.number ≡ more → ⊥) → Q r

-- what each byte keeps a run keeps
pub run_by : (P : Chain → List ℕ → Type 0) (Q : Run → Type 0)
    → ((c : Chain) (m : List ℕ) (b : ℕ) → b < 256 → number_of c b ≡ more → P c m → P (went_on c m b) (memory_of c m b))
    → ((c : Chain) (m : List ℕ) (b : ℕ) → (number_of c b ≡ more → ⊥) → P c m → Q (run (ended c) m (number_of c b)))
    → (bs : List ℕ) → Bytes bs → (c : Chain) (m : List ℕ) → P c m → After P Q (run_of (run c m more) bs)
unfolding run_of
run_by P Q goes stops [] small c m x = record { going = λ _. x; over = λ n. absurd (n refl) }
run_by P Q goes stops (b ∷ bs) small c m x =
    by_test (eqb (number_of c b) more)
    (λ e.
    let g = eqb-true (number_of c b) more e in
    rw (run_went c m b bs g) (run_by P Q goes stops bs small.1 (went_on c m b) (memory_of c m b) (goes c m b small.0 g x)))
    (λ e.
    let g = eqb-false (number_of c b) more e in
    rw (run-ended c m b bs g) (record { going = λ n. absurd (g n); over = λ _. stops c m b g x }))

-- a relation of a run to a later one that each byte keeps, a run of them keeps
pub run_keeps : (R : Run → Run → Type 0) → ((r : Run) → R r r) → ((r s t : Run) → R r s → R s t → R r t)
    → ((r : Run) (b : ℕ) → R r (step_of r.chain r.memory b)) → (bs : List ℕ) (r : Run) → R r (run_of r bs)
unfolding run_of
run_keeps R same both step [] r = same r
run_keeps R same both step (b ∷ bs) r =
    both r (on_byte r b) (run_of (on_byte r b) bs)
    (either_way (R r) (eqb r.number more) (step_of r.chain r.memory b) r (step r b) (same r))
    (run_keeps R same both step bs (on_byte r b))

-- ---- what no byte changes, whether the run goes on or not

pub record Lasts (r s : Run) : Type 0 where
  pub count : s.chain.count ≡ r.chain.count
  pub kinds : s.chain.kinds ≡ r.chain.kinds
  pub registers : length s.chain.registers ≡ length r.chain.registers
  pub memory : length s.memory ≡ length r.memory

-- what holds of the registers, and of the registers with the byte loaded, holds after the byte, whether it was loaded or not
module _ (c : Chain) (b : ℕ) where
  pub registers_either : (P : List ℕ → Type 0) → P (set c.registers c.place.device b) → P c.registers → P (registers_of c b)
  unfolding registers_of
  registers_either P h k = either_way P (awaits c at_control) (set c.registers c.place.device b) c.registers h k

  -- no byte loads the register of a later device
  pub registers-later : (e : ℕ) → c.place.device < e → get_or (registers_of c b) e 0 ≡ get_or c.registers e 0
  registers-later e h =
      registers_either (λ g. get_or g e 0 ≡ get_or c.registers e 0) (get_or-set_other c.registers c.place.device e b 0 (λ z. omega arith)) refl

module _ (c : Chain) (m : List ℕ) (b : ℕ) where
  pub memory-length : length (memory_of c m b) ≡ length m
  unfolding memory_of
  memory-length = either_way (λ (k : List ℕ). length k ≡ length m) (awaits c at_data && writes c) (set m (address_of c) b) m (length-set m (address_of c) b) refl

  pub registers-length : length (registers_of c b) ≡ length c.registers
  registers-length = registers_either c b (λ g. length g ≡ length c.registers) (length-set c.registers c.place.device b) refl

pub step_lasts : (r : Run) (b : ℕ) → Lasts r (step_of r.chain r.memory b)
unfolding step_of
step_lasts r b =
    let c = r.chain in
    let m = r.memory in
    either_way (Lasts r) (eqb (number_of c b) more) (run (went_on c m b) (memory_of c m b) more) (run (ended c) m (number_of c b))
    (record { count = refl; kinds = refl; registers = registers-length c m b; memory = memory-length c m b })
    (record { count = refl; kinds = refl; registers = refl; memory = refl })

pub run_lasts : (bs : List ℕ) (r : Run) → Lasts r (run_of r bs)
run_lasts =
    run_keeps Lasts
    (λ r. record { count = refl; kinds = refl; registers = refl; memory = refl })
    (λ r s t x y. record { count = y.count ∙ x.count; kinds = y.kinds ∙ x.kinds; registers = y.registers ∙ x.registers; memory = y.memory ∙ x.memory })
    step_lasts
