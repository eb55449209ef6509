-- The numbers of a byte, each by itself: which conditions can meet, and which cannot. Assumes nothing.
use Prim.Native.Nat.{ℕ, ◌+◌, ◌<◌}
use mathlib.Core.Logic.{◌↔◌, ⊎_elim}
use mathlib.Core.Path.{◌≡◌, ◌∙◌}
use mathlib.Core.List.{List, [], ◌∷◌}
use native.Mathlib.Nat.{mod-eq_of_lt}
use native.Mathlib.Omega.{arith}
use lib.Dec.{T}
use lib.ListN.{length}
use Rattle.chain.specs.declared.Chain.{Chain}
use Rattle.chain.specs.Paper.{at_second, at_control, at_start_low, at_end_low, at_check, no_preamble, barred, no_check, bad_check_byte, ends_here, last_device, bad_start, bad_end, more, bit3, bit4}
use Rattle.chain.specs.Table.{NoneOf, Running}
use Rattle.chain.proofs.Table.{has, before, Condition, none_of, row_of, feed_takes}
use Rattle.chain.proofs.Sound.{feed_sound}
use Rattle.awaited.specs.Byte.{next_device, number_of}
use Rattle.grammar.proofs.Runs.Slices.{slice_number_lem}
use Rattle.demands.specs.ByteTable.{Awaits, Begins, BeginsWith, Five, Six, Seven, Eight, Nine, Ten, own_table, slice_number, ByteNumbers}
use Rattle.demands.proofs.Numbers.ByteTables.{own_table_lem, run-one}

module _ (c : Chain) (b : ℕ) where
  -- what the awaited byte rules out
  no_five : (a : ℕ) → Awaits c a → at_second < a → Five c b → ⊥
  no_five a h g f = ⊎_elim (λ x. omega arith) (λ x. omega arith) f.0

  no_begin : (a d : ℕ) → Awaits c a → at_second < a → a < at_check → Begins c b d → ⊥
  no_begin a d h g k f =
      ⊎_elim (λ x. ⊎_elim (λ y. let z = y.0 in omega arith) (λ y. omega arith) x.0) (λ x. let z = x.0 in omega arith) f.1

  no_check-byte : {P Q : Type 0} (a : ℕ) → Awaits c a → a < at_check → Awaits c at_check × P × Q → ⊥
  no_check-byte a h g f = let z = f.0 in omega arith

  no_six : (bit a : ℕ) → Awaits c a → at_second < a → a < at_check → BeginsWith bit c b → ⊥
  no_six bit a h g k f = no_begin a f.0 h g k f.1

  no_seven : (a : ℕ) → Awaits c a → at_control < a → a < at_check → Seven c b → ⊥
  no_seven a h g k f = ⊎_elim (λ x. no_six bit3 a h (omega arith) k x) (λ x. let z = x.0 in omega arith) f.1

  -- B2 is neither of the bytes that give 5 and 8
  begun_five : (bit : ℕ) → BeginsWith bit c b → Five c b → ⊥
  begun_five bit h f = f.1 h.1.0

  begun-eight : (bit : ℕ) → BeginsWith bit c b → Eight c b → ⊥
  begun-eight bit h f = f.2 h.1.0

  seven_five : Seven c b → Five c b → ⊥
  seven_five h f = ⊎_elim (λ x. begun_five bit3 x f) (λ x. no_five at_control x.0 (omega arith) f) h.1

  seven_eight : Seven c b → Eight c b → ⊥
  seven_eight h f = ⊎_elim (λ x. begun-eight bit3 x f) (λ x. no_check-byte at_control x.0 (omega arith) f) h.1

  -- between the control byte and the check byte no number up to 7 is given
  early : {X : Type 0} (a : ℕ) → Awaits c a → at_control < a → a < at_check → X
      → (Five c b → ⊥) × ((Eight c b → ⊥) × ((Nine c b → ⊥) × ((Ten c b → ⊥) × ((Six c b → ⊥) × ((Seven c b → ⊥) × X)))))
  early a h g k x =
      (no_five a h (omega arith), (no_check-byte a h k, (no_check-byte a h k, (no_check-byte a h k, (no_six bit4 a h (omega arith) k, (no_seven a h g k, x))))))

  at_13 : Awaits c at_check → Five c b → ⊥
  at_13 h = no_five at_check h (omega arith)

  -- the row of the number k, and of one before it
  own : (k : ℕ) → T (has (own_table c b) k) → number_of c b ≡ k ↔ NoneOf (before (own_table c b) k) × Condition (own_table c b) k
  own = row_of (own_table c b) (number_of c b) more (own_table_lem c b)

  not-before : (k j : ℕ) → NoneOf (before (own_table c b) k) → Condition (before (own_table c b) k) j → ⊥
  not-before k j = none_of (before (own_table c b) k) j

  own_numbers : ByteNumbers (number_of c b) c b
  own_numbers =
      record {
        five = (λ e. ((own no_preamble tt).0 e).1, λ p. (own no_preamble tt).1 (tt, p));
        eight = (λ e. ((own bad_check_byte tt).0 e).1, λ p. (own bad_check_byte tt).1 ((at_13 p.0, tt), p));
        nine = (λ e. ((own ends_here tt).0 e).1, λ p. (own ends_here tt).1 ((at_13 p.0, (λ q. q.2 p.1, tt)), p));
        ten = (
          λ e. let r = (own last_device tt).0 e in (r.1, not-before last_device ends_here r.0),
          λ p. (own last_device tt).1 ((at_13 p.0.0, (λ q. q.2 p.0.1, (p.1, tt))), p.0),
        );
        six = (
          λ e. let r = (own barred tt).0 e in (r.1, not-before barred ends_here r.0, not-before barred last_device r.0),
          λ p. (own barred tt).1 ((begun_five bit4 p.0, (begun-eight bit4 p.0, (p.1, (p.2, tt)))), p.0),
        );
        seven = (
          λ e.
              let r = (own no_check tt).0 e in
              (r.1, not-before no_check ends_here r.0, not-before no_check last_device r.0, not-before no_check barred r.0),
          λ p. (own no_check tt).1 ((seven_five p.0, (seven_eight p.0, (p.1, (p.2, (p.3, tt))))), p.0),
        );
        eleven = (
          λ e. ((own bad_start tt).0 e).1,
          λ p. (own bad_start tt).1 (early at_start_low p.0 (omega arith) (omega arith) tt, p),
        );
        twelve = (
          λ e. ((own bad_end tt).0 e).1,
          λ p. (own bad_end tt).1 (early at_end_low p.0 (omega arith) (omega arith) (λ q. let x = q.0 in let y = p.0 in omega arith, tt), p),
        );
      }

pub byte_numbers : (c : Chain) (m : List ℕ) (b : ℕ) → Running c m → ByteNumbers (slice_number c m (b ∷ [])) c b
byte_numbers c m b k = rw (slice_number_lem c m (b ∷ []) ((feed_takes c m).1 k) ∙ run-one c m b) (own_numbers c b)

-- in such a state the next device is one further
pub next_device_lem : (c : Chain) (m : List ℕ) → Running c m → next_device c.place ≡ c.place.device + 1
next_device_lem c m k =
    let s = feed_sound c (length m) ((feed_takes c m).1 k) in
    mod-eq_of_lt (omega (arith, s.usable.fits.few, s.formed.device_in_chain))
