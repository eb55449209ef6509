-- One byte of an accepted stream: it is the last, or it goes on, and what its number tells of it. Assumes nothing.
use Prim.Native.Nat.{ℕ, ◌<◌}
use mathlib.Core.Bool.{Bool, true, false, not, ◌&&◌, ◌||◌, and-false, or-false, false≢true}
use mathlib.Core.Path.{◌≡◌, refl, ap, sym, subst, ◌∙◌}
use mathlib.Core.List.{List, [], ◌∷◌, ◌++◌, append_assoc}
use lib.Dec.{T, eqb}
use native.Mathlib.Omega.{arith}
use borrow.Author.Tests.{eqb-true, eq-eqb}
use Rattle.chain.specs.declared.Chain.{Chain}
use Rattle.chain.specs.declared.Place.{Place}
use Rattle.chain.specs.Paper.{preamble, postamble, at_preamble, at_second, at_start_low, at_end_low, at_check, done, more, B2}
use Rattle.chain.specs.Rules.{Rule, ◌gives◌, first_of}
use Rattle.chain.specs.Set.{with_place}
use Rattle.awaited.specs.Byte.{awaits, on_last, is_bad_start, is_bad_end, byte_rules, number_of}
use Rattle.machine.specs.Run.{went_on}
use Rattle.grammar.specs.Sent.{Sent, frame}
use Rattle.chain.specs.Bytes.{Bytes}
use Rattle.grammar.specs.Stores.{aim, walk_of}
use Rattle.grammar.proofs.Walk.{walk_on, walk_over}
use Rattle.grammar.proofs.Accepted.{Accepted, last, next, done-over}

-- ---- what a number tells

-- no rule of the list gives n
abbrev other : ℕ → List Rule → Bool
other n [] = true
other n ((holds gives m) ∷ rules) = not (eqb m n) && other n rules

-- none of them holds
abbrev NoneOf : List Rule → Type 0
NoneOf [] = Unit {0}
NoneOf ((holds gives m) ∷ rules) = (holds ≡ false) × NoneOf rules

-- one of them that gives n holds
abbrev one_of : ℕ → List Rule → Bool
one_of n [] = false
one_of n ((holds gives m) ∷ rules) = eqb m n && holds || one_of n rules

none_of : (n : ℕ) (rules : List Rule) → T (other n rules) → first_of rules n ≡ n → NoneOf rules
none_of n [] a e = tt
none_of n ((true gives m) ∷ rules) a e = absurd (rw (eq-eqb m n e) at a)
none_of n ((false gives m) ∷ rules) a e = (refl, none_of n rules (second (eqb m n) (other n rules) a) e)
  where
    second : (t u : Bool) → T (not t && u) → T u
    second true u h = absurd h
    second false u h = h

one_of_lem : (n k : ℕ) (rules : List Rule) → (k ≡ n → ⊥) → first_of rules k ≡ n → one_of n rules ≡ true
one_of_lem n k [] d e = absurd (d e)
one_of_lem n k ((true gives m) ∷ rules) d e = rw (eq-eqb m n e)
one_of_lem n k ((false gives m) ∷ rules) d e = rw (and-false (eqb m n)) (one_of_lem n k rules d e)

-- a byte that goes on: what it is not
pub record Clean (c : Chain) (b : ℕ) : Type 0 where
  pub opens : ((awaits c at_preamble || awaits c at_second) && not (eqb b preamble)) ≡ false
  pub check-byte : (awaits c at_check && not (eqb b postamble) && not (eqb b preamble)) ≡ false
  pub keeps_going : (awaits c at_check && eqb b preamble && B2 c.place.control) ≡ false
  pub next_device_lem : (awaits c at_check && eqb b preamble && on_last c) ≡ false
  pub start : (awaits c at_start_low && is_bad_start c b) ≡ false
  pub end : (awaits c at_end_low && is_bad_end c b) ≡ false
  pub unfinished : (awaits c at_check && eqb b postamble) ≡ false

module _ (c : Chain) (b : ℕ) where
  pub clean_of : number_of c b ≡ more → Clean c b
  unfolding number_of
  clean_of e =
      let n = none_of more (byte_rules c b) tt e in
      record {
        opens = n.0;
        check-byte = n.1.0;
        keeps_going = n.1.1.0;
        next_device_lem = n.1.1.1.0;
        start = n.1.1.1.1.1.1.0;
        end = n.1.1.1.1.1.1.1.0;
        unfinished = n.1.1.1.1.1.1.1.1.0;
      }

  -- only the postamble at the check byte is accepted
  pub finished : number_of c b ≡ done → (awaits c at_check && eqb b postamble) ≡ true
  unfolding number_of
  finished e = sym (or-false (awaits c at_check && eqb b postamble)) ∙ one_of_lem done more (byte_rules c b) differ e
    where
      differ : ◌≡◌ {A = ℕ} more done → ⊥
      differ q = omega arith

-- ---- one byte

-- the first byte of an accepted stream goes on, and rest is to come
pub record GoesOn (c : Chain) (bs : List ℕ) : Type 0 where
  pub byte : ℕ
  pub rest : List ℕ
  pub is : bs ≡ byte ∷ rest
  pub tells : Clean c byte
  pub sends : walk_of c bs ≡ record { byte = byte; to = aim c } ∷ walk_of (went_on c [] byte) rest
  pub accepted : Accepted (went_on c [] byte) rest

on-next : (c : Chain) (b : ℕ) (bs : List ℕ) → number_of c b ≡ more → Accepted (went_on c [] b) bs → GoesOn c (b ∷ bs)
on-next c b bs e a = record { byte = b; rest = bs; is = refl; tells = clean_of c b e; sends = walk_on c b bs e; accepted = a }

-- it goes on wherever the check byte is not awaited
pub on : (c : Chain) (bs : List ℕ) → awaits c at_check ≡ false → Accepted c bs → GoesOn c bs
on c [] w x'' = elim x'' [ ]
on c (b ∷ []) w (last e) = absurd (false≢true (rw w at (finished c b e)))
on c (b ∷ bs) w (next e a) = on-next c b bs e a

-- the check byte: the postamble, which is the last, or one that goes on
pub data AtCheck (c : Chain) (bs : List ℕ) : Type 0 where
  over : walk_of c bs ≡ frame postamble ∷ [] → AtCheck c bs
  onward : GoesOn c bs → AtCheck c bs

pub at_check_lem : (c : Chain) (bs : List ℕ) → awaits c at_check ≡ true → Accepted c bs → AtCheck c bs
at_check_lem c [] w x'' = elim x'' [ ]
at_check_lem c (b ∷ []) w (last e) = over (walk_over c b [] (done-over e) ∙ rw (eqb-true b postamble (rw w at (finished c b e))))
at_check_lem c (b ∷ bs) w (next e a) = onward (on-next c b bs e a)

-- ---- a part of a stream

-- the part xs of the stream bs is read, from the place p to the place q of one device: rest is to come
pub record Left (c : Chain) (bs : List ℕ) (p : Place) (xs : List Sent) (rest : List ℕ) (q : Place) : Type 0 where
  pub sends : walk_of (with_place c p) bs ≡ xs ++ walk_of (with_place c q) rest
  pub accepted : Accepted (with_place c q) rest
  pub bytes : Bytes rest
  pub device : q.device ≡ p.device
  pub control : q.control ≡ p.control

pub left_both : {c : Chain} {bs cs ds : List ℕ} {p q r : Place} {xs ys : List Sent}
    → Left c bs p xs cs q → Left c cs q ys ds r → Left c bs p (xs ++ ys) ds r
left_both {xs = xs} {ys = ys} a b =
    record {
      sends = a.sends ∙ ap (xs ++◌) b.sends ∙ sym (append_assoc xs ys _);
      accepted = b.accepted;
      bytes = b.bytes;
      device = b.device ∙ a.device;
      control = b.control ∙ a.control;
    }

-- a part of one byte
pub record OneLeft (c : Chain) (bs : List ℕ) (p : Place) (q : ℕ → Place) : Type 0 where
  pub byte : ℕ
  pub small : byte < 256
  pub rest : List ℕ
  pub tells : Clean (with_place c p) byte
  pub left : Left c bs p (record { byte = byte; to = aim (with_place c p) } ∷ []) rest (q byte)

-- every byte takes the run from the place p to q of the byte, on the same device
abbrev pub Moves : Chain → Place → (ℕ → Place) → Type 0
Moves c p q = (b : ℕ) → (went_on (with_place c p) [] b ≡ with_place c (q b)) × ((q b).device ≡ p.device) × ((q b).control ≡ p.control)

pub one : (c : Chain) (bs : List ℕ) (p : Place) (q : ℕ → Place) → awaits (with_place c p) at_check ≡ false → Moves c p q
    → Bytes bs → Accepted (with_place c p) bs → OneLeft c bs p q
one c bs p q w m u a =
    let o = on (with_place c p) bs w a in
    let v : Bytes (o.byte ∷ o.rest) = subst (λ (l : List ℕ). Bytes l) o.is u in
    record {
      byte = o.byte;
      small = v.0;
      rest = o.rest;
      tells = o.tells;
      left = record {
        sends = o.sends ∙ ap (λ (d : Chain). record { byte = o.byte; to = aim (with_place c p) } ∷ walk_of d o.rest) (m o.byte).0;
        accepted = subst (λ (d : Chain). Accepted d o.rest) (m o.byte).0 o.accepted;
        bytes = v.1;
        device = (m o.byte).1;
        control = (m o.byte).2;
      };
    }
