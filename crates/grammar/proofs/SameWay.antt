-- A write over other registers goes the same way: it reads a register only to ask whether B4 bars the device that B2 begins. Assumes nothing.
use Prim.Native.Nat.{ℕ}
use mathlib.Core.Bool.{Bool, true, false, ◌&&◌, true≢false}
use mathlib.Core.Path.{◌≡◌, refl, ap, sym, subst, ◌∙◌}
use mathlib.Core.List.{List, [], ◌∷◌}
use native.Mathlib.Omega.{arith}
use lib.Dec.{eqb, ltb}
use lib.ListN.{length, get_or, get_or-eq_default}
use borrow.Author.Tests.{eqb-true, ltb-true, ltb-false}
use Rattle.chain.specs.declared.Chain.{Chain}
use Rattle.chain.specs.Paper.{at_check, writing, checking, done, barred, more, B4}
use Rattle.chain.specs.Rules.{pick, Rule, ◌gives◌, first_of}
use Rattle.chain.proofs.ByCases.{by_test}
use Rattle.awaited.specs.Byte.{awaits, checks, begins, next_device, register_begun, byte_rules, number_of}
use Rattle.machine.specs.Run.{writes, address_of, registers_of, missed_of, went_on}
use Rattle.grammar.specs.Sent.{Target, Sent, memory, registers, Slot, no_slot, index, slot, after}
use Rattle.grammar.specs.Stores.{aim, walk_of}
use Rattle.grammar.proofs.Walk.{walk_on, walk_over, put, write_changes, byte_stores, byte-changes}
use Rattle.grammar.proofs.Accepted.{Accepted, last, next, done-over}
use Rattle.grammar.proofs.OtherRegisters.{with_registers}
use Rattle.grammar.proofs.LastByte.{length-put, get_or-put}

-- B4 of the second is clear where that of the first is: what the one lets through, the other does
abbrev Looser : ℕ → ℕ → Type 0
Looser x y = B4 x ≡ false → B4 y ≡ false

-- and so for every register
abbrev pub Freer : List ℕ → List ℕ → Type 0
Freer g h = (d : ℕ) → B4 (get_or g d 0) ≡ false → B4 (get_or h d 0) ≡ false

-- ---- the same byte put into both

-- any place after a store, past the end too
pub get_or-put_any : (t : Slot) (b : ℕ) (l : List ℕ) (i : ℕ) → get_or (put t b l) i 0 ≡ pick (ltb i (length l)) (after t b i (get_or l i 0)) 0
get_or-put_any t b l i =
    by_test (ltb i (length l)) (λ e. rw e (get_or-put t b l i (ltb-true i (length l) e)))
    (λ e. rw e (get_or-eq_default (put t b l) 0 (omega (arith, length-put t b l, ltb-false i (length l) e))))

looser_first : (k : Bool) (b x y : ℕ) → Looser x y → Looser (pick k b x) (pick k b y)
looser_first true b x y f = λ h. h
looser_first false b x y f = f

looser_second : (k : Bool) (b x y : ℕ) → Looser x y → Looser (pick k x b) (pick k y b)
looser_second true b x y f = f
looser_second false b x y f = λ h. h

looser_after : (t : Slot) (b i x y : ℕ) → Looser x y → Looser (after t b i x) (after t b i y)
looser_after no_slot b i x y f = f
looser_after (index j) b i x y f = looser_first (eqb i j) b x y f

pub freer_put : (t : Slot) (b : ℕ) (g h : List ℕ) → length h ≡ length g → Freer g h → Freer (put t b g) (put t b h)
freer_put t b g h l f =
    λ d.
    rw (get_or-put_any t b g d, get_or-put_any t b h d, l)
    (looser_second (ltb d (length g)) 0 (after t b d (get_or g d 0)) (after t b d (get_or h d 0)) (looser_after t b d (get_or g d 0) (get_or h d 0) (f d)))

-- ---- one byte

-- two lists of rules, rule by rule: the same rule, one that gives 6 no more often, or one that holds in neither list
data Near : List Rule → List Rule → Type 0 where
  none : Near [] []
  same : {r : Rule} {rs ss : List Rule} → Near rs ss → Near (r ∷ rs) (r ∷ ss)
  laxer : {p q : Bool} {rs ss : List Rule} → (p ≡ false → q ≡ false) → Near rs ss → Near ((p gives barred) ∷ rs) ((q gives barred) ∷ ss)
  never : {p q : Bool} {n : ℕ} {rs ss : List Rule} → p ≡ false → q ≡ false → Near rs ss → Near ((p gives n) ∷ rs) ((q gives n) ∷ ss)

-- where the first list does not give 6, both give the same
near_first : {rs ss : List Rule} → Near rs ss → (n : ℕ) → (first_of rs n ≡ barred → ⊥) → first_of ss n ≡ first_of rs n
near_first none n h = refl
near_first (same {r = true gives m} x) n h = refl
near_first (same {r = false gives m} x) n h = near_first x n h
near_first (laxer {p = true} f x) n h = absurd (h refl)
near_first (laxer {p = false} f x) n h = rw (f refl) (near_first x n h)
near_first (never {p = true} e f x) n h = absurd (true≢false e)
near_first (never {p = false} e f x) n h = rw f (near_first x n h)

module _ (c : Chain) (h : List ℕ) (b : ℕ) (w : writes c ≡ true) where
  no_checks : checks c ≡ false
  no_checks = ap (λ (x : ℕ). eqb x checking) (eqb-true c.place.check writing w)

  -- the device that B2 begins is barred no more often
  laxer_begun : Freer c.registers h → (begins c b && B4 (register_begun c)) ≡ false → (begins c b && B4 (register_begun (with_registers c h))) ≡ false
  laxer_begun f = both (begins c b) (f (pick (awaits c at_check) (next_device c.place) c.place.device))
    where
      both : (k : Bool) {x y : Bool} → (x ≡ false → y ≡ false) → (k && x) ≡ false → (k && y) ≡ false
      both true g e = g e
      both false g e = refl

  -- number 7 needs a check, so that 6 is the only one that a register can give
  number_same : Freer c.registers h → (number_of c b ≡ barred → ⊥) → number_of (with_registers c h) b ≡ number_of c b
  unfolding number_of
  number_same f n =
      near_first {rs = byte_rules c b} {ss = byte_rules (with_registers c h) b}
      (same (same (same (same (laxer (laxer_begun f) (never (rw no_checks) (rw no_checks) (same (same (same none)))))))))
      more n

-- no registers are read elsewhere
module _ (c : Chain) (h : List ℕ) (b : ℕ) where
  aim_same : aim (with_registers c h) ≡ aim c
  unfolding address_of
  aim_same = refl

  went_same : went_on (with_registers c h) [] b ≡ with_registers (went_on c [] b) (registers_of (with_registers c h) b)
  unfolding missed_of address_of
  went_same = refl

-- ---- all of an accepted stream

-- over registers that bar no more, a write that is accepted is accepted, with every byte aimed where it was
pub same_way : (bs : List ℕ) (o : Chain) (h : List ℕ) → writes o ≡ true → Accepted o bs → length h ≡ length o.registers → Freer o.registers h
    → Accepted (with_registers o h) bs × (walk_of (with_registers o h) bs ≡ walk_of o bs)
same_way [] o h w x4 l f = elim x4 [ ]
same_way (b ∷ []) o h w (last e) l f =
    let n : number_of (with_registers o h) b ≡ done = number_same o h b w f (λ q. omega arith) ∙ e in
    (last n, walk_over (with_registers o h) b [] (done-over n) ∙ sym (walk_over o b [] (done-over e)))
same_way (b ∷ bs) o h w (next e a) l f =
    let n : number_of (with_registers o h) b ≡ more = number_same o h b w f (λ q. omega arith) ∙ e in
    let s = went_same o h b in
    let p = byte_stores o [] b registers (write_changes registers o w) in
    let q = byte_stores (with_registers o h) [] b registers (write_changes registers (with_registers o h) w) ∙ ap (λ (y : Target). put (slot registers y) b h) (aim_same o h b) in
    let i = same_way bs (went_on o [] b) (registers_of (with_registers o h) b) (byte-changes o [] b memory (write_changes memory o w)) a
    (rw (p, q, length-put (slot registers (aim o)) b h, l) (sym (length-put (slot registers (aim o)) b o.registers)))
    (rw (p, q) (freer_put (slot registers (aim o)) b o.registers h l f)) in (
      next n (subst (λ (d : Chain). Accepted d bs) (sym s) i.0),
      walk_on (with_registers o h) b bs n ∙ rw (aim_same o h b) (ap (λ (x : List Sent). record { byte = b; to = aim o } ∷ x) (ap (λ (d : Chain). walk_of d bs) s ∙ i.1))
          ∙ sym (walk_on o b bs e),
    )
