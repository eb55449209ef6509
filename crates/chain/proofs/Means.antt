-- What a test says, as a proposition: from the proposition to the test's value and back. Assumes nothing.
use Prim.Native.Nat.{ℕ, ◌<◌, ◌≤◌}
use mathlib.Core.Bool.{Bool, true, false, not, ◌&&◌, ◌||◌, true≢false, false≢true}
use mathlib.Core.Logic.{◌⊎◌, inl, inr, ⊎_elim}
use mathlib.Core.Path.{◌≡◌, refl}
use borrow.Author.Tests.{lt-ltb, le-ltb, le-leb, lt-leb, eq-eqb, ltb-true, ltb-false, leb-true, leb-false, eqb-true}
use lib.Dec.{eqb, ltb, leb}

-- the test b has the value v exactly if P
pub record Means (b v : Bool) (P : Type 0) : Type 0 where
  pub says : b ≡ v → P
  pub said : P → b ≡ v

pub says : {b v : Bool} {P : Type 0} → Means b v P → b ≡ v → P
says m = m.says

pub said : {b v : Bool} {P : Type 0} → Means b v P → P → b ≡ v
said m = m.said

-- in other words
pub m-map : {b v : Bool} {P Q : Type 0} → Means b v P → (P → Q) → (Q → P) → Means b v Q
m-map m f g = record { says = λ e. f (m.says e); said = λ q. m.said (g q) }

pub m_is : (b v : Bool) → Means b v (b ≡ v)
m_is b v = record { says = λ e. e; said = λ e. e }

pub m-eq : (x y : ℕ) → Means (eqb x y) true (x ≡ y)
m-eq x y = record { says = eqb-true x y; said = eq-eqb x y }

pub m-lt : (x y : ℕ) → Means (ltb x y) true (x < y)
m-lt x y = record { says = ltb-true x y; said = lt-ltb x y }

pub m-le : (x y : ℕ) → Means (leb x y) true (x ≤ y)
m-le x y = record { says = leb-true x y; said = le-leb x y }

pub m-not-lt : (x y : ℕ) → Means (ltb x y) false (y ≤ x)
m-not-lt x y = record { says = ltb-false x y; said = le-ltb x y }

pub m-not-le : (x y : ℕ) → Means (leb x y) false (y < x)
m-not-le x y = record { says = leb-false x y; said = lt-leb x y }

-- a test is false exactly if its proposition fails
pub m-none : {a : Bool} {P : Type 0} → Means a true P → Means a false (P → ⊥)
m-none {a = true} p = record { says = λ e. absurd (true≢false e); said = λ h. absurd (h (p.says refl)) }
m-none {a = false} p = record { says = λ e x. false≢true (p.said x); said = λ h. refl }

pub m-not : {a : Bool} {P : Type 0} → Means a false P → Means (not a) true P
m-not {a = true} p = record { says = λ e. absurd (false≢true e); said = λ h. absurd (true≢false (p.said h)) }
m-not {a = false} p = record { says = λ e. p.says refl; said = λ h. refl }

pub m_fails : {a : Bool} {P : Type 0} → Means a true P → Means (not a) false P
m_fails {a = true} p = record { says = λ e. p.says refl; said = λ h. refl }
m_fails {a = false} p = record { says = λ e. absurd (true≢false e); said = λ h. absurd (false≢true (p.said h)) }

pub m-and : {a b : Bool} {P Q : Type 0} → Means a true P → Means b true Q → Means (a && b) true (P × Q)
m-and {a = true} p q = record { says = λ e. (p.says refl, q.says e); said = λ h. q.said h.1 }
m-and {a = false} p q = record { says = λ e. absurd (false≢true e); said = λ h. p.said h.0 }

pub m-or : {a b : Bool} {P Q : Type 0} → Means a true P → Means b true Q → Means (a || b) true (P ⊎ Q)
m-or {a = true} p q = record { says = λ e. inl (p.says refl); said = λ h. refl }
m-or {a = false} p q =
    record { says = λ e. inr (q.says e); said = λ h. ⊎_elim (λ x. absurd (false≢true (p.said x))) q.said h }

pub m_neither : {a b : Bool} {P Q : Type 0} → Means a false P → Means b false Q → Means (a || b) false (P × Q)
m_neither {a = true} p q = record { says = λ e. absurd (true≢false e); said = λ h. p.said h.0 }
m_neither {a = false} p q = record { says = λ e. (p.says refl, q.says e); said = λ h. q.said h.1 }

pub m_implies : {a b : Bool} {P Q : Type 0} → Means a true P → Means b true Q → Means (not a || b) true (P → Q)
m_implies {a = true} p q = record { says = λ e x. q.says e; said = λ h. q.said (h (p.says refl)) }
m_implies {a = false} p q = record { says = λ e x. absurd (false≢true (p.said x)); said = λ h. refl }

-- ---- three and four, flat

pub m_three : {a b c : Bool} {P Q R : Type 0} → Means a true P → Means b true Q → Means c true R → Means (a && b && c) true (P × Q × R)
m_three p q r = m-map (m-and (m-and p q) r) (λ h. (h.0.0, h.0.1, h.1)) (λ h. ((h.0, h.1), h.2))

pub m_four : {a b c d : Bool} {P Q R S : Type 0} → Means a true P → Means b true Q → Means c true R → Means d true S
    → Means (a && b && c && d) true (P × Q × R × S)
m_four p q r s = m-map (m-and (m_three p q r) s) (λ h. (h.0.0, h.0.1, h.0.2, h.1)) (λ h. ((h.0, h.1, h.2), h.3))

pub ruleset reads = (m_is, m-eq, m-lt, m-le, m-not-lt, m-not-le, m-none, m-not, m_fails, m-and, m_three, m_four, m-or, m_neither, m_implies)
