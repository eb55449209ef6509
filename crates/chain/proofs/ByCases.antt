-- By cases: of a test, of two numbers equal or not, and of a number below n. Assumes nothing.
use Prim.Native.Nat.{ℕ, zero, suc, ◌<◌}
use mathlib.Core.Bool.{Bool, true, false}
use mathlib.Core.Path.{◌≡◌, refl, sym, subst}
use mathlib.Core.Logic.{⊎_elim}
use borrow.Author.Tests.{eqb-true, eqb-false}
use lib.Dec.{eqb}
use native.Mathlib.Nat.{not-suc-le-zero, eq-or-lt_of_le, le_of_suc-le-suc}
use Rattle.chain.specs.Rules.{pick}

-- with the test's equation
pub by_test {ℓ} : {P : Type ℓ} (b : Bool) → (b ≡ true → P) → (b ≡ false → P) → P
by_test true f g = f refl
by_test false f g = g refl

-- of two numbers
pub by_eq {ℓ} : {P : Type ℓ} (x y : ℕ) → (x ≡ y → P) → ((x ≡ y → ⊥) → P) → P
by_eq x y f g = by_test (eqb x y) (λ e. f (eqb-true x y e)) (λ e. g (eqb-false x y e))

-- of what the test picks
pub either_way {ℓ} : {A : Type 0} (P : A → Type ℓ) (t : Bool) (x y : A) → P x → P y → P (pick t x y)
either_way P true x y p q = p
either_way P false x y p q = q

-- P at each number below n, from 0 on
infixl 20 ◌or◌
pub data Below (P : ℕ → Type 0) : ℕ → Type 0 where
  no_case : Below P zero
  ◌or◌ : {n : ℕ} → Below P n → P n → Below P (suc n)

pub below : (P : ℕ → Type 0) (n : ℕ) → Below P n → (a : ℕ) → a < n → P a
below P zero t a h = absurd (not-suc-le-zero h)
below P (suc n) (t or x) a h =
    ⊎_elim (λ (e : a ≡ n). subst P (sym e) x) (below P n t a) (eq-or-lt_of_le (le_of_suc-le-suc h))
