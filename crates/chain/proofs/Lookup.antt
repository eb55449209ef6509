-- A table that is looked up from its front. Assumes nothing.
use Prim.Native.Nat.{ℕ, ◌+◌, ◌<◌}
use mathlib.Core.Bool.{Bool}
use mathlib.Core.Path.{◌≡◌, refl, ap}
use mathlib.Core.Logic.{◌⊎◌, inl, inr}
use native.Mathlib.Omega.{arith}
use borrow.Author.Tests.{eq-eqb, ne_eqb}
use mathlib.Core.List.{List, [], ◌∷◌}
use native.Mathlib.Numerals.{add-one}
use lib.ListN.{length, get_or, drop}
use lib.Seq.{drop-cons}
use lib.Dec.{eqb}
use Rattle.chain.specs.Kinds.{lookup}
use Rattle.chain.specs.Rules.{pick}

pub lookup-cons : (ks vs : List ℕ) (x i : ℕ) → i < length ks → i < length vs
    → lookup (drop i ks) (drop i vs) x ≡ pick (eqb (get_or ks i 0) x) (get_or vs i 0) (lookup (drop (i + 1) ks) (drop (i + 1) vs) x)
lookup-cons ks vs x i h g = rw (add-one, drop-cons ks i 0, drop-cons vs i 0)

-- the first entry is the one that is looked for, or the rest is looked through
pub found_first : (ks vs : List ℕ) (k v x : ℕ) → k ≡ x → lookup (k ∷ ks) (v ∷ vs) x ≡ v
found_first ks vs k v x is = ap (λ (b : Bool). pick b v (lookup ks vs x)) (eq-eqb k x is)

pub not_first : (ks vs : List ℕ) (k v x : ℕ) → (k ≡ x → ⊥) → lookup (k ∷ ks) (v ∷ vs) x ≡ lookup ks vs x
not_first ks vs k v x other = ap (λ (b : Bool). pick b v (lookup ks vs x)) (ne_eqb k x other)

-- where one of the lists is at its end
pub none_left : (ks vs : List ℕ) (x : ℕ) → (length ks ≡ 0) ⊎ (length vs ≡ 0) → lookup ks vs x ≡ 0
none_left [] vs x h = refl
none_left (k ∷ ks) [] x h = refl
none_left (k ∷ ks) (v ∷ vs) x (inl h) = absurd (omega (arith, h))
none_left (k ∷ ks) (v ∷ vs) x (inr h) = absurd (omega (arith, h))
