-- Facts shared by the kinds, once over the table: what holds of every entry, and of 0, holds of the size of any kind. Assumes nothing.
use Prim.Native.Nat.{ℕ, ◌≤◌}
use mathlib.Core.Path.{◌≡◌, refl}
use mathlib.Core.List.{List, [], ◌∷◌}
use native.Mathlib.Omega.{arith}
use lib.Dec.{eqb}
use Rattle.chain.specs.Kinds.{kinds, sizes, lookup, size_of}
use Rattle.chain.specs.KnownKinds.{kind_number}
use Rattle.chain.specs.declared.kinds.Kind.{Kind}
use Rattle.chain.specs.declared.kinds.Kind.TheVariants.{Teaching, At6002, At6003, At6005, At6010}
use Rattle.chain.proofs.ByCases.{either_way}

abbrev Every : (ℕ → Type 0) → List ℕ → Type 0
Every P [] = Unit {0}
Every P (v ∷ vs) = P v × Every P vs

lookup_every : (P : ℕ → Type 0) → P 0 → (ks vs : List ℕ) (x : ℕ) → Every P vs → P (lookup ks vs x)
lookup_every P z [] vs x h = z
lookup_every P z (k ∷ ks) [] x h = z
lookup_every P z (k ∷ ks) (v ∷ vs) x h = either_way P (eqb k x) v (lookup ks vs x) h.0 (lookup_every P z ks vs x h.1)

-- the largest kind has 16,381 bytes
pub size_most : (k : ℕ) → size_of k ≤ 16381
unfolding size_of
size_most k =
    lookup_every (λ (n : ℕ). n ≤ 16381) (omega arith) kinds sizes k (omega arith, (omega arith, (omega arith, (omega arith, (omega arith, tt)))))

-- the smallest has 52
pub size-least : (k : ℕ) → (size_of k ≡ 0 → ⊥) → 52 ≤ size_of k
unfolding size_of
size-least k =
    lookup_every (λ (n : ℕ). (n ≡ 0 → ⊥) → 52 ≤ n) (λ h. absurd (h refl)) kinds sizes k
    (λ h. omega arith, (λ h. omega arith, (λ h. omega arith, (λ h. omega arith, (λ h. omega arith, tt)))))

-- so the known kinds have sizes between the two
pub known_sized : (k : Kind) → (52 ≤ size_of (kind_number k)) × (size_of (kind_number k) ≤ 16381)
unfolding size_of
known_sized Teaching = (omega arith, omega arith)
known_sized At6002 = (omega arith, omega arith)
known_sized At6003 = (omega arith, omega arith)
known_sized At6005 = (omega arith, omega arith)
known_sized At6010 = (omega arith, omega arith)
