-- Where a device's memory begins, one device further. Assumes nothing.
use Prim.Native.Nat.{ℕ, zero, suc, ◌+◌, ◌<◌, ◌≤◌}
use mathlib.Core.Path.{◌≡◌, refl, ap, ◌∙◌}
use Rattle.std.proofs.Common.{min, ◌⊎◌, inl, inr}
use Rattle.std.proofs.lemmas.Bool.{cases_lt}
use Rattle.std.proofs.lemmas.List.{length-take-le}
use mathlib.Core.List.{List, [], ◌∷◌}
use native.Mathlib.Nat.{le_of_suc-le-suc, not-suc-le-zero}
use native.Mathlib.Omega.{arith}
use lib.ListN.{length, get_or, take}
use Rattle.chain.specs.Kinds.{size_of, base_of}

pub base_suc : (ks : List ℕ) (i : ℕ) → i < length ks → base_of ks (suc i) ≡ base_of ks i + size_of (get_or ks i 0)
unfolding base_of
base_suc [] i h = absurd (not-suc-le-zero h)
base_suc (k ∷ ks) zero h = omega arith
base_suc (k ∷ ks) (suc i) h = omega (arith, base_suc ks i (le_of_suc-le-suc h))

pub base_out : (ks : List ℕ) (n m : ℕ) → length ks ≤ n → length ks ≤ m → base_of ks n ≡ base_of ks m
unfolding base_of
base_out [] zero zero h g = refl
base_out [] zero (suc m) h g = refl
base_out [] (suc n) zero h g = refl
base_out [] (suc n) (suc m) h g = refl
base_out (k ∷ ks) zero m h g = absurd (not-suc-le-zero h)
base_out (k ∷ ks) (suc n) zero h g = absurd (not-suc-le-zero g)
base_out (k ∷ ks) (suc n) (suc m) h g = ap (λ (x : ℕ). size_of k + x) (base_out ks n m (le_of_suc-le-suc h) (le_of_suc-le-suc g))

-- the first m kinds are enough
pub base_take : (ks : List ℕ) (m : ℕ) → base_of (take m ks) m ≡ base_of ks m
unfolding base_of
base_take ks zero = refl
base_take [] (suc m) = refl
base_take (k ∷ ks) (suc m) = ap (λ (x : ℕ). size_of k + x) (base_take ks m)

-- of eight kinds, the first d or all: they are where the memory of device d begins
pub base_front : (ks : List ℕ) (m d i : ℕ) → length ks ≡ 8 → m ≡ min d 8 → i ≤ length (take m ks) → length (take m ks) ≤ i
    → base_of (take m ks) i ≡ base_of ks d
base_front ks m d i eight least below above =
    let long = length-take-le m ks (omega (arith, eight, least)) in
    ap (λ (x : ℕ). base_of (take m ks) x) (omega (arith, long, below, above)) ∙ base_take ks m ∙ rest (cases_lt d 8)
  where
    rest : (d < 8) ⊎ (8 ≤ d) → base_of ks m ≡ base_of ks d
    rest (inl low) = ap (λ (x : ℕ). base_of ks x) (omega (arith, least, low))
    rest (inr high) = base_out ks m d (omega (arith, eight, least, high)) (omega (arith, eight, high))
