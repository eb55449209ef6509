-- One turn of the loops over kinds, registers and cells. Assumes nothing.
use Prim.Native.Nat.{ℕ, zero, suc, ◌+◌, ◌-◌, ◌<◌, ◌≤◌}
use mathlib.Core.Bool.{Bool, true, not, ◌&&◌}
use mathlib.Core.Path.{◌≡◌, refl, ap, ◌∙◌}
use mathlib.Core.List.{List, [], ◌∷◌, ◌++◌, append-nil}
use native.Mathlib.Numerals.{add-one}
use native.Mathlib.Omega.{arith}
use lib.ListN.{length, get_or, take, drop, replicate, drop_of_length-le}
use lib.Seq.{drop-cons, take_all}
use lib.Dec.{eqb}
use Rattle.chain.specs.Kinds.{size_of, known_of}
use Rattle.chain.specs.State.{zeros}
use Rattle.chain.specs.Calls.{first_only}
use borrow.Rule.Slice.PartMut.{put_mid}
use Rattle.std.proofs.Common.{min, ◌⊎◌, inl, inr, length-drop}
use Rattle.std.proofs.lemmas.Bool.{cases_lt}
use Rattle.std.proofs.lemmas.List.{length-take-le}

pub known_turn : (ks : List ℕ) (n i : ℕ) → i < n → i < length ks
    → known_of (drop i ks) (n - i) ≡ (not (eqb (size_of (get_or ks i 0)) 0) && known_of (drop (i + 1) ks) (n - (i + 1)))
unfolding known_of
known_turn ks n i h g =
    let e : n - i ≡ suc (n - (i + 1)) = omega arith in
    rw (e, add-one, drop-cons ks i 0)

pub known_end : (ks : List ℕ) (n i : ℕ) → n ≤ i → known_of (drop i ks) (n - i) ≡ true
unfolding known_of
known_end ks n i h =
    let e : n - i ≡ 0 = omega arith in
    rw e

-- the first n kinds are enough
pub known_take : (ks : List ℕ) (n : ℕ) → known_of (take n ks) n ≡ known_of ks n
unfolding known_of
known_take ks zero = refl
known_take [] (suc n) = refl
known_take (k ∷ ks) (suc n) = ap (λ (b : Bool). not (eqb (size_of k) 0) && b) (known_take ks n)

-- one turn over the first n kinds
pub known_front : (ks : List ℕ) (n i : ℕ) → i < length (take n ks) → length (take n ks) ≡ n
    → known_of ks n ≡ known_of (drop i (take n ks)) (n - i)
    → known_of ks n ≡ (not (eqb (size_of (get_or (take n ks) i 0)) 0) && known_of (drop (i + 1) (take n ks)) (n - (i + 1)))
known_front ks n i h long e = e ∙ known_turn (take n ks) n i (omega (arith, h, long)) h

pub zeros_turn : (xs : List ℕ) (i : ℕ) → i < length xs → zeros (drop i xs) ≡ (eqb (get_or xs i 0) 0 && zeros (drop (i + 1) xs))
zeros_turn xs i h = rw (add-one, drop-cons xs i 0)

pub zeros-end : (xs : List ℕ) (i : ℕ) → length xs ≤ i → zeros (drop i xs) ≡ true
zeros-end xs i h = rw (drop_of_length-le)

-- what is past the first n, or past all, filled with zeros
pub first_filled : (xs ys : List ℕ) (n m : ℕ) → length xs ≡ 8 → m ≡ min n 8 → ys ≡ replicate (length (take (8 - m) (drop m xs))) 0
    → put_mid m (8 - m) xs ys ≡ first_only n xs
unfolding first_only
first_filled xs ys n m eight least filled =
    let left : length (drop m xs) ≡ 8 - m = omega (arith, length-drop m xs, eight) in
    let long : length (take (8 - m) (drop m xs)) ≡ 8 - m = length-take-le (8 - m) (drop m xs) (omega (arith, left)) in
    rw (filled, long, drop_of_length-le (drop m xs) (past left), append-nil {A = ℕ} (replicate (8 - m) 0)) (cut (cases_lt n 8))
  where
    past : length (drop m xs) ≡ 8 - m → length (drop m xs) ≤ 8 - m
    past left = omega (arith, left)

    cut : (n < 8) ⊎ (8 ≤ n) → take m xs ++ replicate (8 - m) 0 ≡ take n xs ++ replicate (length xs - n) 0
    cut (inl h) = let same : m ≡ n = omega (arith, least, h) in rw (same, eight)
    cut (inr h) =
        let whole : m ≡ 8 = omega (arith, least, h) in
        let none : length xs - n ≡ 8 - m = omega (arith, whole, eight, h) in
        rw (none, take_all m xs (omega (arith, whole, eight)), take_all n xs (omega (arith, eight, h)))

-- an element that is past the first n
pub from_n : (xs : List ℕ) (n i : ℕ) → n ≤ i → zeros (drop (n + (i - n)) xs) ≡ zeros (drop i xs)
from_n xs n i h = ap (λ (k : ℕ). zeros (drop k xs)) (omega (arith, h))
