-- Bytes one after another: how many, the loop that writes them, and those at whole bytes. Assumes nothing.
use mathlib.Core.Path.{◌≡◌, refl, sym, ap, ap₂, ◌∙◌}
use mathlib.Core.List.{List, ◌∷◌, ◌++◌}
use mathlib.Core.Logic.{◌⊎◌, inl, inr, ⊎_elim}
use Prim.Native.Nat.{ℕ, min, zero, suc, ◌+◌, ◌-◌, ◌*◌, ◌/◌, ◌%◌, ◌^◌, ◌<◌, ◌≤◌}
use native.Mathlib.Numerals.{add-one}
use native.Mathlib.Omega.{arith}
use lib.ListN.{length, get_or, set, take, drop, length-drop}
use lib.Seq.{sets, drop-cons, take_all, get_or-drop}
use Rattle.hunt.specs.Bits.{bit_at, bits_from, byte_at, bytes_from, whole_from, left_from}
use Rattle.hunt.proofs.Windows.{byte-whole, lt-or_ge}

pub length-bytes : (s : List ℕ) (p n : ℕ) → length (bytes_from s p n) ≡ n
unfolding bytes_from
length-bytes s p zero = refl
length-bytes s p (suc n) = ap suc (length-bytes s (p + 8) n)

-- bytes of the rest of a slice, from byte q on
bit-drop : (s : List ℕ) (q i : ℕ) → bit_at (drop q s) i ≡ bit_at s (8 * q + i)
unfolding bit_at
bit-drop s q i =
    let byte : (8 * q + i) / 8 ≡ q + i / 8 = omega arith in
    let bit : (8 * q + i) % 8 ≡ i % 8 = omega arith in
    rw (byte, bit, get_or-drop q s (i / 8) 0)

bits-drop : (s : List ℕ) (q n i : ℕ) → bits_from (drop q s) i n ≡ bits_from s (8 * q + i) n
unfolding bits_from
bits-drop s q zero i = refl
bits-drop s q (suc n) i =
    let next : 8 * q + (i + 1) ≡ 8 * q + i + 1 = omega arith in
    ap₂ (λ (a b : ℕ). a + 2 * b) (bit-drop s q i) (bits-drop s q n (i + 1) ∙ ap (λ (p : ℕ). bits_from s p n) next)

pub bytes-drop : (s : List ℕ) (q n i : ℕ) → bytes_from (drop q s) i n ≡ bytes_from s (8 * q + i) n
unfolding bytes_from byte_at
bytes-drop s q zero i = refl
bytes-drop s q (suc n) i =
    let next : 8 * q + (i + 8) ≡ 8 * q + i + 8 = omega arith in
    ap₂ ◌∷◌ (bits-drop s q 8 i) (bytes-drop s q n (i + 8) ∙ ap (λ (p : ℕ). bytes_from s p n) next)

-- a turn of the loop that writes them: v is what it stores
pub bytes_turn : (s out : List ℕ) (k n i v : ℕ) → i < n → v ≡ byte_at s (8 * i + k)
    → sets out i (bytes_from s (8 * i + k) (n - i)) ≡ sets (set out i v) (i + 1) (bytes_from s (8 * (i + 1) + k) (n - (i + 1)))
unfolding bytes_from
bytes_turn s out k n i v l e =
    let more : n - i ≡ suc (n - (i + 1)) = omega arith in
    let next : 8 * i + k + 8 ≡ 8 * (i + 1) + k = omega arith in
    ap (λ (m : ℕ). sets out i (bytes_from s (8 * i + k) m)) more
    ∙ ap₂ (λ (x y : ℕ). sets (set out i x) (suc i) (bytes_from s y (n - (i + 1)))) (sym e) next
    ∙ ap (λ (j : ℕ). sets (set out i v) j (bytes_from s (8 * (i + 1) + k) (n - (i + 1)))) (sym (add-one i))

-- and past the last turn
pub bytes-done : (s out : List ℕ) (p n i : ℕ) → n ≤ i → sets out i (bytes_from s p (n - i)) ≡ out
unfolding bytes_from
bytes-done s out p n i h =
    let none : n - i ≡ 0 = omega arith in
    rw none

-- in two parts
pub bytes-append : (s : List ℕ) (p a b : ℕ) → bytes_from s p (a + b) ≡ bytes_from s p a ++ bytes_from s (p + 8 * a) b
unfolding bytes_from
bytes-append s p zero b =
    let e : p + 8 * 0 ≡ p = omega arith in
    let f : 0 + b ≡ b = omega arith in
    rw (e, f)
bytes-append s p (suc a) b =
    let e : p + 8 * suc a ≡ p + 8 + 8 * a = omega arith in
    let f : suc a + b ≡ suc (a + b) = omega arith in
    rw (f, e) (ap (λ (x : List ℕ). byte_at s p ∷ x) (bytes-append s (p + 8) a b))

-- what the code counts
pub whole_is : (s : List ℕ) (p : ℕ) → length s - (p + 7) / 8 ≡ whole_from s p
unfolding whole_from
whole_is s p = omega arith

-- the lesser of what there is and what there is room for
pub lesser_of : (r here room whole : ℕ) → r ≡ min here room → whole ≡ here → (r ≤ room) × (r ≤ whole) × ((r ≡ room) ⊎ (r ≡ whole))
lesser_of r here room whole e w = (omega arith, omega arith, ⊎_elim (λ l. inr (omega arith)) (λ g. inl (omega arith)) (lt-or_ge here room))

-- and the bits after the last of them, where a byte stands at p
pub left_is : (s : List ℕ) (p : ℕ) → p + 8 ≤ 8 * length s → (8 - p % 8) % 8 ≡ left_from s p
unfolding left_from
left_is s p h = omega arith

module _ (s : List ℕ) (bytes : (i : ℕ) → get_or s i 0 < 2 ^ 8) where
  -- at whole bytes they are a part of the slice
  pub bytes_part : (n q : ℕ) → q + n ≤ length s → bytes_from s (8 * q) n ≡ take n (drop q s)
  unfolding bytes_from
  bytes_part zero q h = refl
  bytes_part (suc n) q h =
      let next : 8 * q + 8 ≡ 8 * suc q = omega arith in
      ap₂ ◌∷◌ (byte-whole s q (bytes q)) (ap (λ (p : ℕ). bytes_from s p n) next ∙ bytes_part n (suc q) (omega arith))
      ∙ sym (ap (take (suc n)) (drop-cons s q 0 (omega arith)))

  -- as many as there are: all the rest of it
  pub bytes_rest : (q n : ℕ) → q + n ≡ length s → bytes_from s (8 * q) n ≡ drop q s
  bytes_rest q n h = bytes_part n q (omega arith) ∙ take_all n (drop q s) (simp length-drop (omega arith))
