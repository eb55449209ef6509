-- A serial stream cut short: what the hunt gives of its first k raw bytes is a front part of what it gives of them all, or number 5. So a
-- stop of a serial board after k raw bytes is a stop of the hunted bytes. Assumes nothing.
use Prim.Native.Nat.{ℕ, zero, suc, ◌+◌, ◌*◌, ◌-◌, ◌/◌, ◌≤◌, ◌<◌}
use mathlib.Core.Bool.{false}
use mathlib.Core.Logic.{◌⊎◌, inl, inr}
use mathlib.Core.Path.{◌≡◌, refl, ap, sym, subst, ◌∙◌}
use mathlib.Core.List.{List, ◌∷◌}
use native.Mathlib.Nat.{div-add-mod', mod-lt}
use native.Mathlib.Omega.{arith}
use lib.Dec.{eqb, lit<}
use lib.ListN.{length, take}
use lib.Seq.{get_or-take, length-take-le}
use borrow.Author.Tests.{eq-eqb}
use Rattle.chain.specs.Paper.{preamble, no_preamble}
use Rattle.chain.proofs.ByCases.{by_test}
use Rattle.hunt.specs.Bits.{bit_at, bits_from, byte_at, bytes_from, whole_from}
use Rattle.hunt.specs.Hunt.{begins_at, first_from, nowhere, found_at, hunted_bytes, hunt_number, hunt_of}
use Rattle.hunt.proofs.Found.{begins_in, begins_fits, first_hit, first_miss}
use Rattle.hunt.proofs.Bytes.{length-bytes}

module _ (s : List ℕ) (k : ℕ) (l : k ≤ length s) where
  many : length (take k s) ≡ k
  many = length-take-le k s l

  -- bits that stand in the front part
  bit_front : (i : ℕ) → i < 8 * k → bit_at (take k s) i ≡ bit_at s i
  unfolding bit_at
  bit_front i h =
      let q : i / 8 < k = omega (arith, div-add-mod' i 8) in
      rw (get_or-take k s (i / 8) 0 q)

  bits_front : (n p : ℕ) → p + n ≤ 8 * k → bits_from (take k s) p n ≡ bits_from s p n
  unfolding bits_from
  bits_front zero p h = refl
  bits_front (suc n) p h =
      let b : bit_at (take k s) p ≡ bit_at s p = bit_front p (omega arith) in
      let r : bits_from (take k s) (p + 1) n ≡ bits_from s (p + 1) n = bits_front n (p + 1) (omega arith) in
      rw (b, r)

  byte-front : (p : ℕ) → p + 8 ≤ 8 * k → byte_at (take k s) p ≡ byte_at s p
  unfolding byte_at
  byte-front p h = bits_front 8 p h

  bytes-front : (n p : ℕ) → p + 8 * n ≤ 8 * k → bytes_from (take k s) p n ≡ bytes_from s p n
  unfolding bytes_from
  bytes-front zero p h = refl
  bytes-front (suc n) p h =
      let b : byte_at (take k s) p ≡ byte_at s p = byte-front p (omega arith) in
      let r : bytes_from (take k s) (p + 8) n ≡ bytes_from s (p + 8) n = bytes-front n (p + 8) (omega arith) in
      rw (b, r)

  begins-front : (p : ℕ) → p + 8 ≤ 8 * k → begins_at (take k s) p ≡ begins_at s p
  begins-front p h =
      begins_in (take k s) p (omega (arith, many)) ∙ ap (λ (x : ℕ). eqb x preamble) (byte-front p h) ∙ sym (begins_in s p (omega arith))

  -- the first position of n from p on: none in the front part, or the same one
  first-front : (n p : ℕ) → (first_from (take k s) n p ≡ p + n)
      ⊎ ((first_from (take k s) n p ≡ first_from s n p) × (p ≤ first_from (take k s) n p) × (first_from (take k s) n p + 8 ≤ 8 * k))
  first-front zero p = inl (unfold first_from in omega arith)
  first-front (suc n) p =
      by_test (begins_at (take k s) p)
      (λ e.
      let w : p + 8 ≤ 8 * k = omega (arith, begins_fits (take k s) p e, many) in
      let a = first_hit (take k s) n p e in
      let b = first_hit s n p (sym (begins-front p w) ∙ e) in
      inr (a ∙ sym b, omega (arith, a), omega (arith, a)))
      (λ e. go e (first_miss (take k s) n p e) (first-front n (p + 1)))
    where
      go : {q : ℕ} → begins_at (take k s) p ≡ false → q ≡ first_from (take k s) n (p + 1)
          → (first_from (take k s) n (p + 1) ≡ p + 1 + n)
          ⊎ ((first_from (take k s) n (p + 1) ≡ first_from s n (p + 1)) × (p + 1 ≤ first_from (take k s) n (p + 1)) × (first_from (take k s) n (p + 1) + 8 ≤ 8 * k))
          → (q ≡ p + suc n) ⊎ ((q ≡ first_from s (suc n) p) × (p ≤ q) × (q + 8 ≤ 8 * k))
      go e a (inl h) = inl (a ∙ h ∙ omega arith)
      go e a (inr h) =
          let g = h.1 in
          let t = h.2 in
          let w : p + 8 ≤ 8 * k = omega arith in
          let b = first_miss s n p (sym (begins-front p w) ∙ e) in
          inr (a ∙ h.0 ∙ sym b, omega (arith, a), omega (arith, a))

-- a front part of bytes one after another
bytes_take : (s : List ℕ) (n m p : ℕ) → n ≤ m → take n (bytes_from s p m) ≡ bytes_from s p n
unfolding bytes_from
bytes_take s zero m p h = refl
bytes_take s (suc n) zero p h = absurd (omega arith)
bytes_take s (suc n) (suc m) p h = ap (λ (l : List ℕ). byte_at s p ∷ l) (bytes_take s n m (p + 8) (omega arith))

-- from a position of the front part
front-inside : (s : List ℕ) (k q : ℕ) → k ≤ length s → q + 8 ≤ 8 * k → q + 8 * whole_from (take k s) q ≤ 8 * k
unfolding whole_from
front-inside s k q l h = omega (arith, length-take-le k s l, div-add-mod' (8 * length (take k s) - q) 8)

front_fewer : (s : List ℕ) (k q : ℕ) → k ≤ length s → q + 8 ≤ 8 * k → whole_from (take k s) q ≤ whole_from s q
unfolding whole_from
front_fewer s k q l h =
    omega (
      arith,
      length-take-le k s l,
      div-add-mod' (8 * length (take k s) - q) 8,
      div-add-mod' (8 * length s - q) 8,
      mod-lt (8 * length s - q) (lit< {m = 0} {n = 8} tt),
    )

whole-front : (s : List ℕ) (k q : ℕ) → k ≤ length s → q + 8 ≤ 8 * k
    → bytes_from (take k s) q (whole_from (take k s) q) ≡ take (length (bytes_from (take k s) q (whole_from (take k s) q))) (bytes_from s q (whole_from s q))
whole-front s k q l h =
    let n = whole_from (take k s) q in
    bytes-front s k l n q (front-inside s k q l h) ∙ sym (bytes_take s n (whole_from s q) q (front_fewer s k q l h))
    ∙ ap (λ (x : ℕ). take x (bytes_from s q (whole_from s q))) (sym (length-bytes (take k s) q n))

-- number 5, or a front part of the hunted bytes
pub hunt_cut : (s : List ℕ) (k : ℕ) → k ≤ length s
    → (found_at (take k s) ≡ nowhere) ⊎ (hunted_bytes (take k s) ≡ take (length (hunted_bytes (take k s))) (hunted_bytes s))
unfolding hunted_bytes found_at
hunt_cut s k l = go (first-front s k l nowhere 0)
  where
    go : (first_from (take k s) nowhere 0 ≡ 0 + nowhere)
        ⊎ ((first_from (take k s) nowhere 0 ≡ first_from s nowhere 0) × (0 ≤ first_from (take k s) nowhere 0) × (first_from (take k s) nowhere 0 + 8 ≤ 8 * k))
        → (found_at (take k s) ≡ nowhere) ⊎ (hunted_bytes (take k s) ≡ take (length (hunted_bytes (take k s))) (hunted_bytes s))
    go (inl h) = inl h
    go (inr h) =
        inr
        (subst
        (λ (r : ℕ).
        bytes_from (take k s) (first_from (take k s) nowhere 0) (whole_from (take k s) (first_from (take k s) nowhere 0))
        ≡ take (length (bytes_from (take k s) (first_from (take k s) nowhere 0) (whole_from (take k s) (first_from (take k s) nowhere 0)))) (bytes_from s r (whole_from s r)))
        h.0 (whole-front s k (first_from (take k s) nowhere 0) l h.2))

pub hunt_cut-number : (s : List ℕ) (len k : ℕ) → found_at (take k s) ≡ nowhere → (hunt_of (take k s) len).number ≡ no_preamble
unfolding hunt_of hunt_number
hunt_cut-number s len k e = rw (eq-eqb (found_at (take k s)) nowhere e)
