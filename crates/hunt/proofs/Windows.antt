-- The byte that starts at bit k of byte q, as a number made of the bytes q and q + 1, and what two shifts make of these. Assumes nothing.
use mathlib.Core.Path.{◌≡◌, sym, ap, ap₂, subst, ◌∙◌}
use mathlib.Core.Logic.{◌⊎◌, inl, inr, ⊎_elim}
use mathlib.Core.List.{List}
use Prim.Native.Nat.{ℕ, zero, suc, ◌+◌, ◌-◌, ◌*◌, ◌/◌, ◌%◌, ◌^◌, ◌<◌, ◌≤◌, zero-le, suc-le-suc}
use native.Mathlib.Nat.{add-zero, add_comm, add_assoc, mul_assoc, mul_comm, mod-one, div-one, zero-div, zero-lt-suc, add-mul-div_right}
use native.Mathlib.Numerals.{one-add}
use native.Mathlib.Omega.{arith}
use lib.Dec.{lit<}
use lib.ListN.{length, get_or, get_or-eq_default}
use lib.Pow.{pow_pos, pow-add, mod-pow-add, mod-mod-pow, field, high, low, shr_lt, shr-shr, shl-shr}
use lib.Bits.{bit_and, bit_or, and_mask, or_shifted_r}
use Rattle.hunt.specs.Bits.{bit_at, bits_from, byte_at}

pub lt-or_ge : (a b : ℕ) → (a < b) ⊎ (b ≤ a)
lt-or_ge a zero = inr zero-le
lt-or_ge zero (suc b) = inl (suc-le-suc zero-le)
lt-or_ge (suc a) (suc b) = ⊎_elim (λ p. inl (suc-le-suc p)) (λ q. inr (suc-le-suc q)) (lt-or_ge a b)

-- n bits that are those of x make x % 2 ^ n
pub bits_of : (s : List ℕ) (n p x : ℕ) → ((j : ℕ) → j < n → bit_at s (p + j) ≡ x / 2 ^ j % 2) → bits_from s p n ≡ x % 2 ^ n
unfolding bits_from
bits_of s zero p x h = sym (mod-one x)
bits_of s (suc n) p x h =
    ap₂ (λ (a b : ℕ). a + 2 * b) first (bits_of s n (p + 1) (x / 2 ^ 1) rest)
    ∙ add_comm (x % 2) (2 * (x / 2 ^ 1 % 2 ^ n))
    ∙ ap (λ (y : ℕ). y + x % 2) (mul_comm 2 (x / 2 ^ 1 % 2 ^ n))
    ∙ sym (mod-pow-add x n 1)
    ∙ ap (λ (m : ℕ). x % 2 ^ m) (let e : n + 1 ≡ suc n = omega arith in e)
  where
    first : bit_at s p ≡ x % 2
    first = ap (bit_at s) (sym (add-zero p)) ∙ h 0 (zero-lt-suc n) ∙ ap (λ (y : ℕ). y % 2) (div-one x)

    rest : (j : ℕ) → j < n → bit_at s (p + 1 + j) ≡ x / 2 ^ 1 / 2 ^ j % 2
    rest j l =
        let place : p + 1 + j ≡ p + suc j = omega arith in
        ap (bit_at s) place ∙ h (suc j) (suc-le-suc l)
        ∙ ap (λ (m : ℕ). x / 2 ^ m % 2) (sym (one-add j))
        ∙ ap (λ (y : ℕ). y % 2) (sym (shr-shr x 1 j))

-- a bit below the cut, of a number cut to fewer bits
cut_bit : (n j i : ℕ) → n % 2 ^ (j + 1 + i) / 2 ^ i % 2 ≡ n / 2 ^ i % 2
cut_bit n j i = ap (λ (x : ℕ). x % 2) (field n (j + 1) i) ∙ mod-mod-pow (n / 2 ^ i) j 1

-- byte q, with byte q + 1 above it
abbrev pub pair : List ℕ → ℕ → ℕ
pair s q = get_or s (q + 1) 0 * 2 ^ 8 + get_or s q 0

module _ (s : List ℕ) (q : ℕ) (h : get_or s q 0 < 2 ^ 8) where
  -- bit i of the pair is bit i of the slice from byte q on
  pair_bit : (i : ℕ) → i < 16 → bit_at s (8 * q + i) ≡ pair s q / 2 ^ i % 2
  unfolding bit_at
  pair_bit i l = ⊎_elim below above (lt-or_ge i 8)
    where
      below : i < 8 → get_or s ((8 * q + i) / 8) 0 / 2 ^ ((8 * q + i) % 8) % 2 ≡ pair s q / 2 ^ i % 2
      below b =
          let byte : (8 * q + i) / 8 ≡ q = omega arith in
          let bit : (8 * q + i) % 8 ≡ i = omega arith in
          let cut : 8 ≡ 7 - i + 1 + i = omega arith in
          ap₂ (λ (x y : ℕ). get_or s x 0 / 2 ^ y % 2) byte bit
          ∙ ap (λ (x : ℕ). x / 2 ^ i % 2) (sym (low (get_or s (q + 1) 0) 8 h))
          ∙ ap (λ (m : ℕ). pair s q % 2 ^ m / 2 ^ i % 2) cut
          ∙ cut_bit (pair s q) (7 - i) i

      above : 8 ≤ i → get_or s ((8 * q + i) / 8) 0 / 2 ^ ((8 * q + i) % 8) % 2 ≡ pair s q / 2 ^ i % 2
      above b =
          let byte : (8 * q + i) / 8 ≡ q + 1 = omega arith in
          let bit : (8 * q + i) % 8 ≡ i - 8 = omega arith in
          let back : 8 + (i - 8) ≡ i = omega arith in
          ap₂ (λ (x y : ℕ). get_or s x 0 / 2 ^ y % 2) byte bit
          ∙ ap (λ (x : ℕ). x / 2 ^ (i - 8) % 2) (sym (high (get_or s (q + 1) 0) 8 h))
          ∙ ap (λ (x : ℕ). x % 2) (shr-shr (pair s q) 8 (i - 8))
          ∙ ap (λ (m : ℕ). pair s q / 2 ^ m % 2) back

  pub byte_pair : (k : ℕ) → k < 8 → byte_at s (8 * q + k) ≡ pair s q / 2 ^ k % 2 ^ 8
  unfolding byte_at
  byte_pair k l =
      bits_of s 8 (8 * q + k) (pair s q / 2 ^ k)
      (λ j b. ap (bit_at s) (add_assoc (8 * q) k j) ∙ pair_bit (k + j) (omega arith) ∙ ap (λ (x : ℕ). x % 2) (sym (shr-shr (pair s q) k j)))

  -- at a whole byte it is that byte
  pub byte-whole : byte_at s (8 * q) ≡ get_or s q 0
  byte-whole =
      ap (byte_at s) (sym (add-zero (8 * q))) ∙ byte_pair 0 (zero-lt-suc 7)
      ∙ ap (λ (x : ℕ). x % 2 ^ 8) (div-one (pair s q)) ∙ low (get_or s (q + 1) 0) 8 h

-- what two shifts make of a byte and the next one
pub byte_joined : (s : List ℕ) (q k h l : ℕ) → get_or s q 0 < 2 ^ 8 → k < 8 → l ≡ get_or s q 0 → h ≡ get_or s (q + 1) 0
    → (h * 2 ^ 8 + l) / 2 ^ k % 2 ^ 8 ≡ byte_at s (8 * q + k)
byte_joined s q k h l b f e g = ap₂ (λ (x y : ℕ). (x * 2 ^ 8 + y) / 2 ^ k % 2 ^ 8) g e ∙ sym (byte_pair s q b k f)

-- past the end
pub byte_past : (s : List ℕ) (q k : ℕ) → length s ≤ q → k < 8 → byte_at s (8 * q + k) ≡ 0
byte_past s q k h l =
    let z : get_or s q 0 ≡ 0 = get_or-eq_default s 0 h in
    let y : get_or s (q + 1) 0 ≡ 0 = get_or-eq_default s 0 (omega arith) in
    byte_pair s q (rw z (lit< tt)) k l ∙ ap (λ (x : ℕ). x / 2 ^ k % 2 ^ 8) (rw (y, z)) ∙ ap (λ (x : ℕ). x % 2 ^ 8) (zero-div (2 ^ k))

-- bit p is bit p & 7 of byte p >> 3
pub place_split : (p : ℕ) → 8 * (p / 8) + bit_and p 7 ≡ p
place_split p = omega (arith, and_mask p 3)

-- a << j at a word of k + j bits keeps the k low bits of a
shl_drop : (a k j : ℕ) → a * 2 ^ j % 2 ^ (k + j) ≡ a % 2 ^ k * 2 ^ j
shl_drop a k j =
    mod-pow-add (a * 2 ^ j) k j
    ∙ ap₂ (λ (x y : ℕ). x % 2 ^ k * 2 ^ j + y) (shl-shr a j) (ap (λ (x : ℕ). x % 2 ^ j) (sym (add-zero (a * 2 ^ j))) ∙ low a j (pow_pos j))
    ∙ add-zero (a % 2 ^ k * 2 ^ j)

-- (lo >> k) | (hi << j) at a word of k + j bits
two_shifts : (hi lo k j : ℕ) → lo < 2 ^ (j + k) → bit_or (lo / 2 ^ k) (hi * 2 ^ j % 2 ^ (k + j)) ≡ (hi * 2 ^ (j + k) + lo) / 2 ^ k % 2 ^ (k + j)
two_shifts hi lo k j h =
    ap (bit_or (lo / 2 ^ k)) (shl_drop hi k j)
    ∙ or_shifted_r (hi % 2 ^ k) j (lo / 2 ^ k) (shr_lt j k h)
    ∙ sym (ap (λ (x : ℕ). x % 2 ^ (k + j)) parts ∙ mod-pow-add (hi * 2 ^ j + lo / 2 ^ k) k j
    ∙ ap₂ (λ (x y : ℕ). x % 2 ^ k * 2 ^ j + y) (high hi j (shr_lt j k h)) (low hi j (shr_lt j k h)))
  where
    parts : (hi * 2 ^ (j + k) + lo) / 2 ^ k ≡ hi * 2 ^ j + lo / 2 ^ k
    parts =
        ap (λ (x : ℕ). (hi * x + lo) / 2 ^ k) (pow-add 2 j k)
        ∙ ap (λ (x : ℕ). x / 2 ^ k) (ap (λ (x : ℕ). x + lo) (sym (mul_assoc hi (2 ^ j) (2 ^ k))) ∙ add_comm (hi * 2 ^ j * 2 ^ k) lo)
        ∙ add-mul-div_right lo (hi * 2 ^ j) (pow_pos k) ∙ add_comm (lo / 2 ^ k) (hi * 2 ^ j)

-- the same at bytes
pub joined_is : (hi lo k j : ℕ) → k + j ≡ 8 → lo < 2 ^ 8 → bit_or (lo / 2 ^ k) (hi * 2 ^ j % 2 ^ 8) ≡ (hi * 2 ^ 8 + lo) / 2 ^ k % 2 ^ 8
joined_is hi lo k j e h =
    subst (λ (w : ℕ). bit_or (lo / 2 ^ k) (hi * 2 ^ j % 2 ^ w) ≡ (hi * 2 ^ 8 + lo) / 2 ^ k % 2 ^ w) e
    (subst (λ (w : ℕ). lo < 2 ^ w → bit_or (lo / 2 ^ k) (hi * 2 ^ j % 2 ^ (k + j)) ≡ (hi * 2 ^ w + lo) / 2 ^ k % 2 ^ (k + j)) (add_comm j k ∙ e) (two_shifts hi lo k j) h)
