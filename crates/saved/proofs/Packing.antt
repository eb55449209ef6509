-- Packed fields over any layout: what is packed comes back, and the code packs by `<<`, `|` and unpacks by `>>`, `&`. Assumes nothing.
use mathlib.Core.Path.{◌≡◌, refl, sym, ap, ap₂, ◌∙◌, subst}
use mathlib.Core.List.{List, [], ◌∷◌}
use Prim.Native.Nat.{ℕ, ◌+◌, ◌-◌, ◌*◌, ◌/◌, ◌%◌, ◌^◌, ◌<◌, ◌≤◌}
use native.Mathlib.Nat.{le_trans, mod-lt, mod-one, mod-eq_of_lt, add-zero, mul-one, le-add_left, div-one}
use lib.Arith.{digits_lt}
use lib.Pow.{pow_pos, pow-add, mod-pow-add, mod-mod-pow, field, high, low, shl_exact}
use lib.Bits.{bit_and, bit_or, and_mask, or_shifted}
use Rattle.saved.specs.Fields.{total, packed, Fit, fields_of}

-- ---- the definitions

-- a field above t bits
pub cat_lt : (w t : ℕ) {v r : ℕ} → v < 2 ^ w → r < 2 ^ t → v * 2 ^ t + r < 2 ^ (w + t)
cat_lt w t {v} {r} hv hr = subst (λ (x : ℕ). v * 2 ^ t + r < x) (sym (pow-add 2 w t)) (digits_lt hv hr)

pub packed_lt : (ws vs : List ℕ) → Fit ws vs → packed ws vs < 2 ^ total ws
packed_lt [] [] f = pow_pos 0
packed_lt (w ∷ ws) (v ∷ vs) f = cat_lt w (total ws) f.0 (packed_lt ws vs f.1)
packed_lt [] (v ∷ vs) f = absurd f
packed_lt (w ∷ ws) [] f = absurd f

-- only the low bits count
pub fields_mod : (ws : List ℕ) (m n : ℕ) → m % 2 ^ total ws ≡ n % 2 ^ total ws → fields_of ws m ≡ fields_of ws n
fields_mod [] m n e = refl
fields_mod (w ∷ ws) m n e =
    ap₂ (λ (x : ℕ) (l : List ℕ). x ∷ l)
    (sym (field m w (total ws)) ∙ ap (λ (x : ℕ). x / 2 ^ total ws) e ∙ field n w (total ws))
    (fields_mod ws m n (sym (mod-mod-pow m w (total ws)) ∙ ap (λ (x : ℕ). x % 2 ^ total ws) e ∙ mod-mod-pow n w (total ws)))

-- the values come back
pub fields_packed : (ws vs : List ℕ) → Fit ws vs → fields_of ws (packed ws vs) ≡ vs
fields_packed [] [] f = refl
fields_packed (w ∷ ws) (v ∷ vs) f =
    let l = packed_lt ws vs f.1 in
    ap₂ (λ (x : ℕ) (r : List ℕ). x ∷ r)
    (ap (λ (x : ℕ). x % 2 ^ w) (high v (total ws) l) ∙ mod-eq_of_lt f.0)
    (fields_mod ws (v * 2 ^ total ws + packed ws vs) (packed ws vs) (low v (total ws) l ∙ sym (mod-eq_of_lt l)) ∙ fields_packed ws vs f.1)
fields_packed [] (v ∷ vs) f = absurd f
fields_packed (w ∷ ws) [] f = absurd f

-- the number comes back
pub packed_fields : (ws : List ℕ) (n : ℕ) → packed ws (fields_of ws n) ≡ n % 2 ^ total ws
packed_fields [] n = sym (mod-one n)
packed_fields (w ∷ ws) n = ap (λ (x : ℕ). n / 2 ^ total ws % 2 ^ w * 2 ^ total ws + x) (packed_fields ws n) ∙ sym (mod-pow-add n w (total ws))

pub fields_fit : (ws : List ℕ) (n : ℕ) → Fit ws (fields_of ws n)
fields_fit [] n = tt
fields_fit (w ∷ ws) n = (mod-lt (n / 2 ^ total ws) (pow_pos w), fields_fit ws n)

-- ---- the code, at a word of W bits: `(a << k) | ((b << j) | c)`, the last field with no shift
abbrev pub ored : ℕ → List ℕ → List ℕ → ℕ
ored W (w ∷ []) (v ∷ vs) = v
ored W (w ∷ u ∷ ws) (v ∷ vs) = bit_or (v * 2 ^ total (u ∷ ws) % 2 ^ W) (ored W (u ∷ ws) vs)
ored W [] vs = 0
ored W (w ∷ ws) [] = 0

pub ored-packed : (W : ℕ) (ws vs : List ℕ) → Fit ws vs → total ws ≤ W → ored W ws vs ≡ packed ws vs
ored-packed W [] [] f h = refl
ored-packed W (w ∷ []) (v ∷ []) f h = sym (add-zero (v * 1) ∙ mul-one v)
ored-packed W (w ∷ u ∷ ws) (v ∷ vs) f h =
    let t = total (u ∷ ws) in
    ap₂ bit_or (shl_exact w t W f.0 h) (ored-packed W (u ∷ ws) vs f.1 (le_trans (le-add_left t w) h))
    ∙ or_shifted v t (packed (u ∷ ws) vs) (packed_lt (u ∷ ws) vs f.1)
ored-packed W [] (v ∷ vs) f h = absurd f
ored-packed W (w ∷ []) (v ∷ x ∷ vs) f h = absurd f.1
ored-packed W (w ∷ ws) [] f h = absurd f

-- `(x >> k) & mask`, the last field with no shift
abbrev pub masked : List ℕ → ℕ → List ℕ
masked [] n = []
masked (w ∷ []) n = bit_and n (2 ^ w - 1) ∷ []
masked (w ∷ u ∷ ws) n = bit_and (n / 2 ^ total (u ∷ ws)) (2 ^ w - 1) ∷ masked (u ∷ ws) n

pub masked_fields : (ws : List ℕ) (n : ℕ) → masked ws n ≡ fields_of ws n
masked_fields [] n = refl
masked_fields (w ∷ []) n = ap (λ (x : ℕ). x ∷ []) (and_mask n w ∙ ap (λ (x : ℕ). x % 2 ^ w) (sym (div-one n)))
masked_fields (w ∷ u ∷ ws) n = ap₂ (λ (x : ℕ) (l : List ℕ). x ∷ l) (and_mask (n / 2 ^ total (u ∷ ws)) w) (masked_fields (u ∷ ws) n)

-- one field of its own
pub packed-one : (w v : ℕ) → packed (w ∷ []) (v ∷ []) ≡ v
packed-one w v = add-zero (v * 1) ∙ mul-one v

-- one field for all of a number
pub one_field : (w : ℕ) (ws : List ℕ) {n : ℕ} → n < 2 ^ total ws → total ws ≡ w → n ∷ [] ≡ fields_of (w ∷ []) n
one_field w ws {n} l e =
    ap (λ (x : ℕ). x ∷ []) (sym (mod-eq_of_lt (subst (λ (k : ℕ). n < 2 ^ k) e l)) ∙ ap (λ (x : ℕ). x % 2 ^ w) (sym (div-one n)))

-- the fields of a number that was one field
pub fields_of-one : (w : ℕ) (ws : List ℕ) (n : ℕ) {x : ℕ} → total ws ≡ w → x ∷ [] ≡ fields_of (w ∷ []) n → masked ws x ≡ fields_of ws n
fields_of-one w ws n {x} e q =
    let is : x ≡ n / 1 % 2 ^ w = cc in
    masked_fields ws x
    ∙ fields_mod ws x n (ap (λ (k : ℕ). k % 2 ^ total ws) (is ∙ ap (λ (k : ℕ). k % 2 ^ w) (div-one n)) ∙ ap (λ (k : ℕ). n % 2 ^ w % 2 ^ k) e ∙ mod-eq_of_lt (mod-lt n (pow_pos w)) ∙ ap (λ (k : ℕ). n % 2 ^ k) (sym e))

-- through another layout of as many bits, and back: fields through bytes, and bytes through fields
pub through : (us ws vs : List ℕ) → Fit ws vs → total ws ≡ total us → fields_of ws (packed us (fields_of us (packed ws vs))) ≡ vs
through us ws vs f e =
    ap (fields_of ws) (packed_fields us (packed ws vs) ∙ ap (λ (k : ℕ). packed ws vs % 2 ^ k) (sym e) ∙ mod-eq_of_lt (packed_lt ws vs f)) ∙ fields_packed ws vs f
