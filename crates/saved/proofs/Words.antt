-- Numbers of two and four bytes as the library's `to_be_bytes` and `from_be_bytes` have them, and as fields. Assumes nothing.
use Prim.Native.Nat.{ℕ, ◌/◌, ◌%◌, ◌^◌, ◌<◌}
use mathlib.Core.Path.{◌≡◌, refl, sym, ap, ◌∙◌}
use mathlib.Core.List.{List, [], ◌∷◌}
use native.Mathlib.Nat.{div-one}
use native.Mathlib.Omega.{arith}
use Rattle.std.specs.Int.{w16, w32, to_be_bytes, from_be_bytes}
use Rattle.saved.specs.Fields.{packed, fields_of, recut, bytes}
use Rattle.saved.proofs.Packing.{packed-one, packed_lt, one_field}
use Rattle.saved.proofs.Regroup.{elems}

-- the bytes of a number
last_byte : (x : ℕ) → x % 256 ≡ x / 2 ^ 0 % 256
last_byte x = ap (λ (n : ℕ). n % 256) (sym (div-one x))

two_bytes : (x : ℕ) → to_be_bytes w16 x ≡ fields_of (bytes 2) x
two_bytes x = ap (λ (b : ℕ). x / 256 % 256 ∷ b ∷ []) (last_byte x)

four_bytes : (x : ℕ) → to_be_bytes w32 x ≡ fields_of (bytes 4) x
four_bytes x = ap (λ (b : ℕ). x / 2 ^ 24 % 256 ∷ x / 2 ^ 16 % 256 ∷ x / 2 ^ 8 % 256 ∷ b ∷ []) (last_byte x)

-- what a call of `to_be_bytes` gives, element by element
pub two_of : (x : ℕ) (bs : List ℕ) → bs ≡ to_be_bytes w16 x → elems 0 2 bs ≡ recut (16 ∷ []) (bytes 2) (x ∷ [])
two_of x bs e = ap (elems 0 2) e ∙ two_bytes x ∙ ap (fields_of (bytes 2)) (sym (packed-one 16 x))

pub four_of : (x : ℕ) (bs : List ℕ) → bs ≡ to_be_bytes w32 x → elems 0 4 bs ≡ fields_of (bytes 4) x
four_of x bs e = ap (elems 0 4) e ∙ four_bytes x

-- and the number that bytes make
pub from_two : (a b x : ℕ) → a < 2 ^ 8 → b < 2 ^ 8 → x ≡ from_be_bytes w16 (a ∷ b ∷ []) → x ∷ [] ≡ recut (bytes 2) (16 ∷ []) (a ∷ b ∷ [])
from_two a b x f g e =
    let vs : List ℕ = a ∷ b ∷ [] in
    let n : x ≡ packed (bytes 2) vs = omega arith in
    ap (λ (y : ℕ). y ∷ []) n ∙ one_field 16 (bytes 2) (packed_lt (bytes 2) vs (f, (g, tt))) refl

pub from_four : (a b c d x : ℕ) → a < 2 ^ 8 → b < 2 ^ 8 → c < 2 ^ 8 → d < 2 ^ 8 → x ≡ from_be_bytes w32 (a ∷ b ∷ c ∷ d ∷ [])
    → x ∷ [] ≡ recut (bytes 4) (32 ∷ []) (a ∷ b ∷ c ∷ d ∷ [])
from_four a b c d x f g h i e =
    let vs : List ℕ = a ∷ b ∷ c ∷ d ∷ [] in
    let n : x ≡ packed (bytes 4) vs = omega arith in
    ap (λ (y : ℕ). y ∷ []) n ∙ one_field 32 (bytes 4) (packed_lt (bytes 4) vs (f, (g, (h, (i, tt))))) refl
