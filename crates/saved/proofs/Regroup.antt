-- A layout in chunks, each of which two lists of widths describe: as fields and as bytes. Assumes nothing.
use mathlib.Core.Path.{◌≡◌, refl, sym, ap, ap₂, ◌∙◌}
use mathlib.Core.List.{List, [], ◌∷◌, ◌++◌}
use Prim.Native.Nat.{ℕ, zero, suc, ◌+◌, ◌*◌, ◌/◌, ◌%◌, ◌^◌}
use native.Mathlib.Nat.{zero-add, zero-mul, add_comm, add_assoc, add-mul, mul_assoc, mod-eq_of_lt}
use native.Mathlib.Omega.{arith}
use lib.ListN.{length, get_or, drop, drop_of_length-le}
use lib.Seq.{drop-cons}
use lib.Pow.{pow-add, shr-shr, high, low}
use Rattle.saved.specs.Fields.{total, packed, Fit, fields_of}
use Rattle.saved.proofs.Packing.{packed_lt, fields_mod}

pub total-append : (ws us : List ℕ) → total (ws ++ us) ≡ total ws + total us
total-append [] us = sym (zero-add (total us))
total-append (w ∷ ws) us = ap (λ (x : ℕ). w + x) (total-append ws us) ∙ sym (add_assoc w (total ws) (total us))

fields_append : (us zs : List ℕ) (n : ℕ) → fields_of (us ++ zs) n ≡ fields_of us (n / 2 ^ total zs) ++ fields_of zs n
fields_append [] zs n = refl
fields_append (u ∷ us) zs n =
    ap₂ (λ (x : ℕ) (l : List ℕ). x ∷ l)
    (ap (λ (x : ℕ). x % 2 ^ u) (ap (λ (t : ℕ). n / 2 ^ t) (total-append us zs ∙ add_comm (total us) (total zs)) ∙ sym (shr-shr n (total zs) (total us))))
    (fields_append us zs n)

packed-append : (ws xs vs ys : List ℕ) → Fit ws vs → packed (ws ++ xs) (vs ++ ys) ≡ packed ws vs * 2 ^ total xs + packed xs ys
packed-append [] xs [] ys f = sym (ap (λ (x : ℕ). x + packed xs ys) (zero-mul (2 ^ total xs)) ∙ zero-add (packed xs ys))
packed-append (w ∷ ws) xs (v ∷ vs) ys f =
    ap₂ (λ (x y : ℕ). v * x + y) (ap (λ (t : ℕ). 2 ^ t) (total-append ws xs) ∙ pow-add 2 (total ws) (total xs)) (packed-append ws xs vs ys f.1)
    ∙ sym (add_assoc (v * (2 ^ total ws * 2 ^ total xs)) (packed ws vs * 2 ^ total xs) (packed xs ys))
    ∙ ap (λ (x : ℕ). x + packed xs ys) (ap (λ (x : ℕ). x + packed ws vs * 2 ^ total xs) (sym (mul_assoc v (2 ^ total ws) (2 ^ total xs))) ∙ sym (add-mul (v * 2 ^ total ws) (packed ws vs) (2 ^ total xs)))
packed-append [] xs (v ∷ vs) ys f = absurd f
packed-append (w ∷ ws) xs [] ys f = absurd f

-- us and ws are one chunk's bytes and fields, zs and xs the rest's
pub regroup : (us zs ws xs vs ys : List ℕ) → Fit ws vs → Fit xs ys → total zs ≡ total xs
    → fields_of (us ++ zs) (packed (ws ++ xs) (vs ++ ys)) ≡ fields_of us (packed ws vs) ++ fields_of zs (packed xs ys)
regroup us zs ws xs vs ys f g e =
    let r = packed_lt xs ys g in
    let n : ℕ = packed ws vs * 2 ^ total xs + packed xs ys in
    ap (fields_of (us ++ zs)) (packed-append ws xs vs ys f) ∙ fields_append us zs n
    ∙ ap₂ (λ (a b : List ℕ). a ++ b)
    (ap (fields_of us) (ap (λ (t : ℕ). n / 2 ^ t) e ∙ high (packed ws vs) (total xs) r))
    (fields_mod zs n (packed xs ys) (ap (λ (t : ℕ). n % 2 ^ t) e ∙ low (packed ws vs) (total xs) r ∙ sym (ap (λ (t : ℕ). packed xs ys % 2 ^ t) e ∙ mod-eq_of_lt r)))

-- n elements of a list, from i on
abbrev pub elems : ℕ → ℕ → List ℕ → List ℕ
elems i zero l = []
elems i (suc n) l = get_or l i 0 ∷ elems (suc i) n l

pub elems_is : (i n : ℕ) (l : List ℕ) → i + n ≡ length l → elems i n l ≡ drop i l
elems_is i zero l e = sym (drop_of_length-le l {i = i} (omega arith))
elems_is i (suc n) l e = ap (λ (r : List ℕ). get_or l i 0 ∷ r) (elems_is (suc i) n l (omega arith)) ∙ sym (drop-cons l i 0 (omega arith))

pub fit_append : (ws xs vs ys : List ℕ) → Fit ws vs → Fit xs ys → Fit (ws ++ xs) (vs ++ ys)
fit_append [] xs [] ys f g = g
fit_append (w ∷ ws) xs (v ∷ vs) ys f g = (f.0, fit_append ws xs vs ys f.1 g)
fit_append [] xs (v ∷ vs) ys f g = absurd f
fit_append (w ∷ ws) xs [] ys f g = absurd f
