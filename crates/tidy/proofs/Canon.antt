-- Ascending spans with gaps are the spans of their cells. Assumes nothing.
use Prim.Native.Nat.{ℕ, zero, suc, ◌+◌, ◌≤◌, ◌<◌}
use mathlib.Core.Bool.{Bool}
use mathlib.Core.Path.{◌≡◌, refl, sym, ap, subst, ◌∙◌}
use mathlib.Core.List.{List, [], ◌∷◌}
use native.Mathlib.Omega.{arith}
use borrow.Author.Tests.{eq-eqb, ne_eqb, ltb-true, ltb-false}
use lib.Dec.{ltb}
use Rattle.chain.proofs.ByCases.{by_test}
use Rattle.tidy.specs.Spans.{Span, span, has, cell_and, spans_of}
use Rattle.tidy.specs.Steps.{Spaced, spanned, Below}
use Rattle.tidy.proofs.HasCell.{has_yes, has-below, has_above, spaced_less, spanned_low}

-- the same cells, the same spans
pub spans_same : (c d : ℕ → Bool) (n a : ℕ) → ((i : ℕ) → a ≤ i → i < a + n → c i ≡ d i) → spans_of c n a ≡ spans_of d n a
unfolding spans_of
spans_same c d zero a h = refl
spans_same c d (suc n) a h =
    rw (h a (omega arith) (omega arith), spans_same c d n (suc a) (λ i f g. h i (omega arith) (omega arith)))

and_first : (a : ℕ) (xs : List Span) → Spaced (a + 2) xs → cell_and a xs ≡ span a a ∷ xs
and_first a [] s = refl
and_first a (x ∷ xs) s = rw (ne_eqb x.start (suc a) (λ e. omega (arith, s.0)))

pub canon : (n a : ℕ) (xs : List Span) → Spaced a xs → Below (a + n) xs → spans_of (spanned xs) n a ≡ xs
unfolding spans_of spanned
canon zero a [] s b = refl
canon zero a (x ∷ xs) s b = absurd (omega (arith, s.0, s.1, b.0))
canon (suc n) a [] s b = canon n (suc a) [] tt tt
canon (suc n) a (x ∷ xs) s b =
    let e : a + suc n ≡ suc a + n = omega arith in
    let f : (ys : List Span) → Below (a + suc n) ys → Below (suc a + n) ys = λ ys w. subst (λ (m : ℕ). Below m ys) e w in
    by_test (ltb a x.start)
    (λ t. let h = ltb-true a x.start t in
    rw (has-below x.start x.end a h, spanned_low xs (x.end + 2) a s.2 (omega (arith, s.1)))
    (canon n (suc a) (x ∷ xs) (h, s.1, s.2) (f (x ∷ xs) b)))
    (λ t. let h = ltb-false a x.start t in
    let z : x.start ≡ a = omega (arith, s.0) in
    rw (has_yes x.start x.end a h (omega (arith, s.1)))
    (by_test (ltb a x.end)
    (λ k. let g = ltb-true a x.end k in
    let y : List Span = span (suc a) x.end ∷ xs in
    let q : spans_of (spanned (x ∷ xs)) n (suc a) ≡ y =
    spans_same (spanned (x ∷ xs)) (spanned y) n (suc a) (λ i f _.
    let u : has x.start x.end i ≡ has (suc a) x.end i = by_test (ltb x.end i)
    (λ m. has_above x.start x.end i (ltb-true x.end i m) ∙ sym (has_above (suc a) x.end i (ltb-true x.end i m)))
    (λ m. has_yes x.start x.end i (omega arith) (ltb-false x.end i m) ∙ sym (has_yes (suc a) x.end i f (ltb-false x.end i m))) in
    rw u)
    ∙ canon n (suc a) y (omega arith, g, s.2) (f y b) in
    ap (cell_and a) q ∙ rw (eq-eqb (suc a) (suc a) refl, ← z))
    (λ k. let g = ltb-false a x.end k in
    let w : x.end ≡ a = omega (arith, s.1) in
    let q : spans_of (spanned (x ∷ xs)) n (suc a) ≡ xs =
    spans_same (spanned (x ∷ xs)) (spanned xs) n (suc a) (λ i f _. rw (has_above x.start x.end i (omega arith)))
    ∙ canon n (suc a) xs (spaced_less (x.end + 2) (suc a) xs (omega arith) s.2) (f xs b.1) in
    ap (cell_and a) q ∙ and_first a xs (spaced_less (x.end + 2) (a + 2) xs (omega arith) s.2) ∙ one x z w)))
  where
    one : {a : ℕ} {xs : List Span} (x : Span) → x.start ≡ a → x.end ≡ a → span a a ∷ xs ≡ x ∷ xs
    one x z w = rw (← z) (let q : x.start ≡ x.end = z ∙ sym w in rw q)

pub spans_are : (xs : List Span) (c : ℕ → Bool) (size : ℕ) → Spaced 0 xs → Below size xs → ((i : ℕ) → spanned xs i ≡ c i) → spans_of c size 0 ≡ xs
spans_are xs c size s b h =
    let e : 0 + size ≡ size = omega arith in
    spans_same c (spanned xs) size 0 (λ i f g. sym (h i)) ∙ canon size 0 xs s (rw e b)
