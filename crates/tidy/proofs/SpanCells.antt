-- The spans of some cells: ascending with gaps between them, and over these cells alone. Assumes nothing.
use Prim.Native.Nat.{ℕ, zero, suc, ◌+◌, ◌≤◌, ◌<◌}
use mathlib.Core.Bool.{Bool, true, false, ◌||◌}
use mathlib.Core.Path.{◌≡◌, refl, ◌∙◌}
use mathlib.Core.List.{List, [], ◌∷◌}
use native.Mathlib.Omega.{arith}
use borrow.Author.Tests.{eqb-true, eqb-false, ltb-true, ltb-false}
use lib.Dec.{eqb, ltb}
use Rattle.chain.proofs.ByCases.{by_test, either_way}
use Rattle.tidy.specs.Spans.{Span, span, has, cell_and, spans_of}
use Rattle.tidy.specs.Steps.{Spaced, spanned, Below}
use Rattle.tidy.proofs.HasCell.{has_yes, has-below, has_above, spaced_less, spanned_low}

-- ---- a cell, and spans above it

and_spaced : (a : ℕ) (xs : List Span) → Spaced (suc a) xs → Spaced a (cell_and a xs)
and_spaced a [] s = (omega arith, omega arith, tt)
and_spaced a (x ∷ xs) s =
    by_test (eqb x.start (suc a))
    (λ e. rw e (omega arith, omega (arith, s.0, s.1), s.2))
    (λ e. rw e (omega arith, omega arith, (apart x.start a s.0 (eqb-false x.start (suc a) e), s.1, s.2)))
  where
    apart : (m a : ℕ) → suc a ≤ m → (m ≡ suc a → ⊥) → a + 2 ≤ m
    apart m a h n = omega (arith, n)

and_below : (a n : ℕ) (xs : List Span) → a < n → Below n xs → Below n (cell_and a xs)
and_below a n [] h b = (h, tt)
and_below a n (x ∷ xs) h b = either_way (Below n) (eqb x.start (suc a)) (span a x.end ∷ xs) (span a a ∷ x ∷ xs) b (h, b)

-- one cell more at the front of a span
has_more : (a e i : ℕ) → suc a ≤ e → has a e i ≡ (has a a i || has (suc a) e i)
has_more a e i h =
    by_test (ltb i a)
    (λ l. let k = ltb-true i a l in rw (has-below a e i k, has-below a a i k, has-below (suc a) e i (omega arith)))
    (λ l.
    let k = ltb-false i a l in
    by_test (ltb a i)
    (λ m.
    let g = ltb-true a i m in
    rw (has_above a a i g)
    (by_test (ltb e i)
    (λ o. let q = ltb-true e i o in rw (has_above a e i q, has_above (suc a) e i q))
    (λ o. let q = ltb-false e i o in rw (has_yes a e i k q, has_yes (suc a) e i g q))))
    (λ m. let g = ltb-false a i m in rw (has_yes a e i k (omega arith), has_yes a a i k g)))

or_assoc : (a b d : Bool) → ((a || b) || d) ≡ (a || (b || d))
or_assoc true b d = refl
or_assoc false b d = refl

and-cells : (a : ℕ) (xs : List Span) (i : ℕ) → Spaced (suc a) xs → spanned (cell_and a xs) i ≡ (has a a i || spanned xs i)
unfolding spanned
and-cells a [] i s = refl
and-cells a (x ∷ xs) i s =
    by_test (eqb x.start (suc a))
    (λ e.
    let z : x.start ≡ suc a = eqb-true x.start (suc a) e in
    rw (e, z, has_more a x.end i (omega (arith, s.1)))
    (or_assoc (has a a i) (has (suc a) x.end i) (spanned xs i)))
    (λ e. rw e)

-- ---- the spans of the cells for which c holds

module _ (c : ℕ → Bool) where
  pub spans_spaced : (n a : ℕ) → Spaced a (spans_of c n a)
  unfolding spans_of
  spans_spaced zero a = tt
  spans_spaced (suc n) a =
      either_way (Spaced a) (c a) (cell_and a (spans_of c n (suc a))) (spans_of c n (suc a))
      (and_spaced a (spans_of c n (suc a)) (spans_spaced n (suc a)))
      (spaced_less (suc a) a (spans_of c n (suc a)) (omega arith) (spans_spaced n (suc a)))

  pub spans_below : (n a : ℕ) → Below (a + n) (spans_of c n a)
  unfolding spans_of
  spans_below zero a = tt
  spans_below (suc n) a =
      let e : suc a + n ≡ a + suc n = omega arith in
      let b : Below (a + suc n) (spans_of c n (suc a)) = rw e at (spans_below n (suc a)) in
      either_way (Below (a + suc n)) (c a) (cell_and a (spans_of c n (suc a))) (spans_of c n (suc a))
      (and_below a (a + suc n) (spans_of c n (suc a)) (omega arith) b)
      b

  -- a cell from a on has its span where c holds, and none else
  pub spans_cells : (n a i : ℕ) → a ≤ i → i < a + n → spanned (spans_of c n a) i ≡ c i
  unfolding spans_of
  spans_cells zero a i h g = absurd (omega arith)
  spans_cells (suc n) a i h g =
      let xs : List Span = spans_of c n (suc a) in
      let s : Spaced (suc a) xs = spans_spaced n (suc a) in
      by_test (ltb a i)
      (λ l.
      let k = ltb-true a i l in
      let later : spanned xs i ≡ c i = spans_cells n (suc a) i k (omega arith) in
      by_test (c a) (λ e. rw e (and-cells a xs i s ∙ rw (has_above a a i k) later)) (λ e. rw e later))
      (λ l.
      let z : i ≡ a = omega (arith, ltb-false a i l) in
      let none : spanned xs a ≡ false = spanned_low xs (suc a) a s (omega arith) in
      rw z
      (by_test (c a)
      (λ e. rw e (and-cells a xs a s ∙ rw (has_yes a a a (omega arith) (omega arith))))
      (λ e. rw e none)))

-- no cell beyond their ends
pub spanned_high : (xs : List Span) (n i : ℕ) → Below n xs → n ≤ i → spanned xs i ≡ false
unfolding spanned
spanned_high [] n i b h = refl
spanned_high (x ∷ xs) n i b h = rw (has_above x.start x.end i (omega (arith, b.0)), spanned_high xs n i b.1 h)
