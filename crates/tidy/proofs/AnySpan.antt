-- What holds of the span of some window in a table holds of that of some window in any other order. Assumes nothing.
use Prim.Native.Nat.{ℕ, ◌+◌}
use mathlib.Core.Bool.{Bool, true, false, ◌&&◌, ◌||◌, true≢false, false≢true}
use mathlib.Core.Path.{◌≡◌, refl, sym, ◌∙◌}
use mathlib.Core.Logic.{inl, inr, ⊎_elim}
use mathlib.Core.List.{List, [], ◌∷◌}
use native.Mathlib.Omega.{arith}
use borrow.Author.Tests.{lt-ltb, le-ltb, lt-leb, ltb-false, leb-false}
use lib.Dec.{ltb, leb}
use Rattle.chain.proofs.ByCases.{by_test}
use Rattle.chain.proofs.Means.{m-le, m-and}
use Rattle.chain.specs.Rules.{pick}
use Rattle.chain.specs.declared.window.Window.{Window as Row}
use Rattle.tidy.specs.Spans.{Span, has}
use Rattle.tidy.specs.InOrder.{total, Same}
use Rattle.tidy.specs.Steps.{key_span, key_spans, Ordered, Below, spanned, Inside}

abbrev pub any_span : (Span → Bool) → List Span → Bool
any_span t [] = false
any_span t (x ∷ xs) = t x || any_span t xs

-- counted, they are as many in any order
module _ (ends : List ℕ) (t : Span → Bool) where
  abbrev counting : Row → ℕ
  counting x = pick (t (key_span ends x)) 1 0

  any-counted : (xs : List Row) → any_span t (key_spans ends xs) ≡ ltb 0 (total counting xs)
  any-counted [] = refl
  any-counted (x ∷ xs) =
      by_test (t (key_span ends x))
      (λ e. rw e (sym (lt-ltb 0 (1 + total counting xs) (omega arith))))
      (λ e. let z : 0 + total counting xs ≡ total counting xs = omega arith in rw (e, z) (any-counted xs))

  pub same-any : (xs ys : List Row) → Same xs ys → any_span t (key_spans ends xs) ≡ any_span t (key_spans ends ys)
  same-any xs ys h = any-counted xs ∙ rw (h counting) (sym (any-counted ys))

-- ---- what is said by it

pub spanned-any : (i : ℕ) (xs : List Span) → spanned xs i ≡ any_span (λ x. has x.start x.end i) xs
unfolding spanned
spanned-any i [] = refl
spanned-any i (x ∷ xs) = rw (spanned-any i xs)

-- a span from a or below to b or above
abbrev pub holds : ℕ → ℕ → Span → Bool
holds a b x = leb x.start a && leb b x.end

or_true : (a b : Bool) → (a || b) ≡ true → a ≡ false → b ≡ true
or_true true b h e = absurd (true≢false e)
or_true false b h e = h

pub inside-any : (a b : ℕ) (xs : List Span) → any_span (holds a b) xs ≡ true → Inside xs a b
inside-any a b [] h = absurd (false≢true h)
inside-any a b (x ∷ xs) h =
    by_test (holds a b x)
    (λ e. inl ((m-and (m-le x.start a) (m-le b x.end)).says e))
    (λ e. inr (inside-any a b xs (or_true (holds a b x) (any_span (holds a b) xs) h e)))

pub any-inside : (a b : ℕ) (xs : List Span) → Inside xs a b → any_span (holds a b) xs ≡ true
any-inside a b [] h = absurd h
any-inside a b (x ∷ xs) h =
    by_test (holds a b x)
    (λ e. rw e)
    (λ e. rw e (⊎_elim (λ y. absurd (false≢true (sym e ∙ (m-and (m-le x.start a) (m-le b x.end)).said y))) (λ y. any-inside a b xs y) h))

-- ---- none does not

or_neither : (a b : Bool) → (a || b) ≡ false → (a ≡ false) × (b ≡ false)
or_neither true b h = absurd (true≢false h)
or_neither false b h = (refl, h)

-- a span out of order, or not below n
abbrev pub turned : Span → Bool
turned x = ltb x.end x.start

abbrev pub reaches : ℕ → Span → Bool
reaches n x = leb n x.end

pub ordered_any : (xs : List Span) → any_span turned xs ≡ false → Ordered xs
ordered_any [] h = tt
ordered_any (x ∷ xs) h =
    let n = or_neither (turned x) (any_span turned xs) h in
    (ltb-false x.end x.start n.0, ordered_any xs n.1)

pub any_ordered : (xs : List Span) → Ordered xs → any_span turned xs ≡ false
any_ordered [] o = refl
any_ordered (x ∷ xs) o = rw (le-ltb x.end x.start o.0) (any_ordered xs o.1)

pub below-any : (n : ℕ) (xs : List Span) → any_span (reaches n) xs ≡ false → Below n xs
below-any n [] h = tt
below-any n (x ∷ xs) h =
    let k = or_neither (reaches n x) (any_span (reaches n) xs) h in
    (leb-false n x.end k.0, below-any n xs k.1)

pub any_below : (n : ℕ) (xs : List Span) → Below n xs → any_span (reaches n) xs ≡ false
any_below n [] b = refl
any_below n (x ∷ xs) b = rw (lt-leb n x.end b.0) (any_below n xs b.1)
