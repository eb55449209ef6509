-- A cell and a span, and cells in spans that ascend. Assumes nothing.
use Prim.Native.Nat.{ℕ, ◌+◌, ◌≤◌, ◌<◌}
use mathlib.Core.Bool.{true, false, and-false, true≢false}
use mathlib.Core.Path.{◌≡◌, refl}
use mathlib.Core.Logic.{◌⊎◌, inl, inr}
use mathlib.Core.List.{List, [], ◌∷◌}
use native.Mathlib.Omega.{arith}
use borrow.Author.Tests.{le-leb, lt-leb, leb-false}
use lib.Dec.{leb}
use Rattle.chain.proofs.ByCases.{by_test}
use Rattle.chain.proofs.Means.{m-le, m-and}
use Rattle.tidy.specs.Spans.{Span, has}
use Rattle.tidy.specs.Steps.{Spaced, spanned}

pub has_yes : (a b i : ℕ) → a ≤ i → i ≤ b → has a b i ≡ true
has_yes a b i h g = rw (le-leb a i h, le-leb i b g)

pub has-below : (a b i : ℕ) → i < a → has a b i ≡ false
has-below a b i h = rw (lt-leb a i h)

pub has_above : (a b i : ℕ) → b < i → has a b i ≡ false
has_above a b i h = rw (lt-leb i b h) (and-false (leb a i))

pub has_true : (a b i : ℕ) → has a b i ≡ true → (a ≤ i) × (i ≤ b)
has_true a b i h = (m-and (m-le a i) (m-le i b)).says h

pub has_false : (a b i : ℕ) → has a b i ≡ false → (i < a) ⊎ (b < i)
has_false a b i h =
    by_test (leb a i)
    (λ e. by_test (leb i b) (λ f. absurd (true≢false (let z : true ≡ false = rw (e, f) at h in z))) (λ f. inr (leb-false i b f)))
    (λ e. inl (leb-false a i e))

-- ---- spans in order

pub spaced_less : (a b : ℕ) (xs : List Span) → b ≤ a → Spaced a xs → Spaced b xs
spaced_less a b [] h s = tt
spaced_less a b (x ∷ xs) h s = (omega (arith, s.0), s.1, s.2)

pub spanned_low : (xs : List Span) (l i : ℕ) → Spaced l xs → i < l → spanned xs i ≡ false
unfolding spanned
spanned_low [] l i s h = refl
spanned_low (x ∷ xs) l i s h =
    rw (has-below x.start x.end i (omega (arith, s.0)), spanned_low xs (x.end + 2) i s.2 (omega (arith, s.0, s.1)))
