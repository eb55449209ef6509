-- How long the windows over spans are: one by one over a table, no longer than the device and five bytes for each, and no cell stands beyond. Assumes nothing.
use Prim.Native.Nat.{ℕ, suc, ◌+◌, ◌*◌, ◌≤◌, ◌<◌}
use mathlib.Core.Path.{◌≡◌, refl, ap}
use mathlib.Core.List.{List, [], ◌∷◌, ◌++◌}
use native.Mathlib.Omega.{arith}
use native.Mathlib.Numerals.{add-one}
use borrow.Author.Tests.{leb-true}
use lib.Dec.{leb}
use lib.ListN.{length, drop, get_or, drop_of_length-le, length-append}
use lib.Seq.{drop-cons}
use Rattle.chain.proofs.ByCases.{by_test}
use Rattle.chain.specs.Window.{width_of}
use Rattle.chain.specs.declared.window.Window.{Window as Row}
use Rattle.tidy.specs.Spans.{Span}
use Rattle.tidy.specs.Steps.{no_row, row_span, spans_in, Spaced, Below, render, long_of, slot_of}
use Rattle.tidy.proofs.Values.{values_length}

pub in_cons : (xs : List Row) (i : ℕ) → i < length xs → spans_in (drop i xs) ≡ row_span (get_or xs i no_row) ∷ spans_in (drop (i + 1) xs)
in_cons xs i h = rw (drop-cons xs i no_row h, add-one i)

pub in_none : (xs : List Row) (i : ℕ) → length xs ≤ i → spans_in (drop i xs) ≡ []
in_none xs i h = rw (drop_of_length-le xs {i = i} h)

pub in_append : (a b : List Row) → spans_in (a ++ b) ≡ spans_in a ++ spans_in b
in_append [] b = refl
in_append (x ∷ a) b = ap (λ (l : List Span). row_span x ∷ l) (in_append a b)

pub in_length : (xs : List Row) → length (spans_in xs) ≡ length xs
in_length [] = refl
in_length (x ∷ xs) = ap suc (in_length xs)

pub long_more : (xs : List Row) (i : ℕ) → i < length xs
    → long_of (spans_in (drop i xs)) ≡ 5 + width_of (get_or xs i no_row).start (get_or xs i no_row).end + long_of (spans_in (drop (i + 1) xs))
unfolding long_of
long_more xs i h = rw (in_cons xs i h)

pub long_none : (xs : List Row) (i : ℕ) → length xs ≤ i → long_of (spans_in (drop i xs)) ≡ 0
unfolding long_of
long_none xs i h = rw (in_none xs i h)

pub render-length : (xs : List Span) (v : ℕ → ℕ) → length (render xs v) ≡ long_of xs
unfolding render long_of
render-length [] v = refl
render-length (x ∷ xs) v =
    simp (length-append, values_length v (width_of x.start x.end) x.start, render-length xs v) (omega arith)

-- spans that ascend share no cell
long_most : (xs : List Span) (l size : ℕ) → l ≤ size + 1 → Spaced l xs → Below size xs → long_of xs + l ≤ 5 * length xs + size + 1
unfolding long_of
long_most [] l size h s b = omega arith
long_most (x ∷ xs) l size h s b =
    omega (arith, s.0, s.1, long_most xs (x.end + 2) size (omega (arith, b.0)) s.2 b.1)

pub long_within : (xs : List Span) (size : ℕ) → Spaced 0 xs → Below size xs → long_of xs ≤ 5 * length xs + size + 1
long_within xs size s b = omega (arith, long_most xs 0 size (omega arith) s b)

pub slot-within : (xs : List Span) (a : ℕ) → slot_of xs a ≤ long_of xs
unfolding slot_of long_of
slot-within [] a = omega arith
slot-within (x ∷ xs) a =
    by_test (leb a x.end)
    (λ t. let h = leb-true a x.end t in rw t (omega arith))
    (λ t. rw t (omega (arith, slot-within xs a)))
