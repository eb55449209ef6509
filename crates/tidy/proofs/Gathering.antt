-- From windows that fit to their spans and places: collected, sorted and joined they are what the spans of windows are. Assumes nothing.
use Prim.Native.Nat.{ℕ, suc, ◌+◌, ◌≤◌}
use mathlib.Core.Bool.{Bool}
use mathlib.Core.Logic.{inl, inr}
use mathlib.Core.Path.{◌≡◌, refl, sym, ap, ◌∙◌}
use mathlib.Core.List.{List, [], ◌∷◌}
use native.Mathlib.Nat.{le_refl}
use native.Mathlib.Omega.{arith}
use lib.ListN.{length, take}
use lib.Seq.{get_or-take}
use Rattle.chain.specs.declared.window.Window.{Window as Row}
use Rattle.grammar.specs.Stream.{Window}
use Rattle.grammar.specs.Fits.{AllFit}
use Rattle.tidy.specs.Spans.{Span, has, covered}
use Rattle.tidy.specs.InOrder.{Same, Sorted}
use Rattle.tidy.specs.Steps.{row_start, spans_in, bounds_of, keys_of, ends_of, key_spans, joined, Rising, Ordered, Below, spanned, Inside, AllInside, Gathered, AtPlaces, Joinable, Joins}
use Rattle.tidy.proofs.Starts.{rising_up}
use Rattle.tidy.proofs.Joining.{joined_spaced, joined-has, joined-below, joined-inside, joined_fewer}
use Rattle.tidy.proofs.AnySpan.{any_span, same-any, spanned-any, holds, inside-any, any-inside, turned, reaches, ordered_any, any_ordered, below-any, any_below}
use Rattle.tidy.proofs.Indexes.{keys_length, keys_spans, indexes_known, indexes_apart, all_placed}
use Rattle.tidy.proofs.Lengths.{long_within}

-- ---- the spans of windows that fit

pub bounds_ordered : (size : ℕ) (ws : List Window) → AllFit size ws → Ordered (bounds_of ws)
bounds_ordered size [] f = tt
bounds_ordered size (w ∷ ws) f = (f.0.order, bounds_ordered size ws f.1)

pub bounds_below : (size : ℕ) (ws : List Window) → AllFit size ws → Below size (bounds_of ws)
bounds_below size [] f = tt
bounds_below size (w ∷ ws) f = (f.0.inside, bounds_below size ws f.1)

pub bounds_cells : (ws : List Window) (i : ℕ) → spanned (bounds_of ws) i ≡ covered ws i
unfolding spanned covered
bounds_cells [] i = refl
bounds_cells (w ∷ ws) i = rw (bounds_cells ws i)

-- each window lies in its own span, and so wherever that lies
pub each_inside : (ws : List Window) (xs : List Span) → ((a b : ℕ) → Inside (bounds_of ws) a b → Inside xs a b) → AllInside xs ws
each_inside [] xs h = tt
each_inside (w ∷ ws) xs h = (h w.start w.end (inl (le_refl w.start, le_refl w.end)), each_inside ws xs (λ a b i. h a b (inr i)))

below_more : (n m : ℕ) (xs : List Span) → n ≤ m → Below n xs → Below m xs
below_more n m [] h b = tt
below_more n m (x ∷ xs) h b = (omega (arith, b.0), below_more n m xs h b.1)

key_spans-length : (ends : List ℕ) (xs : List Row) → length (key_spans ends xs) ≡ length xs
key_spans-length ends [] = refl
key_spans-length ends (x ∷ xs) = ap suc (key_spans-length ends xs)

-- ---- collected, sorted and joined

module _ (size : ℕ) (ws : List Window) (n : ℕ) (xs ys : List Row) (ends : List ℕ) (few : n ≤ 255) (f : AllFit size ws) (long : length xs ≡ n)
    (keys : xs ≡ keys_of 0 ws) (last : take n ends ≡ ends_of ws) (o : Sorted row_start xs ys) where
  many : n ≡ length ws
  many = sym long ∙ ap length keys ∙ keys_length ws 0

  same : Same (keys_of 0 ws) ys
  same = rw (← keys) o.same

  bounds : key_spans ends xs ≡ bounds_of ws
  bounds =
      rw keys
      (keys_spans ends ws 0 (omega (arith, many))
      (λ p g.
      let z : 0 + p ≡ p = omega arith in
      rw (z, ← last) (sym (get_or-take n ends p 0 (omega (arith, many))))))

  as_bounds : (t : Span → Bool) → any_span t (key_spans ends ys) ≡ any_span t (bounds_of ws)
  as_bounds t = sym (same-any ends t xs ys o.same) ∙ ap (any_span t) bounds

  rising : Rising 0 (key_spans ends ys)
  rising = rising_up ends ys 0 o.up

  ordered : Ordered (key_spans ends ys)
  ordered = ordered_any (key_spans ends ys) (as_bounds turned ∙ any_ordered (bounds_of ws) (bounds_ordered size ws f))

  below : Below size (key_spans ends ys)
  below = below-any size (key_spans ends ys) (as_bounds (reaches size) ∙ any_below size (bounds_of ws) (bounds_below size ws f))

  pub gathered : Gathered size ws (joined (key_spans ends ys))
  gathered =
      record {
        spaced = joined_spaced (key_spans ends ys) rising ordered;
        below = joined-below (key_spans ends ys) size below;
        cells =
            λ i.
            joined-has (key_spans ends ys) i rising ordered
            ∙ spanned-any i (key_spans ends ys)
            ∙ as_bounds (λ x. has x.start x.end i)
            ∙ sym (spanned-any i (bounds_of ws))
            ∙ bounds_cells ws i;
        inside =
            each_inside ws (joined (key_spans ends ys))
            (λ a b h. joined-inside (key_spans ends ys) a b rising (inside-any a b (key_spans ends ys) (as_bounds (holds a b) ∙ any-inside a b (bounds_of ws) h)));
      }

  pub joinable : length ends ≡ 256 → size ≤ 64000 → Joinable ys ends
  joinable t s =
      record {
        table = t;
        rising = rising;
        ordered = ordered;
        below = below_more size 65536 (key_spans ends ys) (omega arith) below;
        short =
            omega (
              arith,
              long_within (joined (key_spans ends ys)) size gathered.spaced gathered.below,
              joined_fewer (key_spans ends ys),
              key_spans-length ends ys,
              o.long,
            );
        known = indexes_known ws ys (omega (arith, many)) same;
        apart = indexes_apart ws ys (omega (arith, many)) same;
      }

  pub gathered-all : (m : ℕ) (ys' : List Row) (places : List ℕ) → Joins ys ends m ys' places
      → (m ≤ n) × (length ys' ≡ n) × Gathered size ws (spans_in (take m ys')) × AtPlaces places (spans_in (take m ys')) 0 ws
  gathered-all m ys' places j = (
    omega (arith, j.upto, o.long),
    j.long ∙ o.long ∙ long,
    rw j.spans gathered,
    rw j.spans (all_placed places (joined (key_spans ends ys)) ws ys (omega (arith, many)) same j.placed),
  )
