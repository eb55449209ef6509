-- The tidied windows are no more than the given ones, and have no more bytes. Spans are counted by their ends, the cells after which none follows: an
-- end of two sets of cells together is an end of one of them, so that both together have no more ends than the two have, added up. Assumes nothing.
use Prim.Native.Nat.{ℕ, zero, suc, ◌+◌, ◌-◌, ◌*◌, ◌≤◌, ◌<◌}
use mathlib.Core.Bool.{Bool, true, false, not, ◌&&◌, ◌||◌}
use mathlib.Core.Path.{◌≡◌, refl, ap, ◌∙◌}
use mathlib.Core.List.{List, [], ◌∷◌, map}
use native.Mathlib.Omega.{arith}
use borrow.Author.Tests.{eq-eqb, ne_eqb, eqb-true, ltb-true, ltb-false}
use lib.Dec.{eqb, ltb}
use lib.ListN.{length, length-append, length-map}
use Rattle.chain.proofs.ByCases.{by_test}
use Rattle.chain.specs.Rules.{pick}
use Rattle.chain.specs.Window.{width_of}
use Rattle.grammar.specs.Stream.{Window}
use Rattle.grammar.specs.Fits.{AllFit}
use Rattle.grammar.proofs.SectionBytes.{window_bytes, windows_bytes}
use Rattle.tidy.specs.Spans.{Span, has, covered, cell_and, spans_of}
use Rattle.tidy.specs.Steps.{Spaced}
use Rattle.tidy.specs.Tidy.{last_byte, window_over, tidy_windows}
use Rattle.tidy.proofs.HasCell.{has_yes, has-below, has_above}
use Rattle.tidy.proofs.Values.{values_length}
use Rattle.tidy.proofs.SpanCells.{spans_spaced}
use Rattle.tidy.proofs.TidyWindows.{tidy_spans}

-- ---- counted over the cells

abbrev one : Bool → ℕ
one b = pick b 1 0

-- those of the n cells from a on for which c holds
abbrev cells_in : (ℕ → Bool) → ℕ → ℕ → ℕ
cells_in c zero a = 0
cells_in c (suc n) a = one (c a) + cells_in c n (suc a)

-- and of them those after which none follows
abbrev goes_on : (ℕ → Bool) → ℕ → ℕ → Bool
goes_on c zero a = false
goes_on c (suc n) a = c a

abbrev ends_in : (ℕ → Bool) → ℕ → ℕ → ℕ
ends_in c zero a = 0
ends_in c (suc n) a = one (c a && not (goes_on c n (suc a))) + ends_in c n (suc a)

-- ---- a span has one end, and a cell for each of its width

abbrev wide : List Span → ℕ
wide [] = 0
wide (x ∷ xs) = width_of x.start x.end + wide xs

and-wide : (a : ℕ) (xs : List Span) → Spaced (suc a) xs → wide (cell_and a xs) ≡ 1 + wide xs
and-wide a [] s = omega arith
and-wide a (x ∷ xs) s =
    by_test (eqb x.start (suc a))
    (λ e. let z = eqb-true x.start (suc a) e in rw e (omega (arith, s.1)))
    (λ e. rw e (omega arith))

module _ (c : ℕ → Bool) where
  spans_wide : (n a : ℕ) → wide (spans_of c n a) ≡ cells_in c n a
  unfolding spans_of
  spans_wide zero a = refl
  spans_wide (suc n) a =
      by_test (c a)
      (λ e. rw e (and-wide a (spans_of c n (suc a)) (spans_spaced c n (suc a)) ∙ ap (λ (k : ℕ). 1 + k) (spans_wide n (suc a))))
      (λ e. rw e (spans_wide n (suc a) ∙ omega arith))

  -- the first span starts at the first cell exactly where c holds there
  and_many : (n a : ℕ) → length (cell_and a (spans_of c n (suc a))) ≡ one (not (goes_on c n (suc a))) + length (spans_of c n (suc a))
  unfolding spans_of
  and_many zero a = omega arith
  and_many (suc n) a =
      by_test (c (suc a))
      (λ e. rw e (joins a (spans_of c n (suc (suc a)))))
      (λ e. rw e (keeps a (spans_of c n (suc (suc a))) (spans_spaced c n (suc (suc a)))))
    where
      joins : (a : ℕ) (xs : List Span) → length (cell_and a (cell_and (suc a) xs)) ≡ 0 + length (cell_and (suc a) xs)
      joins a [] = rw (eq-eqb (suc a) (suc a) refl) (omega arith)
      joins a (x ∷ xs) =
          by_test (eqb x.start (suc (suc a)))
          (λ e. rw (e, eq-eqb (suc a) (suc a) refl) (omega arith))
          (λ e. rw (e, eq-eqb (suc a) (suc a) refl) (omega arith))

      keeps : (a : ℕ) (xs : List Span) → Spaced (suc (suc a)) xs → length (cell_and a xs) ≡ 1 + length xs
      keeps a [] s = omega arith
      keeps a (x ∷ xs) s = rw (ne_eqb x.start (suc a) (λ e. omega (arith, s.0))) (omega arith)

  spans_many : (n a : ℕ) → length (spans_of c n a) ≡ ends_in c n a
  unfolding spans_of
  spans_many zero a = refl
  spans_many (suc n) a =
      by_test (c a)
      (λ e. rw e (and_many n a ∙ ap (λ (k : ℕ). one (not (goes_on c n (suc a))) + k) (spans_many n (suc a))))
      (λ e. rw e (spans_many n (suc a) ∙ omega arith))

-- ---- of two sets of cells together, and of one window

module _ (c d : ℕ → Bool) where
  abbrev both : ℕ → Bool
  both i = c i || d i

  cells-both : (n a : ℕ) → cells_in both n a ≤ cells_in c n a + cells_in d n a
  cells-both zero a = omega arith
  cells-both (suc n) a = let r = cells-both n (suc a) in omega (arith, some (c a) (d a))
    where
      some : (x y : Bool) → one (x || y) ≤ one x + one y
      some true true = omega arith
      some true false = omega arith
      some false true = omega arith
      some false false = omega arith

  goes_both : (n a : ℕ) → goes_on both n a ≡ (goes_on c n a || goes_on d n a)
  goes_both zero a = refl
  goes_both (suc n) a = refl

  ends-both : (n a : ℕ) → ends_in both n a ≤ ends_in c n a + ends_in d n a
  ends-both zero a = omega arith
  ends-both (suc n) a =
      let r = ends-both n (suc a) in
      rw (goes_both n (suc a)) (omega (arith, some (c a) (d a) (goes_on c n (suc a)) (goes_on d n (suc a))))
    where
      some : (x y g h : Bool) → one ((x || y) && not (g || h)) ≤ one (x && not g) + one (y && not h)
      some true true true h = omega arith
      some true true false true = omega arith
      some true true false false = omega arith
      some true false true h = omega arith
      some true false false true = omega arith
      some true false false false = omega arith
      some false true true h = omega arith
      some false true false true = omega arith
      some false true false false = omega arith
      some false false g h = omega arith

module _ (s e : ℕ) where
  span-cells : (n a : ℕ) → (cells_in (has s e) n a ≤ suc e - s) × (cells_in (has s e) n a ≤ suc e - a)
  span-cells zero a = (omega arith, omega arith)
  span-cells (suc n) a =
      let r = span-cells n (suc a) in
      by_test (ltb a s)
      (λ t. let h = ltb-true a s t in rw (has-below s e a h) (omega (arith, r.0), omega (arith, r.1)))
      (λ t.
      let h = ltb-false a s t in
      by_test (ltb e a)
      (λ u. let g = ltb-true e a u in rw (has_above s e a g) (omega (arith, r.0), omega (arith, r.1)))
      (λ u. let g = ltb-false e a u in rw (has_yes s e a h g) (omega (arith, r.1), omega (arith, r.1))))

  none_above : (n a : ℕ) → e < a → ends_in (has s e) n a ≡ 0
  none_above zero a h = refl
  none_above (suc n) a h = rw (has_above s e a h, none_above n (suc a) (omega arith))

  span-ends : (n a : ℕ) → ends_in (has s e) n a ≤ 1
  span-ends zero a = omega arith
  span-ends (suc zero) a = either (has s e a && not false)
    where
      either : (b : Bool) → one b + 0 ≤ 1
      either true = omega arith
      either false = omega arith
  span-ends (suc (suc n)) a =
      let r = span-ends (suc n) (suc a) in
      by_test (ltb a s)
      (λ t. rw (has-below s e a (ltb-true a s t)) (omega (arith, r)))
      (λ t.
      let h = ltb-false a s t in
      by_test (ltb a e)
      (λ u.
      let g = ltb-true a e u in
      let z : one (has s e a && not (goes_on (has s e) (suc n) (suc a))) ≡ 0 = rw (has_yes s e a h (omega arith), has_yes s e (suc a) (omega arith) g) in
      omega (arith, z, r))
      (λ u.
      let g = ltb-false a e u in
      let z : ends_in (has s e) (suc n) (suc a) ≡ 0 = none_above (suc n) (suc a) (omega arith) in
      omega (arith, z, either (has s e a && not (goes_on (has s e) (suc n) (suc a))))))
    where
      either : (b : Bool) → one b ≤ 1
      either true = omega arith
      either false = omega arith

-- ---- the windows

window_long : (w : Window) (ws : List Window) → length (windows_bytes (w ∷ ws)) ≡ 5 + length w.bytes + length (windows_bytes ws)
window_long w ws = length-append (window_bytes w) (windows_bytes ws) ∙ omega arith

none-cells : (n a : ℕ) → (cells_in (covered []) n a ≡ 0) × (ends_in (covered []) n a ≡ 0)
unfolding covered
none-cells zero a = (refl, refl)
none-cells (suc n) a = (omega (arith, (none-cells n (suc a)).0), omega (arith, (none-cells n (suc a)).1))

module _ (n : ℕ) where
  few_ends : (ws : List Window) → ends_in (covered ws) n 0 ≤ length ws
  unfolding covered
  few_ends [] = omega (arith, (none-cells n 0).1)
  few_ends (w ∷ ws) = omega (arith, ends-both (has w.start w.end) (covered ws) n 0, span-ends w.start w.end n 0, few_ends ws)

  few_cells : (size : ℕ) (ws : List Window) → AllFit size ws → 5 * length ws + cells_in (covered ws) n 0 ≤ length (windows_bytes ws)
  unfolding covered
  few_cells size [] f = omega (arith, (none-cells n 0).0)
  few_cells size (w ∷ ws) f =
      let l : length (windows_bytes (w ∷ ws)) ≡ 5 + length w.bytes + length (windows_bytes ws) = window_long w ws in
      omega (
        arith,
        cells-both (has w.start w.end) (covered ws) n 0,
        (span-cells w.start w.end n 0).0,
        few_cells size ws f.1,
        f.0.order,
        f.0.full,
      )

over_long : (v : ℕ → ℕ) (xs : List Span) → length (windows_bytes (map (window_over v) xs)) ≡ 5 * length xs + wide xs
over_long v [] = omega arith
over_long v (x ∷ xs) =
    window_long (window_over v x) (map (window_over v) xs)
    ∙ omega (arith, over_long v xs, values_length v (width_of x.start x.end) x.start)

module _ (size : ℕ) (ws : List Window) where
  tidy_many : length (tidy_windows size ws) ≡ ends_in (covered ws) size 0
  unfolding tidy_windows
  tidy_many = length-map (tidy_spans size ws) (window_over (last_byte ws)) ∙ spans_many (covered ws) size 0

  pub fewer : length (tidy_windows size ws) ≤ length ws
  fewer = omega (arith, tidy_many, few_ends size ws)

  tidy_long : length (windows_bytes (tidy_windows size ws)) ≡ 5 * length (tidy_spans size ws) + cells_in (covered ws) size 0
  unfolding tidy_windows
  tidy_long = over_long (last_byte ws) (tidy_spans size ws) ∙ ap (λ (k : ℕ). 5 * length (tidy_spans size ws) + k) (spans_wide (covered ws) size 0)

  pub shorter : AllFit size ws → length (windows_bytes (tidy_windows size ws)) ≤ length (windows_bytes ws)
  shorter f = omega (arith, tidy_long, spans_many (covered ws) size 0, few_ends size ws, few_cells size size ws f)
