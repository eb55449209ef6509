-- The tidied windows: they fit, are ascending with gaps, have null bytes 00 and the cells of the given ones, and leave in each cell what those
-- leave. The machine is not mentioned. Assumes nothing.
use Prim.Native.Nat.{ℕ, zero, suc, ◌+◌, ◌-◌, ◌<◌}
use mathlib.Core.Bool.{Bool, true, false, ◌||◌}
use mathlib.Core.Path.{◌≡◌, refl, sym, ap, ◌∙◌}
use mathlib.Core.List.{List, [], ◌∷◌, map}
use native.Mathlib.Omega.{arith}
use borrow.Author.Tests.{ltb-true, ltb-false}
use lib.Dec.{ltb}
use lib.ListN.{get_or}
use Rattle.chain.proofs.ByCases.{by_test}
use Rattle.chain.proofs.Bytes.{bytes-append}
use Rattle.chain.specs.Rules.{pick}
use Rattle.chain.specs.Bytes.{Bytes}
use Rattle.chain.specs.Window.{width_of}
use Rattle.grammar.specs.Sent.{memory, last_to}
use Rattle.grammar.specs.Stream.{Window, windows_sent}
use Rattle.grammar.specs.Fits.{AllFit}
use Rattle.grammar.specs.Tables.{cells, nulled}
use Rattle.tidy.specs.Spans.{Span, has, covered, spans_of, values_of}
use Rattle.tidy.specs.Steps.{Spaced, spanned, Below}
use Rattle.tidy.specs.Tidy.{last_byte, window_over, tidy_windows}
use Rattle.tidy.proofs.HasCell.{has_true}
use Rattle.tidy.proofs.Values.{values_length}
use Rattle.tidy.proofs.SpanCells.{spans_spaced, spans_below, spans_cells, spanned_high}
use Rattle.tidy.proofs.WindowEffect.{byte_for, windows-more, windows_last, covered-inside}

-- ---- windows over spans, with a value for each cell

values-at : (v : ℕ → ℕ) (n a j : ℕ) → j < n → get_or (values_of v n a) j 0 ≡ v (a + j)
values-at v zero a j h = absurd (omega (arith, h))
values-at v (suc n) a zero h = ap v (omega arith)
values-at v (suc n) a (suc j) h = values-at v n (suc a) j (omega arith) ∙ ap v (omega arith)

module _ (v : ℕ → ℕ) where
  over_fits : (size l : ℕ) (xs : List Span) → Spaced l xs → Below size xs → AllFit size (map (window_over v) xs)
  over_fits size l [] s b = tt
  over_fits size l (x ∷ xs) s b = (
    record { order = s.1; inside = b.0; full = values_length v (width_of x.start x.end) x.start ∙ omega arith },
    over_fits size (x.end + 2) xs s.2 b.1,
  )

  over-nulled : (xs : List Span) → nulled (map (window_over v) xs) ≡ map (window_over v) xs
  over-nulled [] = refl
  over-nulled (x ∷ xs) = ap (λ (ws : List Window). window_over v x ∷ ws) (over-nulled xs)

  over-covered : (xs : List Span) (i : ℕ) → covered (map (window_over v) xs) i ≡ spanned xs i
  unfolding covered spanned
  over-covered [] i = refl
  over-covered (x ∷ xs) i = rw (over-covered xs i)

  over_small : (xs : List Span) → ((i : ℕ) → v i < 256) → Bytes (cells (map (window_over v) xs))
  over_small [] h = tt
  over_small (x ∷ xs) h =
      bytes-append (values_of v (width_of x.start x.end) x.start) (cells (map (window_over v) xs))
      (values_small (width_of x.start x.end) x.start h) (over_small xs h)
    where
      values_small : (n a : ℕ) → ((i : ℕ) → v i < 256) → Bytes (values_of v n a)
      values_small zero a h = tt
      values_small (suc n) a h = (h a, values_small n (suc a) h)

  -- each leaves the value of its cell
  over-byte : (x : Span) (i old : ℕ) → pick (has x.start x.end i) (byte_for (window_over v x) i) old ≡ pick (has x.start x.end i) (v i) old
  over-byte x i old =
      by_test (has x.start x.end i)
      (λ e.
      let h = has_true x.start x.end i e in
      let z : x.start + (i - x.start) ≡ i = omega (arith, h.0) in
      rw e (values-at v (width_of x.start x.end) x.start (i - x.start) (omega (arith, h.0, h.1)) ∙ ap v z))
      (λ e. rw e)

  over_last : (size l : ℕ) (xs : List Span) (i old : ℕ) → Spaced l xs → Below size xs
      → last_to memory (windows_sent 0 (map (window_over v) xs)) i old ≡ pick (spanned xs i) (v i) old
  unfolding spanned
  over_last size l [] i old s b = refl
  over_last size l (x ∷ xs) i old s b =
      let h : Bool = has x.start x.end i in
      windows-more size (window_over v x) (map (window_over v) xs) i old (over_fits size l (x ∷ xs) s b).0
      ∙ ap (last_to memory (windows_sent 0 (map (window_over v) xs)) i) (over-byte x i old)
      ∙ over_last size (x.end + 2) xs i (pick h (v i) old) s.2 b.1
      ∙ turn h (spanned xs i) (v i) old
    where
      turn : (h k : Bool) (a old : ℕ) → pick k a (pick h a old) ≡ pick (h || k) a old
      turn true true a old = refl
      turn true false a old = refl
      turn false true a old = refl
      turn false false a old = refl

-- ---- the tidied windows

-- their spans
abbrev pub tidy_spans : ℕ → List Window → List Span
tidy_spans size ws = spans_of (covered ws) size 0

pub tidy_spaced : (size : ℕ) (ws : List Window) → Spaced 0 (tidy_spans size ws)
tidy_spaced size ws = spans_spaced (covered ws) size 0

pub tidy_below : (size : ℕ) (ws : List Window) → Below size (tidy_spans size ws)
tidy_below size ws =
    let e : 0 + size ≡ size = omega arith in
    rw e at (spans_below (covered ws) size 0)

pub tidy_fits : (size : ℕ) (ws : List Window) → AllFit size (tidy_windows size ws)
unfolding tidy_windows
tidy_fits size ws = over_fits (last_byte ws) size 0 (tidy_spans size ws) (tidy_spaced size ws) (tidy_below size ws)

pub tidy_nulled : (size : ℕ) (ws : List Window) → nulled (tidy_windows size ws) ≡ tidy_windows size ws
unfolding tidy_windows
tidy_nulled size ws = over-nulled (last_byte ws) (tidy_spans size ws)

pub tidy_small : (size : ℕ) (ws : List Window) → ((i : ℕ) → last_byte ws i < 256) → Bytes (cells (tidy_windows size ws))
unfolding tidy_windows
tidy_small size ws h = over_small (last_byte ws) (tidy_spans size ws) h

module _ (size : ℕ) (ws : List Window) (f : AllFit size ws) where
  tidy_spanned : (i : ℕ) → spanned (tidy_spans size ws) i ≡ covered ws i
  tidy_spanned i =
      by_test (ltb i size)
      (λ e. spans_cells (covered ws) size 0 i (omega arith) (omega (arith, ltb-true i size e)))
      (λ e.
      let h = ltb-false i size e in
      spanned_high (tidy_spans size ws) size i (tidy_below size ws) h ∙ sym (covered-inside size ws i f h))

  pub tidy_covered : (i : ℕ) → covered (tidy_windows size ws) i ≡ covered ws i
  unfolding tidy_windows
  tidy_covered i = over-covered (last_byte ws) (tidy_spans size ws) i ∙ tidy_spanned i

  -- and they leave what the given ones leave, whatever was there
  pub tidy_last : (i old : ℕ) → last_to memory (windows_sent 0 (tidy_windows size ws)) i old ≡ last_to memory (windows_sent 0 ws) i old
  unfolding tidy_windows
  tidy_last i old =
      over_last (last_byte ws) size 0 (tidy_spans size ws) i old (tidy_spaced size ws) (tidy_below size ws)
      ∙ ap (λ (k : Bool). pick k (last_byte ws i) old) (tidy_spanned i)
      ∙ sym (windows_last size ws i old f)
