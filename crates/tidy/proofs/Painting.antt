-- A window's data laid over the windows of spans changes the values of its cells and nothing else; all windows laid one after another leave in each
-- cell what they send there last. Assumes nothing.
use Prim.Native.Nat.{ℕ, suc, ◌+◌, ◌-◌, ◌≤◌, ◌<◌}
use mathlib.Core.Path.{◌≡◌, refl, sym, ap, ◌∙◌}
use mathlib.Core.Logic.{⊎_elim}
use mathlib.Core.List.{List, [], ◌∷◌, ◌++◌, append_assoc}
use native.Mathlib.Omega.{arith}
use borrow.Author.Tests.{leb-true, leb-false}
use lib.Dec.{leb}
use lib.Seq.{sets}
use Rattle.chain.proofs.ByCases.{by_test}
use Rattle.chain.specs.Rules.{pick}
use Rattle.chain.specs.Window.{width_of}
use Rattle.grammar.specs.Sent.{memory, last_to}
use Rattle.grammar.specs.Stream.{Window, windows_sent}
use Rattle.grammar.specs.Fits.{Fits, AllFit}
use Rattle.tidy.specs.Spans.{Span, has, values_of}
use Rattle.tidy.specs.Steps.{Spaced, Inside, AllInside, window_bytes, render, slot_of, AtPlaces, paint_all}
use Rattle.tidy.proofs.HasCell.{has_yes, has-below, has_above}
use Rattle.tidy.proofs.Values.{sets-after, sets-before, values_length, values_same, values-laid}
use Rattle.tidy.proofs.WindowEffect.{byte_for, window-values, windows-more}

-- cells inside of spans are not below them
inside-above : (xs : List Span) (l a b : ℕ) → a ≤ b → Spaced l xs → Inside xs a b → l ≤ a
inside-above [] l a b h s i = absurd i
inside-above (x ∷ xs) l a b h s i =
    ⊎_elim (λ y. omega (arith, s.0, y.0))
    (λ y. let z = inside-above xs (x.end + 2) a b h s.2 y in omega (arith, s.0, s.1)) i

-- ---- one window

pub render-same : (u v : ℕ → ℕ) (xs : List Span) (l : ℕ) → Spaced l xs → ((i : ℕ) → l ≤ i → u i ≡ v i) → render xs u ≡ render xs v
unfolding render
render-same u v [] l s h = refl
render-same u v (x ∷ xs) l s h =
    rw (
      values_same u v (width_of x.start x.end) x.start (λ i f g. h i (omega (arith, s.0))),
      render-same u v xs (x.end + 2) s.2 (λ i f. h i (omega (arith, s.0, s.1))),
    )

module _ (size : ℕ) (w : Window) (f : Fits size w) (v : ℕ → ℕ) where
  abbrev a : ℕ
  a = w.start

  abbrev b : ℕ
  b = w.end

  -- the values after it
  abbrev laid : ℕ → ℕ
  laid i = pick (has a b i) (byte_for w i) (v i)

  below : (i : ℕ) → i < a → laid i ≡ v i
  below i h = rw (has-below a b i h)

  above : (i : ℕ) → b < i → laid i ≡ v i
  above i h = rw (has_above a b i h)

  data_is : w.bytes ≡ values_of laid (width_of a b) a
  data_is = sym (window-values size w laid f (λ i h g. rw (has_yes a b i h g)))

  -- over the cells of a span that has its own
  over : (x : Span) → x.start ≤ a → b ≤ x.end
      → sets (values_of v (width_of x.start x.end) x.start) (a - x.start) w.bytes ≡ values_of laid (width_of x.start x.end) x.start
  over x h g =
      ap (sets (values_of v (width_of x.start x.end) x.start) (a - x.start)) data_is
      ∙ values-laid laid v (width_of x.start x.end) (width_of a b) x.start a h (omega (arith, f.order)) below (λ j k. above j (omega (arith, f.order)))

  paint_one : (xs : List Span) (l : ℕ) (rest : List ℕ) → Spaced l xs → Inside xs a b
      → sets (render xs v ++ rest) (slot_of xs a) w.bytes ≡ render xs laid ++ rest
  unfolding render slot_of
  paint_one [] l rest o i = absurd i
  paint_one (x ∷ xs) l rest o i =
      let n : ℕ = width_of x.start x.end in
      let frame : List ℕ = window_bytes x.start x.end [] in
      let d : List ℕ = w.bytes in
      by_test (leb a x.end)
      (λ t. let h = leb-true a x.end t in
      let y : (x.start ≤ a) × (b ≤ x.end) =
      ⊎_elim (λ (z : (x.start ≤ a) × (b ≤ x.end)). z) (λ z. absurd (let q = inside-above xs (x.end + 2) a b f.order o.2 z in omega arith)) i in
      rw (t, append_assoc (window_bytes x.start x.end (values_of v n x.start)) (render xs v) rest)
      (sets-after frame (values_of v n x.start ++ (render xs v ++ rest)) (5 + (a - x.start)) (a - x.start) d (omega arith)
      ∙ ap (λ (q : List ℕ). frame ++ q)
      (sets-before (values_of v n x.start) (render xs v ++ rest) (a - x.start) d (rw (values_length v n x.start) (omega (arith, y.0, y.1, f.full, f.order)))
      ∙ rw (over x y.0 y.1, ← render-same laid v xs (x.end + 2) o.2 (λ j k. above j (omega (arith, y.1)))))
      ∙ sym (append_assoc (window_bytes x.start x.end (values_of laid n x.start)) (render xs laid) rest)))
      (λ t. let h = leb-false a x.end t in
      let y : Inside xs a b = ⊎_elim (λ z. absurd (omega (arith, z.1, f.order))) (λ (z : Inside xs a b). z) i in
      rw (t, append_assoc (window_bytes x.start x.end (values_of v n x.start)) (render xs v) rest)
      (sets-after (window_bytes x.start x.end (values_of v n x.start)) (render xs v ++ rest) (5 + n + slot_of xs a) (slot_of xs a) d (omega (arith, values_length v n x.start))
      ∙ (rw (paint_one xs (x.end + 2) rest o.2 y, ← values_same laid v n x.start (λ j k m. below j (omega (arith, o.1)))))
      ∙ sym (append_assoc (window_bytes x.start x.end (values_of laid n x.start)) (render xs laid) rest)))

-- ---- one after another

pub paint_all_lem : (size : ℕ) (places : List ℕ) (k : ℕ) (ws : List Window) (xs : List Span) (rest : List ℕ) (v : ℕ → ℕ) → Spaced 0 xs → AllFit size ws
    → AllInside xs ws → AtPlaces places xs k ws
    → paint_all places k ws (render xs v ++ rest) ≡ render xs (λ i. last_to memory (windows_sent 0 ws) i (v i)) ++ rest
unfolding paint_all
paint_all_lem size places k [] xs rest v o f i p = refl
paint_all_lem size places k (w ∷ ws) xs rest v o f i p =
    let u : ℕ → ℕ = laid size w f.0 v in
    rw (p.0, paint_one size w f.0 v xs 0 rest o i.0)
    (paint_all_lem size places (suc k) ws xs rest u o f.1 i.1 p.1
    ∙ ap (λ (l : List ℕ). l ++ rest)
    (render-same (λ j. last_to memory (windows_sent 0 ws) j (u j)) (λ j. last_to memory (windows_sent 0 (w ∷ ws)) j (v j)) xs 0 o
    (λ j h. sym (windows-more size w ws j (v j) f.0))))
