-- The windows that are whole: read alone they are the same, and end at the same byte, and the next is not whole; and how they stand in the stream, byte for
-- byte. Assumes nothing.
use Prim.Native.Nat.{ℕ, zero, suc, ◌≤◌, ◌<◌}
use mathlib.Core.Path.{◌≡◌, refl, ap}
use mathlib.Core.List.{List, [], ◌∷◌, map}
use native.Mathlib.Omega.{arith}
use borrow.Author.Tests.{eqb-true, eqb-false}
use lib.Dec.{eqb}
use lib.ListN.{length, get_or, take, drop}
use Rattle.chain.proofs.ByCases.{by_test}
use Rattle.chain.specs.Paper.{done}
use Rattle.chain.specs.Window.{width_of}
use Rattle.grammar.specs.Stream.{Window}
use Rattle.grammar.specs.Fits.{AllFit}
use Rattle.grammar.specs.Tables.{nulled}
use Rattle.reader.specs.Stops.{Stop, stop}
use Rattle.reader.specs.Windows.{ReadWindow, next_at, window_stop, read_window_of, windows_stop, windows_of}
use Rattle.reader.specs.Given.{window_in}
use Rattle.reader.proofs.Windows.{Whole, is_whole, whole-next, windows-inside}
use Rattle.reader.proofs.Given.{windows_fit}
use Rattle.salvage.specs.Salvage.{after_all}

-- a window with its own null byte, as it stands in the stream, and several from a position on
abbrev pub raw_in : List ℕ → ℕ → ReadWindow → Window
raw_in s at w = record { null = get_or s at 0; start = w.start; end = w.end; bytes = take (width_of w.start w.end) (drop w.first s) }

abbrev pub raws_in : List ℕ → ℕ → List ReadWindow → List Window
raws_in s at [] = []
raws_in s at (w ∷ ws) = raw_in s at w ∷ raws_in s w.next ws

pub raws-nulled : (s : List ℕ) (at : ℕ) (ws : List ReadWindow) → nulled (raws_in s at ws) ≡ map (window_in s) ws
raws-nulled s at [] = refl
raws-nulled s at (w ∷ ws) = ap (λ (vs : List Window). window_in s w ∷ vs) (raws-nulled s w.next ws)

-- by the first window: none is whole, or it is and others follow it
module _ (size : ℕ) (s : List ℕ) where
  pub by_first : (P : List ReadWindow → Type 0) (n at : ℕ) → P []
      → (Whole size s at → P (read_window_of size s at ∷ windows_of size s n (next_at s at))) → P (windows_of size s (suc n) at)
  unfolding windows_of
  by_first P n at a b =
      by_test (eqb (window_stop size s at).number done)
      (λ e. rw e (b (is_whole size s at (eqb-true (window_stop size s at).number done e)))) (λ e. rw e a)

  -- read alone they are all whole, and end where they ended
  pub alone : (n at : ℕ)
      → (windows_stop size s (length (windows_of size s n at)) at ≡ stop done (after_all at (windows_of size s n at)))
      × (windows_of size s (length (windows_of size s n at)) at ≡ windows_of size s n at)
  unfolding windows_stop windows_of
  alone zero at = (refl, refl)
  alone (suc n) at =
      by_test (eqb (window_stop size s at).number done)
      (λ e. let w = is_whole size s at (eqb-true (window_stop size s at).number done e) in
      let x : (window_stop size s at).taken ≡ next_at s at = whole-next size s at w in
      let y : (read_window_of size s at).next ≡ next_at s at = ap (λ (r : ReadWindow). r.next) w.reads in
      let u = alone n (next_at s at) in
      (rw (e, e, x, y) u.0, rw (e, e) (ap (λ (ws : List ReadWindow). read_window_of size s at ∷ ws) u.1)))
      (λ e. rw e (refl, refl))

  -- where fewer are whole than were announced, the next is not
  pub then_broken : (n at : ℕ) → length (windows_of size s n at) < n → (window_stop size s (after_all at (windows_of size s n at))).number ≡ done → ⊥
  unfolding windows_of
  then_broken zero at l z = omega (arith, l)
  then_broken (suc n) at l z =
      by_test (eqb (window_stop size s at).number done)
      (λ e. let w = is_whole size s at (eqb-true (window_stop size s at).number done e) in
      let y : (read_window_of size s at).next ≡ next_at s at = ap (λ (r : ReadWindow). r.next) w.reads in
      let k : suc (length (windows_of size s n (next_at s at))) < suc n = rw e at l in
      then_broken n (next_at s at) (omega arith) (rw (e, y) at z))
      (λ e. eqb-false (window_stop size s at).number done e (rw e at z))

  pub few : (n at : ℕ) → length (windows_of size s n at) ≤ n
  unfolding windows_of
  few zero at = omega arith
  few (suc n) at =
      by_first (λ ws. length ws ≤ suc n) n at (omega arith) (λ w. let u = few n (next_at s at) in omega arith)

  pub inside : (n at : ℕ) → at ≤ length s → after_all at (windows_of size s n at) ≤ length s
  inside n at h =
      let u = (alone n at).0 in
      let i = windows-inside size s (length (windows_of size s n at)) at h (ap (λ (e : Stop). e.number) u) in
      omega (arith, ap (λ (e : Stop). e.taken) u)

  pub fit : (n at : ℕ) → AllFit size (map (window_in s) (windows_of size s n at))
  fit n at =
      let u = alone n at in
      rw u.1 at (windows_fit size s (length (windows_of size s n at)) at (ap (λ (e : Stop). e.number) u.0))
