-- A turn of the loop that frames spans in the output, all cells 0: over lists and numbers alone. Assumes nothing.
use Prim.Native.Nat.{ℕ, ◌+◌, ◌-◌, ◌≤◌, ◌<◌}
use mathlib.Core.Path.{◌≡◌, refl, sym, ◌∙◌}
use mathlib.Core.List.{List, ◌++◌}
use native.Mathlib.Omega.{arith}
use lib.ListN.{length, take, drop, get_or, replicate, length-replicate, take-append-drop}
use Rattle.chain.specs.Window.{width_of}
use Rattle.chain.specs.declared.window.Window.{Window as Row}
use Rattle.chain.specs.Output.{over}
use Rattle.chain.proofs.Over.{tail-length, back, over-more, length_more}
use Rattle.tidy.specs.Steps.{no_row, spans_in, window_bytes, render, long_of}
use Rattle.tidy.proofs.Values.{values-zero}
use Rattle.tidy.proofs.Lengths.{in_cons, in_none, long_more}

abbrev empty : ℕ → ℕ
empty i = 0

render-more : (xs : List Row) (i : ℕ) → i < length xs
    → render (spans_in (drop i xs)) empty
    ≡ window_bytes (get_or xs i no_row).start (get_or xs i no_row).end (replicate (width_of (get_or xs i no_row).start (get_or xs i no_row).end) 0)
    ++ render (spans_in (drop (i + 1) xs)) empty
unfolding render
render-more xs i h = rw (in_cons xs i h, values-zero (width_of (get_or xs i no_row).start (get_or xs i no_row).end) (get_or xs i no_row).start)

module _ (xs : List Row) (o₀ : List ℕ) where
  pub record Framing (o : List ℕ) (at i : ℕ) : Type 0 where
    pub upto : i ≤ length xs
    pub long : length o ≡ length o₀
    pub room : at + long_of (spans_in (drop i xs)) ≤ length o
    pub rest : over (render (spans_in xs) empty) o₀ ≡ take at o ++ over (render (spans_in (drop i xs)) empty) (drop at o)

  pub framing_none : long_of (spans_in xs) ≤ length o₀ → Framing o₀ 0 0
  framing_none h = record { upto = omega arith; long = refl; room = omega arith; rest = refl }

  module _ (o : List ℕ) (at i : ℕ) (f : Framing o at i) (h : i < length xs) where
    abbrev x : Row
    x = get_or xs i no_row

    abbrev n : ℕ
    n = width_of x.start x.end

    k : 5 + n + long_of (spans_in (drop (i + 1) xs)) ≡ long_of (spans_in (drop i xs))
    k = sym (long_more xs i h)

    pub framing_room : 5 + n ≤ length (take (length o - at) (drop at o))
    framing_room = rw (tail-length at o) (omega (arith, k, f.room))

    pub framing_more : (ys : List ℕ) → ys ≡ over (window_bytes x.start x.end (replicate n 0)) (take (length o - at) (drop at o))
        → Framing (take at o ++ (ys ++ drop (length o - at) (drop at o))) (at + (5 + n)) (i + 1)
    framing_more ys q =
        let win : List ℕ = window_bytes x.start x.end (replicate n 0) in
        let l : length win ≡ 5 + n = omega (arith, length-replicate {A = ℕ} n 0) in
        let b : take at o ++ (ys ++ drop (length o - at) (drop at o)) ≡ take at o ++ over win (drop at o) = back at win o ys q in
        let z : length (take at o ++ over win (drop at o)) ≡ length o = length_more at win o (omega (arith, k, f.room)) in
        record {
          upto = omega arith;
          long = rw b z ∙ f.long;
          room = rw (b, z) (omega (arith, k, f.room));
          rest = f.rest ∙ rw (render-more xs i h, b, ← l) (over-more at win _ o (omega (arith, k, f.room)));
        }

  pub framing_all : (o : List ℕ) (at i : ℕ) → Framing o at i → length xs ≤ i → o ≡ over (render (spans_in xs) empty) o₀
  unfolding render
  framing_all o at i f h = sym (f.rest ∙ rw (in_none xs i h) (take-append-drop at o))
