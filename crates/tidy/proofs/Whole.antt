-- Head, frames, data and postamble one after another are the whole stream, and that is the tidied one. Assumes nothing.
use Prim.Native.Nat.{ℕ, ◌+◌, ◌-◌, ◌≤◌}
use mathlib.Core.Path.{◌≡◌, refl, sym, ap, ◌∙◌}
use mathlib.Core.List.{List, [], ◌∷◌, ◌++◌, map, append_assoc, append-nil}
use native.Mathlib.Omega.{arith}
use lib.ListN.{length, take, drop, get_or, set, length-append, length-drop, length-map, drop_of_length-le}
use lib.Seq.{sets, take_at, drop_at, take_all}
use Rattle.chain.specs.Paper.{preamble, postamble, no_windows, done}
use Rattle.chain.specs.Window.{width_of}
use Rattle.chain.specs.Output.{over}
use Rattle.grammar.specs.Sent.{frame, bytes_of}
use Rattle.grammar.specs.Stream.{Window, window_sent, windows_sent}
use Rattle.grammar.proofs.OneReading.{bytes-append, data_bytes}
use Rattle.reader.specs.Windows.{windows_stop}
use Rattle.reader.specs.Stream.{head_length, count_at}
use Rattle.chain.proofs.Over.{copied, then_over, then_byte, length_over}
use Rattle.tidy.specs.Spans.{Span, covered, spans_of, values_of}
use Rattle.reader.specs.Given.{windows_at, given_of}
use Rattle.tidy.specs.Tidy.{last_byte, window_over, tidy_windows, tidied}
use Rattle.chain.specs.declared.window.Window.{Window as Row}
use Rattle.tidy.specs.Steps.{spans_in, Gathered, render, long_of, AtPlaces, paint_all, laid_out, Ready}
use Rattle.tidy.proofs.Canon.{spans_are}
use Rattle.reader.proofs.Given.{windows_fit}
use Rattle.tidy.proofs.Lengths.{in_length, render-length}
use Rattle.tidy.proofs.Painting.{paint_all_lem}

-- ---- the bytes

rendered : (v : ℕ → ℕ) (xs : List Span) → bytes_of (windows_sent 0 (map (window_over v) xs)) ≡ render xs v
unfolding render
rendered v [] = refl
rendered v (x ∷ xs) =
    bytes-append (window_sent 0 (window_over v x)) (windows_sent 0 (map (window_over v) xs))
    ∙ rw (data_bytes (0 + x.start) (values_of v (width_of x.start x.end) x.start), rendered v xs)

-- what the code lays out of the windows' spans is the tidied stream
laid-given : (size : ℕ) (s : List ℕ) (xs : List Span) → Gathered size (given_of size s) xs → laid_out s xs (last_byte (given_of size s)) ≡ tidied size s
unfolding laid_out tidied tidy_windows
laid-given size s xs g =
    let ws : List Window = given_of size s in
    let e : spans_of (covered ws) size 0 ≡ xs = spans_are xs (covered ws) size g.spaced g.below g.cells in
    sym
    (rw (
      e,
      bytes-append (windows_sent 0 (map (window_over (last_byte ws)) xs)) (frame postamble ∷ []),
      rendered (last_byte ws) xs,
      length-map xs (window_over (last_byte ws)),
    ))

pub laid_is : (size : ℕ) (s : List ℕ) (n : ℕ) (xs : List Span) → n ≡ count_at s 0 → Gathered size (windows_at size s n head_length) xs
    → laid_out s xs (last_byte (windows_at size s n head_length)) ≡ tidied size s
unfolding given_of
laid_is size s n xs e g = rw e (laid-given size s xs (rw e at g))

pub laid-length : (s : List ℕ) (xs : List Span) (v : ℕ → ℕ) → length (laid_out s xs v) ≡ 7 + long_of xs
unfolding laid_out
laid-length s xs v = simp (length-append, render-length xs v) (omega arith)

-- ---- laid into the output

painted : (size : ℕ) (s : List ℕ) (n : ℕ) (xs : List Span) (places six o o₁ ys : List ℕ) → (windows_stop size s n head_length).number ≡ done
    → Gathered size (windows_at size s n head_length) xs → AtPlaces places xs 0 (windows_at size s n head_length) → length six ≡ 6 → o₁ ≡ over (six ++ render xs (λ (i : ℕ). 0)) o
    → ys ≡ paint_all places 0 (windows_at size s n head_length) (take (length o₁ - 6) (drop 6 o₁))
    → take 6 o₁ ++ (ys ++ drop (length o₁ - 6) (drop 6 o₁)) ≡ over (six ++ render xs (last_byte (windows_at size s n head_length))) o
painted size s n xs places six o o₁ ys h g a l e y =
    let ws : List Window = windows_at size s n head_length in
    let r : List ℕ = render xs (λ (i : ℕ). 0) in
    let t : List ℕ = drop (length (six ++ r)) o in
    let all : take (length o₁ - 6) (drop 6 o₁) ≡ drop 6 o₁ = take_all (length o₁ - 6) (drop 6 o₁) (omega (arith, length-drop 6 o₁)) in
    let none : drop (length o₁ - 6) (drop 6 o₁) ≡ [] = drop_of_length-le (drop 6 o₁) {i = length o₁ - 6} (omega (arith, length-drop 6 o₁)) in
    let o₁-is : o₁ ≡ six ++ (r ++ t) = e ∙ append_assoc six r t in
    let front : take 6 o₁ ≡ six = ap (take 6) o₁-is ∙ take_at six (r ++ t) 6 l in
    let back : drop 6 o₁ ≡ r ++ t = ap (drop 6) o₁-is ∙ drop_at six (r ++ t) 6 l in
    let p : ys ≡ render xs (last_byte ws) ++ t =
    y ∙ rw (all, back) (paint_all_lem size places 0 ws xs t (λ (i : ℕ). 0) g.spaced (windows_fit size s n head_length h) g.inside a) in
    let m : length (six ++ render xs (last_byte ws)) ≡ length (six ++ r) =
    simp (length-append, render-length xs (last_byte ws), render-length xs (λ (i : ℕ). 0)) in
    rw (none, append-nil, front, p, m) (sym (append_assoc six (render xs (last_byte ws)) t))

module _ (size : ℕ) (s : List ℕ) (n : ℕ) (xs : List Row) (places o : List ℕ) (end : ℕ) (q : Ready size s n (spans_in xs) places end (length o)) where
  abbrev six : List ℕ
  six = preamble ∷ get_or s 1 0 ∷ get_or s 2 0 ∷ get_or s 3 0 ∷ get_or s 4 0 ∷ (no_windows - length xs) ∷ []

  pub ready_few : length xs ≤ 255
  ready_few = omega (arith, q.few, in_length xs)

  module _ (o₁ zs ys : List ℕ) (c : o₁ ≡ sets o 0 six)
      (z : zs ≡ over (render (spans_in xs) (λ (i : ℕ). 0)) (take (length o₁ - 6) (drop 6 o₁))) where
    abbrev framed : List ℕ
    framed = take 6 o₁ ++ (zs ++ drop (length o₁ - 6) (drop 6 o₁))

    module _ (y : ys ≡ paint_all places 0 (windows_at size s n head_length) (take (length framed - 6) (drop 6 framed))) where
      abbrev left : List ℕ
      left = set (take 6 framed ++ (ys ++ drop (length framed - 6) (drop 6 framed))) end postamble

      pub streamed : left ≡ over (laid_out s (spans_in xs) (last_byte (windows_at size s n head_length))) o
      unfolding laid_out
      streamed =
          let r : List ℕ = render (spans_in xs) (last_byte (windows_at size s n head_length)) in
          let a : o₁ ≡ over six o = c ∙ copied six o (omega (arith, q.end_is, q.fits)) in
          let b = then_over 6 six (render (spans_in xs) (λ (i : ℕ). 0)) o o₁ zs refl a z in
          let p = painted size s n (spans_in xs) places six o framed ys q.whole q.gathered q.placed refl b y in
          let l : end ≡ length (six ++ r) = omega (arith, render-length (spans_in xs) (last_byte (windows_at size s n head_length)), q.end_is) in
          rw (p, in_length xs) (then_byte (six ++ r) o end postamble l q.fits)

      pub streamed_length : length left ≡ length o
      streamed_length =
          ap length streamed
          ∙ length_over (laid_out s (spans_in xs) (last_byte (windows_at size s n head_length))) o
          (omega (arith, laid-length s (spans_in xs) (last_byte (windows_at size s n head_length)), q.end_is, q.fits))
