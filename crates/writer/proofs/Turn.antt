-- A turn of the loop that writes the windows, over lists and numbers alone. Assumes nothing.
use Prim.Native.Nat.{ℕ, ◌+◌, ◌-◌, ◌*◌, ◌≤◌}
use mathlib.Core.Path.{◌≡◌, sym, ap, ◌∙◌}
use mathlib.Core.List.{List, ◌∷◌, ◌++◌}
use native.Mathlib.Omega.{arith}
use lib.ListN.{length, take, drop, length-drop, take-append-drop}
use lib.Seq.{drop-drop, length-take-le}
use Rattle.chain.specs.Window.{width_of}
use Rattle.writer.specs.Stream.{window_bytes, windows_bytes}
use Rattle.chain.specs.Output.{over}
use Rattle.writer.specs.Write.{sum_of}
use Rattle.chain.proofs.Over.{back, over-more, length_more, tail-length}
use Rattle.writer.proofs.Windows.{bytes-more, bytes-done, window-length, sum_done}

-- ps and qs are left of the tables: their windows, written into the tail of o, give the whole output; `from` data bytes are written so far
pub record Left (ss es d o₀ o : List ℕ) (at from : ℕ) (ps qs : List ℕ) : Type 0 where
  pub same : length ps ≡ length qs
  pub all : at + 5 * length ps + sum_of ps qs ≡ 5 * length ss + length d
  pub long : length o ≡ length o₀
  pub cells : from + sum_of ps qs ≡ length d
  pub output : over (windows_bytes ss es d) o₀ ≡ take at o ++ over (windows_bytes ps qs (drop from d)) (drop at o)

-- what `window` asks for
pub room : (d o : List ℕ) (at from w : ℕ) → from + w ≤ length d → at + 5 + w ≤ length o
    → 5 + length (take (from + w - from) (drop from d)) ≤ length (take (length o - at) (drop at o))
room d o at from w h g =
    let e : from + w - from ≡ w = omega arith in
    let n : length (take w (drop from d)) ≡ w = length-take-le w (drop from d) (omega (arith, length-drop from d)) in
    rw (e, n, tail-length at o) (omega arith)

module _ (ss es d o₀ : List ℕ) (fits : 5 * length ss + length d ≤ length o₀) where
  module _ (o ys ps qs rs ts : List ℕ) (at from w s e : ℕ) (x : Left ss es d o₀ o at from ps qs) (pr : ps ≡ s ∷ rs) (qt : qs ≡ e ∷ ts) (ew : w ≡ width_of s e) where
    more : sum_of ps qs ≡ w + sum_of rs ts
    unfolding sum_of
    more = rw (pr, qt, ew)

    shorter : length ps ≡ length rs + 1
    shorter = rw pr (omega arith)

    pub enough : (from + w ≤ length d) × (at + 5 + w ≤ length o)
    enough = (omega (arith, more, x.cells), omega (arith, more, shorter, x.all, x.long))

    pub turn : (r : ℕ) → r ≡ 5 + length (take (from + w - from) (drop from d))
        → ys ≡ over (window_bytes s e (take (from + w - from) (drop from d))) (take (length o - at) (drop at o))
        → Left ss es d o₀ (take at o ++ (ys ++ drop (length o - at) (drop at o))) (at + r) (from + w) rs ts
    turn r er ey =
        let k = enough in
        let z : from + w - from ≡ w = omega arith in
        let n : length (take w (drop from d)) ≡ w = length-take-le w (drop from d) (omega (arith, length-drop from d)) in
        let win : List ℕ = window_bytes s e (take w (drop from d)) in
        let five : r ≡ 5 + w = er ∙ rw z (ap (λ (x : ℕ). 5 + x) n) in
        let lw : length win ≡ 5 + w = window-length s e (take w (drop from d)) ∙ ap (λ (x : ℕ). 5 + x) n in
        let r-is : r ≡ length win = five ∙ sym lw in
        let b : take at o ++ (ys ++ drop (length o - at) (drop at o)) ≡ take at o ++ over win (drop at o) = back at win o ys (rw z at ey) in
        record {
          same = omega (arith, x.same, shorter, ap length qt);
          all = omega (arith, x.all, more, shorter, five);
          long = rw b (length_more at win o (omega arith)) ∙ x.long;
          cells = omega (arith, x.cells, more);
          output = x.output
              ∙ rw (pr, qt, bytes-more s e rs ts (drop from d), ← ew, drop-drop w from d, b, r-is) (over-more at win _ o (omega arith));
        }

  pub done : (o ps qs : List ℕ) (at from : ℕ) → Left ss es d o₀ o at from ps qs → length ps ≡ 0
      → (at ≡ 5 * length ss + length d) × (o ≡ over (windows_bytes ss es d) o₀)
  done o ps qs at from x h =
      let z = sum_done ps qs h in
      (omega (arith, x.all), sym (x.output ∙ rw (bytes-done ps qs (drop from d) h) (take-append-drop at o)))
