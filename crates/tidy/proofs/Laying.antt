-- A turn of the loop that lays the windows' data over the output, over lists and numbers alone. Assumes nothing.
use Prim.Native.Nat.{ℕ, ◌+◌, ◌-◌, ◌≤◌, ◌<◌}
use mathlib.Core.Path.{◌≡◌, refl, sym, ◌∙◌}
use mathlib.Core.List.{List}
use native.Mathlib.Omega.{arith}
use native.Mathlib.Numerals.{add-one}
use lib.ListN.{length, take, drop, get_or}
use lib.Seq.{sets}
use Rattle.chain.specs.Paper.{done}
use Rattle.reader.specs.Windows.{ReadWindow, read_window_of, windows_stop}
use Rattle.reader.specs.Stream.{head_length}
use Rattle.reader.proofs.Windows.{windows-first, windows-list-none}
use Rattle.reader.specs.Given.{windows_at}
use Rattle.tidy.specs.Steps.{paint_all}
use Rattle.reader.proofs.Given.{fits_in}

module _ (size : ℕ) (s : List ℕ) (n : ℕ) (places o₀ : List ℕ) where
  pub record Laying (o : List ℕ) (at i : ℕ) : Type 0 where
    pub upto : i ≤ n
    pub long : length o ≡ length o₀
    pub whole : (windows_stop size s (n - i) at).number ≡ done
    pub rest : paint_all places 0 (windows_at size s n head_length) o₀ ≡ paint_all places i (windows_at size s (n - i) at) o

  pub laying_none : (windows_stop size s n head_length).number ≡ done → Laying o₀ head_length 0
  laying_none h =
      let e : n - 0 ≡ n = omega arith in
      record { upto = omega arith; long = refl; whole = rw e h; rest = rw e }

  module _ (o : List ℕ) (at i : ℕ) (l : Laying o at i) where
    -- the data of the window lies in the stream
    pub laying_read : (w : ReadWindow) → i < n → w ≡ read_window_of size s at → (w.first ≤ w.next) × (w.next ≤ length s)
    laying_read w p e =
        let f = fits_in size s at (windows-first size s (n - i) at (omega arith) l.whole).0 in
        rw e (omega (arith, f.first_next), f.there)

    pub laying_more : (w : ReadWindow) (o' : List ℕ) → i < n → w ≡ read_window_of size s at → length o' ≡ length o
        → o' ≡ sets o (get_or places i 0) (take (w.next - w.first) (drop w.first s)) → Laying o' w.next (i + 1)
    unfolding paint_all
    laying_more w o' p e h q =
        let y = windows-first size s (n - i) at (omega arith) l.whole in
        let z = fits_in size s at y.0 in
        let m : (read_window_of size s at).next - (read_window_of size s at).first ≡ (read_window_of size s at).end - (read_window_of size s at).start + 1 = omega (arith, z.first_next) in
        let k : n - i - 1 ≡ n - (i + 1) = omega arith in
        record {
          upto = omega arith;
          long = h ∙ l.long;
          whole = rw (e, ← k) y.2;
          rest = l.rest ∙ rw (y.1, q, e, m, ← k, add-one i);
        }

    pub laying_all : n ≤ i → o ≡ paint_all places 0 (windows_at size s n head_length) o₀
    unfolding paint_all
    laying_all h = sym (l.rest ∙ rw (windows-list-none size s (n - i) at (omega arith)))
