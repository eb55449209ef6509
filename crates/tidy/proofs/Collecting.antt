-- A turn of the loop that collects the windows' starts and ends, over lists and numbers alone. Assumes nothing.
use Prim.Native.Nat.{ℕ, ◌+◌, ◌-◌, ◌≤◌, ◌<◌}
use mathlib.Core.Path.{◌≡◌, sym, ◌∙◌}
use mathlib.Core.List.{List, [], ◌∷◌, ◌++◌, append_assoc, append-nil}
use native.Mathlib.Omega.{arith}
use native.Mathlib.Numerals.{add-one}
use lib.ListN.{length, take, set, length-set}
use lib.Seq.{take-suc-set, take_all}
use Rattle.chain.specs.Paper.{done}
use Rattle.chain.specs.declared.window.Window.{Window as Row}
use Rattle.reader.specs.Windows.{ReadWindow, read_window_of, windows_stop}
use Rattle.reader.specs.Stream.{head_length}
use Rattle.reader.proofs.Windows.{windows-first, windows-list-none}
use Rattle.reader.specs.Given.{windows_at}
use Rattle.tidy.specs.Steps.{row, keys_of, ends_of}

module _ (size : ℕ) (s : List ℕ) (n : ℕ) where
  pub record Collecting (xs : List Row) (ends : List ℕ) (at i : ℕ) : Type 0 where
    pub upto : i ≤ n
    pub few : n ≤ 255
    pub long : length xs ≡ n
    pub many : length ends ≡ 256
    pub whole : (windows_stop size s (n - i) at).number ≡ done
    pub keys : keys_of 0 (windows_at size s n head_length) ≡ take i xs ++ keys_of i (windows_at size s (n - i) at)
    pub last : ends_of (windows_at size s n head_length) ≡ take i ends ++ ends_of (windows_at size s (n - i) at)

  pub collecting_none : (xs : List Row) (ends : List ℕ) → n ≤ 255 → (windows_stop size s n head_length).number ≡ done → length xs ≡ n → length ends ≡ 256 → Collecting xs ends head_length 0
  collecting_none xs ends f w l m =
      let e : n - 0 ≡ n = omega arith in
      record { upto = omega arith; few = f; long = l; many = m; whole = rw e w; keys = rw e; last = rw e }

  module _ (xs : List Row) (ends : List ℕ) (at i : ℕ) (c : Collecting xs ends at i) where
    pub collecting_more : (w : ReadWindow) → i < n → w ≡ read_window_of size s at
        → Collecting (set xs i (row w.start i)) (set ends i w.end) w.next (i + 1)
    collecting_more w h e =
        let r : ReadWindow = read_window_of size s at in
        let f = windows-first size s (n - i) at (omega arith) c.whole in
        let k : n - i - 1 ≡ n - (i + 1) = omega arith in
        record {
          upto = omega arith;
          few = c.few;
          long = length-set xs i (row w.start i) ∙ c.long;
          many = length-set ends i w.end ∙ c.many;
          whole = rw (e, ← k) f.2;
          keys = c.keys
              ∙ rw (f.1, e, ← k, add-one i, take-suc-set xs i (row r.start i) (omega (arith, c.long)))
              (sym (append_assoc (take i xs) ((row r.start i) ∷ []) _));
          last = c.last
              ∙ rw (f.1, e, ← k, add-one i, take-suc-set ends i r.end (omega (arith, c.few, c.many)))
              (sym (append_assoc (take i ends) (r.end ∷ []) _));
        }

    pub collecting_all : n ≤ i
        → (length xs ≡ n) × (length ends ≡ 256) × (xs ≡ keys_of 0 (windows_at size s n head_length)) × (take n ends ≡ ends_of (windows_at size s n head_length))
    collecting_all h =
        let e : i ≡ n = omega (arith, c.upto) in
        let z = windows-list-none size s (n - i) at (omega arith) in (
          c.long,
          c.many,
          sym (c.keys ∙ rw (z, append-nil, take_all i xs (omega (arith, c.long)))),
          sym (c.last ∙ rw (z, append-nil, e)),
        )
