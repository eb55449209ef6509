-- Windows that were read whole are windows that fit, with their data; and a stream under the head of another as plain bytes. Assumes nothing.
use Prim.Native.Nat.{ℕ, zero, suc, ◌+◌, ◌-◌, ◌≤◌}
use mathlib.Core.Path.{◌≡◌, refl, ◌∙◌}
use mathlib.Core.List.{List, ◌∷◌, ◌++◌}
use native.Mathlib.Omega.{arith}
use lib.ListN.{length, drop, length-drop}
use lib.Seq.{length-take-le}
use Rattle.chain.specs.Paper.{preamble, first_mode, done}
use Rattle.chain.specs.Kinds.{base_of}
use Rattle.chain.specs.Calls.{no_chain}
use Rattle.grammar.specs.Stream.{Window}
use Rattle.grammar.specs.Fits.{Fits, AllFit}
use Rattle.grammar.proofs.SectionBytes.{section_bytes, stream-bytes}
use Rattle.reader.specs.Windows.{ReadWindow, start_at, end_at, read_window_of, windows_stop, windows_of}
use Rattle.reader.proofs.Windows.{Whole, windows-first}
use Rattle.reader.specs.Given.{window_in, windows_at, with_head, stream_with}

-- one window
pub record FitsIn (size : ℕ) (s : List ℕ) (w : ReadWindow) : Type 0 where
  pub fits : Fits size (window_in s w)
  pub first_next : w.next ≡ w.first + (w.end - w.start + 1)
  pub there : w.next ≤ length s

pub fits_in : (size : ℕ) (s : List ℕ) (at : ℕ) → Whole size s at → FitsIn size s (read_window_of size s at)
fits_in size s at w =
    rw w.reads
    (record {
      fits =
          record {
            order = w.in_order;
            inside = w.end-inside;
            full = length-take-le (end_at s at - start_at s at + 1) (drop (at + 5) s) (omega (arith, length-drop (at + 5) s, w.all_there)) ∙ omega arith;
          };
      first_next = refl;
      there = w.all_there;
    })

pub windows_fit : (size : ℕ) (s : List ℕ) (n at : ℕ) → (windows_stop size s n at).number ≡ done → AllFit size (windows_at size s n at)
unfolding windows_of
windows_fit size s zero at h = tt
windows_fit size s (suc n) at h =
    let f = windows-first size s (suc n) at (omega arith) h in
    let e : suc n - 1 ≡ n = omega arith in
    rw (f.1, e) ((fits_in size s at f.0).fits, windows_fit size s n (read_window_of size s at).next (rw e at f.2))

-- windows under the head of s as plain bytes, whatever follows them
pub with_bytes : (s : List ℕ) (ws : List Window) (rest : List ℕ) → stream_with s ws ++ rest ≡ preamble ∷ section_bytes (with_head s ws) rest
unfolding base_of
with_bytes s ws rest = stream-bytes no_chain first_mode (with_head s ws) rest
