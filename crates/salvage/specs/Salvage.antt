-- Salvage: the whole windows of a stream, be it accepted, refused or broken off, as a sound stream in mode 1, and its change list. Assumes nothing.
use Rattle.std.specs.Prelude.{ℕ, not, ◌≡◌, List, [], ◌∷◌, eqb, ltb, length, get_or}
use Rattle.chain.specs.Paper.{preamble, first_mode, done, bad_chain, no_preamble, too_short, no_head}
use Rattle.chain.specs.Rules.{Rule, ◌gives◌, first_of}
use Rattle.chain.specs.Kinds.{size_of}
use Rattle.chain.specs.Output.{on_done, output_of}
use Rattle.reader.specs.Windows.{ReadWindow, windows_of}
use Rattle.reader.specs.Stream.{head_length, count_at, stream_stop}
use Rattle.reader.specs.Given.{given_of, stream_with}
use Rattle.salvage.specs.declared.Salvaged.{Salvaged}

-- the byte after the last of windows that stand one after another, the first one's null byte at a position: that position if there are none
abbrev pub after_all : ℕ → List ReadWindow → ℕ
after_all at [] = at
after_all at (w ∷ ws) = after_all w.next ws

-- the byte after the last kept window, 6 if none is kept
unfoldable pub offset_of : ℕ → List ℕ → ℕ
offset_of size s = after_all head_length (windows_of size s (count_at s 0) head_length)

-- the kept windows under the head of s: control byte and address as they were, right count, null bytes 00, 4D
unfoldable pub salvaged : ℕ → List ℕ → List ℕ
salvaged size s = stream_with s (given_of size s)

-- an unknown kind, fewer than six bytes, no preamble, no room
abbrev pub salvage_rules : ℕ → List ℕ → ℕ → List Rule
salvage_rules size s room =
    (eqb size 0 gives bad_chain)
    ∷ (ltb (length s) head_length gives no_head)
    ∷ (not (eqb (get_or s 0 0) preamble) gives no_preamble)
    ∷ (ltb room (length (salvaged size s)) gives too_short)
    ∷ []

unfoldable pub salvage_number : ℕ → List ℕ → ℕ → ℕ
salvage_number kind s room = first_of (salvage_rules (size_of kind) s room) done

-- the change list of a call that gave the number n: all but the number is 0 unless it is 0. end is the stream's own number
abbrev pub changes_of : ℕ → List ℕ → ℕ → Salvaged
changes_of size s n =
    record {
      number = n;
      kept = on_done n (length (given_of size s));
      announced = on_done n (count_at s 0);
      end = on_done n (stream_stop size first_mode s).number;
      offset = on_done n (offset_of size s);
      length = on_done n (length (salvaged size s));
    }

abbrev pub salvage_of : ℕ → List ℕ → ℕ → Salvaged
salvage_of kind s room = changes_of (size_of kind) s (salvage_number kind s room)

abbrev pub salvage_output : ℕ → List ℕ → List ℕ → List ℕ
salvage_output kind s out = output_of (salvage_number kind s (length out)) (salvaged (size_of kind) s) out

-- what a reader may hold salvage to: r is the answer, out' the output left
pub record Salvages (kind : ℕ) (s out : List ℕ) (r : Salvaged) (out' : List ℕ) : Type 0 where
  pub answer : r ≡ salvage_of kind s (length out)
  pub output : out' ≡ salvage_output kind s out
