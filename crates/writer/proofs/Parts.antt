-- The parts of a stream as the code writes them, one after another, and how long they are. Assumes nothing.
use Prim.Native.Nat.{ℕ, ◌+◌, ◌*◌}
use mathlib.Core.Path.{◌≡◌, ap, ◌∙◌}
use mathlib.Core.List.{List, [], ◌∷◌, ◌++◌, append_assoc}
use native.Mathlib.Omega.{arith}
use lib.ListN.{length, length-append}
use Rattle.chain.specs.Paper.{postamble}
use Rattle.grammar.specs.Sent.{frame}
use Rattle.grammar.specs.Stream.{windows_sent}
use Rattle.grammar.specs.Tables.{windows_from}
use Rattle.grammar.proofs.OneReading.{bytes-append, data_bytes}
use Rattle.grammar.proofs.FromTables.{from_many}
use Rattle.writer.specs.Stream.{lead_in, head_bytes, window_bytes, windows_bytes, stream_of}
use Rattle.writer.specs.Write.{sum_of}
use Rattle.writer.proofs.Windows.{bytes-length}

-- a window is its five bytes and its data
pub window_parts : (start end : ℕ) (d : List ℕ) → window_bytes start end [] ++ d ≡ window_bytes start end d
window_parts start end d = rw (data_bytes (0 + start) d)

module _ (mode control : ℕ) (address : List ℕ) where
  pub head_length : (n : ℕ) → length (head_bytes mode control address n) ≡ length (lead_in mode) + 5
  head_length n = simp length-append

  module _ (ss es d : List ℕ) (e : length ss ≡ length es) where
    -- the head, the windows and the postamble
    pub stream_parts : stream_of mode control address ss es d ≡ (head_bytes mode control address (length ss) ++ windows_bytes ss es d) ++ (postamble ∷ [])
    unfolding stream_of
    stream_parts = rw (from_many ss es d e, bytes-append (windows_sent 0 (windows_from ss es d)) (frame postamble ∷ [])) (simp append_assoc)

    -- where the postamble goes
    pub parts_length : length d ≡ sum_of ss es
        → length (head_bytes mode control address (length ss) ++ windows_bytes ss es d) ≡ length (lead_in mode) + 5 + (5 * length ss + length d)
    parts_length s = simp (length-append, head_length (length ss), bytes-length ss es d e s)

    -- six bytes beside the lead-in, five for each window, and the data
    pub stream-length : length d ≡ sum_of ss es
        → length (stream_of mode control address ss es d) ≡ length (lead_in mode) + 6 + 5 * length ss + length d
    stream-length s =
        ap length stream_parts ∙ length-append (head_bytes mode control address (length ss) ++ windows_bytes ss es d) (postamble ∷ []) ∙ omega (arith, parts_length s)
