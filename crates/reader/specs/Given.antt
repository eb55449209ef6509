-- The windows that were read, with their data, as windows of the grammar; and a stream in mode 1 that keeps the head of the one that was read.
-- Assumes nothing.
use Rattle.std.specs.Prelude.{ℕ, List, ◌++◌, map, get_or, take, drop}
use Rattle.chain.specs.Paper.{first_mode}
use Rattle.chain.specs.Window.{width_of}
use Rattle.grammar.specs.Sent.{bytes_of}
use Rattle.grammar.specs.Stream.{Window, Section, lead_sent, last_sent}
use Rattle.grammar.specs.Tables.{window_of}
use Rattle.reader.specs.Windows.{ReadWindow, windows_of}
use Rattle.reader.specs.Stream.{head_length, control_at, count_at}

-- a window that was read in the stream s, with its data, and the null byte 00
abbrev pub window_in : List ℕ → ReadWindow → Window
window_in s w = window_of w.start w.end (take (width_of w.start w.end) (drop w.first s))

-- n of them, the first one's null byte at a position
abbrev pub windows_at : ℕ → List ℕ → ℕ → ℕ → List Window
windows_at size s n at = map (window_in s) (windows_of size s n at)

-- the windows of a stream in mode 1: all that it announces, or those before the first that is not whole
unfoldable pub given_of : ℕ → List ℕ → List Window
given_of size s = windows_at size s (count_at s 0) head_length

-- other windows under the head of s: control byte and external address are kept
abbrev pub with_head : List ℕ → List Window → Section
with_head s ws = record { control = control_at s 0; address0 = get_or s 2 0; address1 = get_or s 3 0; address2 = get_or s 4 0; windows = ws }

-- their stream in mode 1, for a device whose memory begins at 0
abbrev pub stream_with : List ℕ → List Window → List ℕ
stream_with s ws = bytes_of (lead_sent first_mode ++ last_sent 0 0 (with_head s ws))
