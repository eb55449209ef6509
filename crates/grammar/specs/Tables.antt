-- A section's windows as tables: their starts, ends and data, where the data stand in the stream, and the windows that tables give.
-- Assumes nothing.
use Rattle.std.specs.Prelude.{ℕ, ◌+◌, List, [], ◌∷◌, ◌++◌, length, take, drop}
use Rattle.chain.specs.Window.{width_of}
use Rattle.grammar.specs.Stream.{Window, Section}

abbrev pub starts : List Window → List ℕ
starts [] = []
starts (w ∷ ws) = w.start ∷ starts ws

abbrev pub ends : List Window → List ℕ
ends [] = []
ends (w ∷ ws) = w.end ∷ ends ws

abbrev pub cells : List Window → List ℕ
cells [] = []
cells (w ∷ ws) = w.bytes ++ cells ws

-- where the windows' data stand, o being the place of the first one's null byte
abbrev pub offsets : ℕ → List Window → List ℕ
offsets o [] = []
offsets o (w ∷ ws) = (o + 5) ∷ offsets (o + 5 + length w.bytes) ws

abbrev pub null_byte : ℕ
null_byte = 0x00

-- a window with its null byte 00
abbrev pub window_of : ℕ → ℕ → List ℕ → Window
window_of s e d = record { null = null_byte; start = s; end = e; bytes = d }

-- the windows that tables and data give: each takes its data bytes from where the last one stopped
unfoldable pub windows_from : List ℕ → List ℕ → List ℕ → List Window
windows_from [] es d = []
windows_from (s ∷ ss) [] d = []
windows_from (s ∷ ss) (e ∷ es) d = window_of s e (take (width_of s e) d) ∷ windows_from ss es (drop (width_of s e) d)

-- the same windows with their null bytes 00
abbrev pub nulled : List Window → List Window
nulled [] = []
nulled (w ∷ ws) = window_of w.start w.end w.bytes ∷ nulled ws

abbrev pub nulls_off : Section → Section
nulls_off s =
    record { control = s.control; address0 = s.address0; address1 = s.address1; address2 = s.address2; windows = nulled s.windows }
