-- The stream that the writer makes for one device: the mode's lead-in, and the grammar's bytes of the section that it is lent. Assumes nothing.
use Rattle.std.specs.Prelude.{ℕ, ◌||◌, List, [], ◌∷◌, ◌++◌, eqb, get_or}
use Rattle.chain.specs.Paper.{preamble, serial_external, serial_internal, two_preambles}
use Rattle.chain.specs.Rules.{pick}
use Rattle.grammar.specs.Sent.{bytes_of}
use Rattle.grammar.specs.Stream.{Window, Section, head_sent, window_sent, windows_sent, last_sent}
use Rattle.grammar.specs.Tables.{null_byte, window_of, windows_from}

-- B2 in modes 1, 2, 5; 00 B2 in 3, 4; B2 B2 in 6
unfoldable pub lead_in : ℕ → List ℕ
lead_in mode =
    pick (eqb mode serial_external || eqb mode serial_internal) (null_byte ∷ preamble ∷ [])
    (pick (eqb mode two_preambles) (preamble ∷ preamble ∷ [])
    (preamble ∷ []))

-- a section, its external address lent low byte first
abbrev pub section_of : ℕ → List ℕ → List Window → Section
section_of control address ws =
    record { control = control; address0 = get_or address 0 0; address1 = get_or address 1 0; address2 = get_or address 2 0; windows = ws }

-- device 0's memory begins at 0
unfoldable pub stream_of : ℕ → ℕ → List ℕ → List ℕ → List ℕ → List ℕ → List ℕ
stream_of mode control address starts ends bytes = lead_in mode ++ bytes_of (last_sent 0 0 (section_of control address (windows_from starts ends bytes)))

-- for the contracts of private helpers: all before the windows, of which there are n; one window; and all of them
abbrev pub head_bytes : ℕ → ℕ → List ℕ → ℕ → List ℕ
head_bytes mode control address n = lead_in mode ++ bytes_of (head_sent 0 control (get_or address 0 0) (get_or address 1 0) (get_or address 2 0) n)

abbrev pub window_bytes : ℕ → ℕ → List ℕ → List ℕ
window_bytes start end bytes = bytes_of (window_sent 0 (window_of start end bytes))

abbrev pub windows_bytes : List ℕ → List ℕ → List ℕ → List ℕ
windows_bytes starts ends bytes = bytes_of (windows_sent 0 (windows_from starts ends bytes))
