-- The listing program: the text that it writes for every input. Assumes nothing.
use Rattle.std.specs.Prelude.{ℕ, ◌+◌, not, ◌&&◌, ◌≡◌, List, [], ◌∷◌, ◌++◌, eqb, ltb, length, drop, get_or}
use Rattle.chain.specs.Paper.{first_mode, serial, two_preambles, bad_chain, bad_mode, no_preamble}
use Rattle.chain.specs.Rules.{pick, from}
use Rattle.chain.specs.Kinds.{size_of}
use Rattle.hunt.specs.Hunt.{nowhere, found_at, hunted_bytes, hunt_of}
use Rattle.reader.specs.Windows.{ReadWindow}
use Rattle.reader.specs.Stops.{Stop, Row, ◌gives◌after◌, first_stop}
use Rattle.reader.specs.Stream.{preamble_at}
use Rattle.lister.specs.Listing.{list_stop, listing_of, starts_of, ends_of}
use Rattle.listing.specs.Lines.{letter_A, letter_L, letter_W, line_of}

-- bytes of input in all, and windows that a stream can have
abbrev pub most_input : ℕ
most_input = 65536

abbrev pub most_windows : ℕ
most_windows = 255

-- 255 windows' lines of 18 bytes, and a last one of 25
abbrev pub most_text : ℕ
most_text = 4615

-- modes 3 and 4 hunt, and the lister is given the hunted bytes
abbrev pub given_of : ℕ → List ℕ → List ℕ
given_of mode s = pick (serial mode) (hunted_bytes s) s

-- the lister's number and bytes taken, with tables for every window that there can be
abbrev pub lister_stop : ℕ → ℕ → List ℕ → Stop
lister_stop kind mode given = list_stop (size_of kind) mode given most_windows most_windows most_windows

-- kind and mode are tested, modes 3 and 4 hunt, and the lister follows
abbrev pub program_rows : ℕ → ℕ → List ℕ → List Row
program_rows kind mode s =
    (eqb (size_of kind) 0 gives bad_chain after 0)
    ∷ (not (from first_mode two_preambles mode) gives bad_mode after 0)
    ∷ (serial mode && eqb (found_at s) nowhere gives no_preamble after 0)
    ∷ []

unfoldable pub program_stop : ℕ → ℕ → List ℕ → Stop
program_stop kind mode s = first_stop (program_rows kind mode s) (lister_stop kind mode (given_of mode s))

-- a line `W n start end` for each window, from n on
unfoldable pub window_lines : ℕ → List ℕ → List ℕ → List ℕ
window_lines n [] ends = []
window_lines n (start ∷ starts) [] = []
window_lines n (start ∷ starts) (end ∷ ends) = line_of letter_W (n ∷ start ∷ end ∷ []) ++ window_lines (n + 1) starts ends

-- what follows the bytes taken in the last line: in modes 3 and 4 p and the bits left, as the hunt answers them where it has room, and 0 0 where
-- the hunt was not reached; in other modes nothing
abbrev pub where_of : ℕ → ℕ → List ℕ → List ℕ
where_of kind mode s =
    pick (serial mode)
    (pick (eqb (size_of kind) 0) (0 ∷ 0 ∷ []) ((hunt_of s most_input).p ∷ (hunt_of s most_input).left ∷ []))
    []

-- the last line, `A number taken`, and what follows
abbrev pub answer_line : ℕ → ℕ → List ℕ → List ℕ
answer_line number taken following = line_of letter_A (number ∷ taken ∷ following)

-- if accepted, the windows' lines from 1; then the last line. given is what the lister was given, and e where its reading stopped
abbrev pub windows_listed : ℕ → ℕ → List ℕ → Stop → List ReadWindow
windows_listed kind mode given e = listing_of (size_of kind) given (preamble_at mode) e

abbrev pub windows_text : ℕ → ℕ → List ℕ → Stop → List ℕ
windows_text kind mode given e = window_lines 1 (starts_of (windows_listed kind mode given e)) (ends_of (windows_listed kind mode given e))

unfoldable pub lines_of : ℕ → ℕ → List ℕ → Stop → List ℕ → List ℕ
lines_of kind mode given e following = windows_text kind mode given e ++ answer_line e.number e.taken following

unfoldable pub program_lines : ℕ → ℕ → List ℕ → List ℕ
program_lines kind mode s = lines_of kind mode (given_of mode s) (program_stop kind mode s) (where_of kind mode s)

-- standard input is mode byte, kind byte and stream
unfoldable pub text_of : List ℕ → List ℕ
text_of input =
    pick (ltb (length input) 2) (answer_line bad_chain 0 [])
    (pick (ltb most_input (length input)) (line_of letter_L [])
    (program_lines (get_or input 1 0) (get_or input 0 0) (drop 2 input)))

-- what a reader may hold the text to: all of it stands at the front of the output, and its length is answered
pub record Writes (input out : List ℕ) (r : ℕ) (out' : List ℕ) : Type 0 where
  pub answer : r ≡ length (text_of input)
  pub output : out' ≡ text_of input ++ drop (length (text_of input)) out
