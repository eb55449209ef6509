-- What the program prints for document 01's stream A, and where no byte reaches the machine, computed on the definitions. Assumes nothing.
use Prim.Native.Nat.{ℕ}
use mathlib.Core.Path.{◌≡◌, refl}
use mathlib.Core.List.{List, [], ◌∷◌, ◌++◌}
use Rattle.chain.specs.Kinds.{size_of}
use Rattle.hunt.specs.Bits.{bit_at, bits_from, byte_at, bytes_from, whole_from, left_from}
use Rattle.hunt.specs.Hunt.{begins_at, first_from, found_at, hunted_bytes, hunt_number, hunt_of}
use Rattle.reader.specs.Windows.{window_stop, read_window_of, windows_stop, windows_of}
use Rattle.reader.specs.Stream.{preamble_at, head_stop, check_stop, stream_stop}
use Rattle.lister.specs.Listing.{list_stop, listing_of}
use Rattle.listing.specs.Lines.{digits_within, decimal_of, numbers_of}
use Rattle.listing.specs.Program.{program_stop, window_lines, lines_of, program_lines, text_of}

-- what stands on standard input, and what is printed
pub data Row : Type 0 where
  ◌prints◌ : List ℕ → List ℕ → Row

infix 25 ◌prints◌
abbrev pub All : List Row → Type 0
All [] = Unit {0}
All ((input prints text) ∷ rows) = (text_of input ≡ text) × All rows

abbrev pub stream_a : List ℕ
stream_a = 0xb2 ∷ 0 ∷ 0 ∷ 0 ∷ 0 ∷ 0xfe ∷ 0 ∷ 0 ∷ 9 ∷ 0 ∷ 0x0b ∷ 0x11 ∷ 0x22 ∷ 0x33 ∷ 0x4d ∷ []

-- the same bits, one place later
abbrev pub later : List ℕ
later = 0x64 ∷ 1 ∷ 0 ∷ 0 ∷ 0 ∷ 0xfc ∷ 1 ∷ 0 ∷ 0x12 ∷ 0 ∷ 0x16 ∷ 0x22 ∷ 0x44 ∷ 0x66 ∷ 0x9a ∷ 0 ∷ []

-- `W 1 9 11`, then `A 0 15` or, of the later bits, `A 0 15 1 7`
abbrev pub window_a : List ℕ
window_a = 87 ∷ 32 ∷ 49 ∷ 32 ∷ 57 ∷ 32 ∷ 49 ∷ 49 ∷ 10 ∷ []

abbrev pub listed_a : List ℕ
listed_a = window_a ++ (65 ∷ 32 ∷ 48 ∷ 32 ∷ 49 ∷ 53 ∷ 10 ∷ [])

abbrev pub listed_later : List ℕ
listed_later = window_a ++ (65 ∷ 32 ∷ 48 ∷ 32 ∷ 49 ∷ 53 ∷ 32 ∷ 49 ∷ 32 ∷ 55 ∷ 10 ∷ [])

-- `A 1 0`, `A 2 0`, `A 16 0`; in modes 3 and 4 `A 1 0 0 0`, `A 5 0 0 0`
abbrev pub answer1 : List ℕ
answer1 = 65 ∷ 32 ∷ 49 ∷ 32 ∷ 48 ∷ 10 ∷ []

abbrev pub answer2 : List ℕ
answer2 = 65 ∷ 32 ∷ 50 ∷ 32 ∷ 48 ∷ 10 ∷ []

abbrev pub answer16 : List ℕ
answer16 = 65 ∷ 32 ∷ 49 ∷ 54 ∷ 32 ∷ 48 ∷ 10 ∷ []

abbrev pub serial1 : List ℕ
serial1 = 65 ∷ 32 ∷ 49 ∷ 32 ∷ 48 ∷ 32 ∷ 48 ∷ 32 ∷ 48 ∷ 10 ∷ []

abbrev pub serial5 : List ℕ
serial5 = 65 ∷ 32 ∷ 53 ∷ 32 ∷ 48 ∷ 32 ∷ 48 ∷ 32 ∷ 48 ∷ 10 ∷ []

abbrev pub table : List Row
table =
    (1 ∷ 0 ∷ stream_a prints listed_a)
    ∷ (3 ∷ 0 ∷ later prints listed_later)
    ∷ ([] prints answer1)
    ∷ (1 ∷ [] prints answer1)
    ∷ (1 ∷ 0 ∷ [] prints answer16)
    ∷ (3 ∷ [] prints answer1)
    ∷ (3 ∷ 0 ∷ [] prints serial5)
    ∷ (4 ∷ 0 ∷ [] prints serial5)
    ∷ (3 ∷ 1 ∷ [] prints serial1)
    ∷ (4 ∷ 1 ∷ later prints serial1)
    ∷ (7 ∷ 1 ∷ stream_a prints answer1)
    ∷ (7 ∷ 0 ∷ stream_a prints answer2)
    ∷ []

pub all_print : All table
unfolding text_of program_lines lines_of window_lines program_stop list_stop stream_stop head_stop check_stop preamble_at listing_of windows_stop windows_of window_stop read_window_of size_of found_at first_from begins_at hunted_bytes hunt_number hunt_of whole_from left_from bytes_from byte_at bits_from bit_at numbers_of decimal_of digits_within
all_print = (refl, (refl, (refl, (refl, (refl, (refl, (refl, (refl, (refl, (refl, (refl, (refl, tt))))))))))))
