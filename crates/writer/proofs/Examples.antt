-- Streams of document 01 as the writer writes them, byte by byte, and one refusal of each number. Assumes nothing.
use Prim.Native.Nat.{ℕ}
use mathlib.Core.Path.{◌≡◌, refl}
use mathlib.Core.List.{List, [], ◌∷◌}
use lib.ListN.{replicate}
use Rattle.chain.specs.Kinds.{size_of}
use Rattle.writer.specs.Stream.{lead_in, stream_of}
use Rattle.grammar.specs.Tables.{windows_from}
use Rattle.writer.specs.Write.{windows_number, sum_of, number_of, write_number}

-- stream A
pub stream-A : stream_of 1 0 (0 ∷ 0 ∷ 0 ∷ []) (9 ∷ []) (11 ∷ []) (0x11 ∷ 0x22 ∷ 0x33 ∷ [])
    ≡ 0xb2 ∷ 0 ∷ 0 ∷ 0 ∷ 0 ∷ 0xfe ∷ 0 ∷ 0 ∷ 9 ∷ 0 ∷ 0x0b ∷ 0x11 ∷ 0x22 ∷ 0x33 ∷ 0x4d ∷ []
unfolding stream_of lead_in windows_from
stream-A = refl

-- case 2: two windows that overlap, in the tables' order
pub two-windows : stream_of 1 0 (0 ∷ 0 ∷ 0 ∷ []) (9 ∷ 10 ∷ []) (11 ∷ 10 ∷ []) (0x11 ∷ 0x22 ∷ 0x33 ∷ 0x44 ∷ [])
    ≡ 0xb2 ∷ 0 ∷ 0 ∷ 0 ∷ 0 ∷ 0xfd ∷ 0 ∷ 0 ∷ 9 ∷ 0 ∷ 0x0b ∷ 0x11 ∷ 0x22 ∷ 0x33 ∷ 0 ∷ 0 ∷ 0x0a ∷ 0 ∷ 0x0a ∷ 0x44 ∷ 0x4d ∷ []
unfolding stream_of lead_in windows_from
two-windows = refl

-- no windows, in mode 6, with an address and a control byte
pub none_in_6 : stream_of 6 0x10 (1 ∷ 2 ∷ 3 ∷ []) [] [] [] ≡ 0xb2 ∷ 0xb2 ∷ 0x10 ∷ 1 ∷ 2 ∷ 3 ∷ 0xff ∷ 0x4d ∷ []
unfolding stream_of lead_in windows_from
none_in_6 = refl

-- a window past 256 in a serial mode: high byte before low
pub high_in_3 : stream_of 3 0 (0 ∷ 0 ∷ 0 ∷ []) (0x102 ∷ []) (0x102 ∷ []) (0xaa ∷ [])
    ≡ 0 ∷ 0xb2 ∷ 0 ∷ 0 ∷ 0 ∷ 0 ∷ 0xfe ∷ 0 ∷ 1 ∷ 2 ∷ 1 ∷ 2 ∷ 0xaa ∷ 0x4d ∷ []
unfolding stream_of lead_in windows_from
high_in_3 = refl

-- the number of a call on the teaching array in mode 1, with this much data and room
abbrev given : List ℕ → List ℕ → List ℕ → ℕ → ℕ
given starts ends bytes room = write_number 0 1 0 (0 ∷ 0 ∷ 0 ∷ []) starts ends bytes room

-- start 52 is 11 and end 52 is 12, end 51 is taken, end below start is 12; the first window decides; tables before windows, windows
-- before data, data before room
pub numbers : (given (52 ∷ []) (52 ∷ []) [] 0 ∷ given (50 ∷ []) (52 ∷ []) [] 0 ∷ given (50 ∷ []) (51 ∷ []) (1 ∷ 2 ∷ []) 14 ∷ given (11 ∷ []) (9 ∷ []) [] 0
    ∷ given (11 ∷ 52 ∷ []) (9 ∷ 52 ∷ []) [] 0 ∷ given (52 ∷ []) [] [] 0 ∷ given (replicate 256 0) (replicate 256 52) [] 0
    ∷ given (50 ∷ []) (51 ∷ []) (1 ∷ []) 14 ∷ given (50 ∷ []) (51 ∷ []) (1 ∷ 2 ∷ []) 13 ∷ [])
    ≡ 11 ∷ 12 ∷ 0 ∷ 12 ∷ 12 ∷ 13 ∷ 13 ∷ 14 ∷ 15 ∷ []
unfolding write_number number_of size_of windows_number sum_of stream_of lead_in windows_from
numbers = refl

-- the kind before the mode, the mode before the tables
pub kind-first : (write_number 1 0 0 [] (52 ∷ []) [] [] 0 ∷ write_number 0 0 0 [] (52 ∷ []) [] [] 0 ∷ write_number 0 7 0 [] (52 ∷ []) [] [] 0 ∷ []) ≡ 1 ∷ 2 ∷ 2 ∷ []
unfolding write_number number_of size_of
kind-first = refl
