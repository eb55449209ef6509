-- A sheet of the teaching array in mode 1, by computation: seven streams, every figure worked out from the paper. Assumes nothing.
use Prim.Native.Nat.{ℕ}
use mathlib.Core.Path.{◌≡◌, refl}
use mathlib.Core.List.{List, [], ◌∷◌, ◌++◌}
use lib.Count.{ones, ones_in}
use lib.ListN.{replicate, take}
use Rattle.chain.specs.Kinds.{size_of, base_of, known_of}
use Rattle.chain.specs.State.{is_bad_chain, unused_zero, is_well_formed, is_ill_formed, state_number}
use Rattle.chain.specs.Calls.{first_only}
use Rattle.awaited.specs.Byte.{number_of, passed_of, advance_of}
use Rattle.machine.specs.Run.{address_of, memory_of, registers_of, missed_of, step_of, run_of}
use Rattle.machine.specs.Calls.{start_number, start_of, fed_of}
use Rattle.closing.specs.Closing.{closing_bytes}
use Rattle.grammar.specs.Stores.{walk_of}
use Rattle.sheet.specs.Count.{sum_from, times_in}
use Rattle.sheet.specs.Stream.{load_of, stores_of, left_by, row_of}
use Rattle.sheet.specs.Sheet.{sheet_number, sheet_rows, sheet_of}
use Rattle.demands.specs.Loader.{AfterSheet}
use Rattle.demands.specs.Ours.{ours}
use Rattle.demands.proofs.Loads.StreamA.{stream_a}

-- ---- the streams

-- A cut inside its window: 11 and 22 are stored in cells 9 and 10
abbrev pub cut_a : List ℕ
cut_a = take 13 stream_a

-- two windows announced: FF into cell 20, then the start 52 (34 hex), which is not below the size. Two bytes more that no one looks at
abbrev refused : List ℕ
refused = 0xb2 ∷ 0 ∷ 0 ∷ 0 ∷ 0 ∷ 0xfd ∷ 0 ∷ 0 ∷ 20 ∷ 0 ∷ 20 ∷ 0xff ∷ 0 ∷ 0 ∷ 0x34 ∷ 0 ∷ 0 ∷ []

-- document 01's case 2: 9 to 11 as in A, then 44 into cell 10
abbrev pub overlapping : List ℕ
overlapping = 0xb2 ∷ 0 ∷ 0 ∷ 0 ∷ 0 ∷ 0xfd ∷ 0 ∷ 0 ∷ 9 ∷ 0 ∷ 11 ∷ 0x11 ∷ 0x22 ∷ 0x33 ∷ 0 ∷ 0 ∷ 10 ∷ 0 ∷ 10 ∷ 0x44 ∷ 0x4d ∷ []

-- no windows, and a control byte that sets B4
abbrev pub sets_b4 : List ℕ
sets_b4 = 0xb2 ∷ 0x10 ∷ 0 ∷ 0 ∷ 0 ∷ 0xff ∷ 0x4d ∷ []

abbrev pub month : List ℕ
month = cut_a ++ stream_a ++ refused ++ overlapping ++ [] ++ sets_b4 ++ stream_a

abbrev pub month_lengths : List ℕ
month_lengths = 13 ∷ 15 ∷ 17 ∷ 21 ∷ 0 ∷ 7 ∷ 15 ∷ []

-- ---- the sheet

-- Tables one stream longer than needed, of 77 and 88: the last entry, and the last six, are as lent.
-- Cut A: 16 after 13 bytes; 11 and 22 over 00 and 00 are 2 + 2 bits; 13 + 3 edges. The closing bytes 00 4D are counted nowhere.
-- A: 15 bytes; cells 9 and 10 hold 11 and 22, so that 33 over 00 alone counts, 4 bits; 15 + 3 edges.
-- Refused: 11 at the 15th byte, which counts as taken; FF over 00 is 8 bits; 15 + 3 edges.
-- Overlapping: 21 bytes, 4 of them data in 3 cells, cell 10 twice; 44 over 22 is 66 hex, 4 bits; 21 + 3 edges.
-- Empty: 16, and 3 edges.
-- B4 set: 7 bytes, accepted; 7 + 3 edges. A after it: 6 at its first byte; 1 + 3 edges.
-- Sums: 72 bytes, 10 data, 9 cells, 1 again, 20 bits, 72 + 7 * 3 edges
abbrev pub month_sheet : AfterSheet
month_sheet =
    record {
      sums = record { number = 0; taken = 72; «data» = 10; cells = 9; again = 1; bits = 20; edges = 93 };
      numbers = 16 ∷ 0 ∷ 11 ∷ 0 ∷ 16 ∷ 0 ∷ 6 ∷ 77 ∷ [];
      figures =
          (13 ∷ 2 ∷ 2 ∷ 0 ∷ 4 ∷ 16 ∷ [])
          ++ (15 ∷ 3 ∷ 3 ∷ 0 ∷ 4 ∷ 18 ∷ [])
          ++ (15 ∷ 1 ∷ 1 ∷ 0 ∷ 8 ∷ 18 ∷ [])
          ++ (21 ∷ 4 ∷ 3 ∷ 1 ∷ 4 ∷ 24 ∷ [])
          ++ (0 ∷ 0 ∷ 0 ∷ 0 ∷ 0 ∷ 3 ∷ [])
          ++ (7 ∷ 0 ∷ 0 ∷ 0 ∷ 0 ∷ 10 ∷ [])
          ++ (1 ∷ 0 ∷ 0 ∷ 0 ∷ 0 ∷ 4 ∷ [])
          ++ replicate 6 88;
    }

pub one-month : ours.sheet 0 1 month month_lengths (replicate 8 77) (replicate 48 88) ≡ month_sheet
unfolding size_of base_of known_of is_bad_chain unused_zero is_well_formed is_ill_formed state_number first_only number_of passed_of advance_of address_of memory_of registers_of missed_of step_of run_of start_number start_of fed_of closing_bytes walk_of ones ones_in sum_from times_in load_of stores_of left_by row_of sheet_number sheet_rows sheet_of
one-month = refl

-- a sheet of no streams: all is 0, and both tables are as lent
pub no_streams : ours.sheet 0 1 [] [] (77 ∷ []) (88 ∷ [])
    ≡ record {
      sums = record { number = 0; taken = 0; «data» = 0; cells = 0; again = 0; bits = 0; edges = 0 };
      numbers = 77 ∷ [];
      figures = 88 ∷ [];
    }
unfolding size_of sheet_number sheet_rows sheet_of
no_streams = refl

-- ---- refusals, in their order: all four reasons at hand, then one less each time

abbrev given : ℕ → ℕ → List ℕ → List ℕ → ℕ
given kind mode lengths numbers = (ours.sheet kind mode cut_a lengths numbers (replicate 6 88)).sums.number

pub in_order : (given 1 7 (12 ∷ []) [] ≡ 23) × (given 1 7 (13 ∷ []) [] ≡ 1) × (given 0 7 (13 ∷ []) [] ≡ 2) × (given 0 1 (13 ∷ []) [] ≡ 15)
    × (given 0 1 (13 ∷ []) (77 ∷ []) ≡ 0)
unfolding size_of sheet_number sheet_of
in_order = (refl, refl, refl, refl, refl)
