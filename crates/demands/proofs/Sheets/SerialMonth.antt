-- Sheets of the teaching array in mode 3, whose streams are hunted, and in mode 6, by computation. Assumes nothing.
use mathlib.Core.Path.{◌≡◌, refl}
use Prim.Native.Nat.{ℕ}
use mathlib.Core.List.{List, [], ◌∷◌, ◌++◌}
use lib.Count.{ones, ones_in}
use lib.ListN.{replicate}
use Rattle.chain.specs.Kinds.{size_of, base_of, known_of}
use Rattle.chain.specs.State.{is_bad_chain, unused_zero, is_well_formed, is_ill_formed, state_number}
use Rattle.chain.specs.Calls.{first_only}
use Rattle.awaited.specs.Byte.{number_of, passed_of, advance_of}
use Rattle.machine.specs.Run.{address_of, memory_of, registers_of, missed_of, step_of, run_of}
use Rattle.machine.specs.Calls.{start_number, start_of, fed_of}
use Rattle.closing.specs.Closing.{closing_bytes}
use Rattle.hunt.specs.Bits.{bit_at, bits_from, byte_at, bytes_from, whole_from}
use Rattle.hunt.specs.Hunt.{begins_at, first_from, found_at, hunted_bytes}
use Rattle.grammar.specs.Stores.{walk_of}
use Rattle.sheet.specs.Count.{sum_from, times_in}
use Rattle.sheet.specs.Stream.{load_of, stores_of, left_by, row_of}
use Rattle.sheet.specs.Sheet.{sheet_number, sheet_rows, sheet_of}
use Rattle.demands.specs.Loader.{AfterSheet}
use Rattle.demands.specs.Ours.{ours}

-- ---- mode 3: least significant bit first, so that a byte one bit late is twice its value and the last bit of the one before

-- stream A one bit late; the last bit of 4D, a zero, needs a byte more
abbrev pub late_a : List ℕ
late_a = 0x64 ∷ 0x01 ∷ 0 ∷ 0 ∷ 0 ∷ 0xfc ∷ 0x01 ∷ 0 ∷ 0x12 ∷ 0 ∷ 0x16 ∷ 0x22 ∷ 0x44 ∷ 0x66 ∷ 0x9a ∷ 0 ∷ []

-- a preamble alone, nine bits late
abbrev preamble_late : List ℕ
preamble_late = 0 ∷ 0x64 ∷ 0x01 ∷ []

-- B2 00 00 00 00 FF 00 one bit late: the check byte is neither 4D nor B2
abbrev late_refused : List ℕ
late_refused = 0x64 ∷ 0x01 ∷ 0 ∷ 0 ∷ 0 ∷ 0xfe ∷ 0x01 ∷ 0 ∷ []

-- FF FF, and nothing, behind them
abbrev pub serial_month : List ℕ
serial_month = late_a ++ preamble_late ++ late_refused ++ (0xff ∷ 0xff ∷ [])

abbrev pub serial_lengths : List ℕ
serial_lengths = 16 ∷ 3 ∷ 8 ∷ 2 ∷ 0 ∷ []

-- A: 15 bytes of 8 edges, p = 1 and 24: 145; 11, 22, 33 over 00 are 2 + 2 + 4 bits.
-- Preamble alone: 16; 8 + 9 + 24 = 41 edges: p counts for a cut stream,
-- and for a refused one: 8 at the 7th byte, 56 + 1 + 24 = 81.
-- FF FF: no position makes B2: 5, 24 edges, else zeros. Empty: the same.
-- Sums: 23 bytes; 8 * 23 + 1 + 9 + 1 + 5 * 24 = 315 edges
abbrev pub serial_sheet : AfterSheet
serial_sheet =
    record {
      sums = record { number = 0; taken = 23; «data» = 3; cells = 3; again = 0; bits = 8; edges = 315 };
      numbers = 0 ∷ 16 ∷ 8 ∷ 5 ∷ 5 ∷ [];
      figures =
          (15 ∷ 3 ∷ 3 ∷ 0 ∷ 8 ∷ 145 ∷ [])
          ++ (1 ∷ 0 ∷ 0 ∷ 0 ∷ 0 ∷ 41 ∷ [])
          ++ (7 ∷ 0 ∷ 0 ∷ 0 ∷ 0 ∷ 81 ∷ [])
          ++ (0 ∷ 0 ∷ 0 ∷ 0 ∷ 0 ∷ 24 ∷ [])
          ++ (0 ∷ 0 ∷ 0 ∷ 0 ∷ 0 ∷ 24 ∷ [])
          ++ (88 ∷ []);
    }

pub serial_month_lem : ours.sheet 0 3 serial_month serial_lengths (replicate 5 77) (replicate 31 88) ≡ serial_sheet
unfolding size_of base_of known_of is_bad_chain unused_zero is_well_formed is_ill_formed state_number first_only number_of passed_of advance_of address_of memory_of registers_of missed_of step_of run_of start_number start_of fed_of closing_bytes walk_of ones ones_in bit_at bits_from byte_at bytes_from whole_from begins_at first_from found_at hunted_bytes sum_from times_in load_of stores_of left_by row_of sheet_number sheet_rows sheet_of
serial_month_lem = refl

-- ---- mode 6: two preambles

-- B4 set: 8 bytes, 8 + 3 edges. After it 6 comes at the second B2: 2 bytes, 2 + 3 edges
pub barred-month : ours.sheet 0 6 ((0xb2 ∷ 0xb2 ∷ 0x10 ∷ 0 ∷ 0 ∷ 0 ∷ 0xff ∷ 0x4d ∷ []) ++ (0xb2 ∷ 0xb2 ∷ 0 ∷ [])) (8 ∷ 3 ∷ []) (replicate 2 77) (replicate 12 88)
    ≡ record {
      sums = record { number = 0; taken = 10; «data» = 0; cells = 0; again = 0; bits = 0; edges = 16 };
      numbers = 0 ∷ 6 ∷ [];
      figures = (8 ∷ 0 ∷ 0 ∷ 0 ∷ 0 ∷ 11 ∷ []) ++ (2 ∷ 0 ∷ 0 ∷ 0 ∷ 0 ∷ 5 ∷ []);
    }
unfolding size_of base_of known_of is_bad_chain unused_zero is_well_formed is_ill_formed state_number first_only number_of passed_of advance_of address_of memory_of registers_of missed_of step_of run_of start_number start_of fed_of closing_bytes walk_of ones ones_in sum_from times_in load_of stores_of left_by row_of sheet_number sheet_rows sheet_of
barred-month = refl
