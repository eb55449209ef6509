-- Load sheets that wish 10 shuts out, on the teaching array. Assumes nothing.
use Prim.Native.Nat.{ℕ}
use mathlib.Core.Logic.{inl, inr}
use mathlib.Core.Path.{◌≡◌, refl, ap}
use mathlib.Core.List.{List, [], ◌∷◌, ◌++◌}
use native.Mathlib.Omega.{arith}
use lib.Count.{ones, ones_in}
use lib.ListN.{get_or, replicate}
use Rattle.chain.specs.Kinds.{size_of, base_of, known_of}
use Rattle.chain.specs.State.{is_bad_chain, unused_zero, is_well_formed, is_ill_formed, state_number, open_number, feed_number}
use Rattle.chain.specs.Calls.{first_only}
use Rattle.chain.proofs.Bytes.{bytes_below}
use Rattle.awaited.specs.Byte.{number_of, passed_of, advance_of}
use Rattle.machine.specs.Run.{address_of, memory_of, registers_of, missed_of, step_of, run_of}
use Rattle.machine.specs.Calls.{start_number, start_of, fed_of, slice_of, slice_memory}
use Rattle.closing.specs.Closing.{closing_bytes}
use Rattle.closing.specs.Calls.{written_number}
use Rattle.hunt.specs.Bits.{bit_at, bits_from, byte_at, bytes_from, whole_from}
use Rattle.hunt.specs.Hunt.{begins_at, first_from, found_at, hunted_bytes}
use Rattle.grammar.specs.Stores.{walk_of}
use Rattle.sheet.specs.Count.{sum_from, times_in}
use Rattle.sheet.specs.Stream.{reset_device, load_of, stores_of, left_by, row_of}
use Rattle.sheet.specs.Sheet.{sheet_number, sheet_rows, sheet_of}
use Rattle.demands.specs.SheetTable.{SheetNumbers, SheetLeaves}
use Rattle.demands.specs.LoadSheets.{Alone, ColumnSums}
use Rattle.demands.specs.WrongSheet.{refusing_sheets, filling_refused, wrapping_sum, every_store, stores_again, cells_for_bits, closing_counted, from_preamble, idle_accepted, reset_each, accepted_sums}
use Rattle.demands.proofs.Numbers.SheetTables.{sheet_numbers}
use Rattle.demands.proofs.Loads.StreamA.{stream_a}
use Rattle.demands.proofs.Sheets.OneDevice.{reset_there}
use Rattle.demands.proofs.Sheets.OneMonth.{cut_a, overlapping, sets_b4}
use Rattle.demands.proofs.Sheets.SerialMonth.{late_a}
use Rattle.demands.proofs.Sheets.MonthsByHand.{known}

-- ---- one number for all, and so refusing all: a sheet of no streams is 0, and of kind 1 it is 1

pub refusing_sheets_out : (n : ℕ) → SheetNumbers (refusing_sheets n) → ⊥
unfolding size_of sheet_number sheet_of
refusing_sheets_out n d =
    let a : n ≡ 0 = (d 0 1 [] [] [] []).1.1.1.1.1 ((sheet_numbers 0 1 [] [] [] []).1.1.1.1.0 refl) in
    let b : n ≡ 1 = (d 1 1 [] [] [] []).1.0.1 ((sheet_numbers 1 1 [] [] [] []).1.0.0 refl) in
    omega (arith, a, b)

-- ---- lengths of 2^32 in all for no bytes: 23, and not a sheet

pub wrapping_sum_out : SheetNumbers wrapping_sum → ⊥
unfolding size_of sheet_number sheet_of
wrapping_sum_out d =
    let e : ◌≡◌ {A = ℕ} 0 23 = (d 0 1 [] (0xffffffff ∷ 1 ∷ []) (replicate 2 77) (replicate 12 88)).0.1 (tt, inl (inr (λ q. omega (arith, q)))) in
    omega arith

-- ---- a sheet whose figures have no room is 15, and its first number stands in the table nonetheless

pub filling_refused_out : SheetLeaves filling_refused → ⊥
unfolding size_of base_of known_of is_bad_chain unused_zero is_well_formed is_ill_formed state_number first_only number_of passed_of advance_of address_of memory_of registers_of missed_of step_of run_of start_number start_of fed_of closing_bytes walk_of ones ones_in sum_from times_in load_of stores_of left_by row_of sheet_number sheet_rows sheet_of
filling_refused_out d =
    let e : ◌≡◌ {A = ℕ} 0 77 = ap (λ (t : List ℕ). get_or t 0 0) (d.refused 0 1 stream_a (15 ∷ []) (77 ∷ []) [] (λ q. omega (arith, q))).numbers_kept in
    omega arith

-- ---- a cell once for each store: windows that overlap in cell 10 have four data bytes and three cells

pub every_store_out : SheetLeaves every_store → ⊥
unfolding size_of base_of known_of is_bad_chain unused_zero is_well_formed is_ill_formed state_number first_only number_of passed_of advance_of address_of memory_of registers_of missed_of step_of run_of start_number start_of fed_of closing_bytes walk_of ones ones_in sum_from times_in load_of stores_of left_by row_of sheet_number sheet_rows sheet_of
every_store_out d =
    let e : ◌≡◌ {A = ℕ} 4 3 = ((d.filled 0 1 overlapping (21 ∷ []) (77 ∷ []) (replicate 6 88) refl).rows 0 (omega arith)).cells in
    omega arith

-- ---- cell 5 three times: one cell is stored into again, by two stores

abbrev thrice : List ℕ
thrice =
    0xb2 ∷ 0x00 ∷ 0x00 ∷ 0x00 ∷ 0x00 ∷ 0xfc
    ∷ 0x00 ∷ 0 ∷ 5 ∷ 0 ∷ 5 ∷ 0x01
    ∷ 0x00 ∷ 0 ∷ 5 ∷ 0 ∷ 5 ∷ 0x02
    ∷ 0x00 ∷ 0 ∷ 5 ∷ 0 ∷ 5 ∷ 0x03
    ∷ 0x4d ∷ []

pub stores_again_out : Alone stores_again → ⊥
unfolding ones_in ones size_of base_of known_of is_bad_chain unused_zero is_well_formed is_ill_formed state_number open_number feed_number first_only number_of passed_of advance_of address_of memory_of registers_of missed_of step_of run_of start_number start_of fed_of slice_of slice_memory closing_bytes written_number walk_of sum_from times_in load_of stores_of left_by row_of sheet_number
stores_again_out a =
    let s : List ℕ = thrice in
    let h = (a 0 1 s (25 ∷ []) (77 ∷ []) (replicate 6 88) (bytes_below s refl) refl (reset_device 0) (reset_there 0 known) (replicate 60 0) (omega arith)
    (omega arith)).figures_left in
    let e : ◌≡◌ {A = ℕ} 2 1 = ap (λ (t : List ℕ). get_or t 3 0) h in
    omega arith

-- ---- cells for bits: 11, 44 and 33 over 00 are 2 + 2 + 4 bits in three cells

pub cells_for_bits_out : Alone cells_for_bits → ⊥
unfolding ones_in ones size_of base_of known_of is_bad_chain unused_zero is_well_formed is_ill_formed state_number open_number feed_number first_only number_of passed_of advance_of address_of memory_of registers_of missed_of step_of run_of start_number start_of fed_of slice_of slice_memory closing_bytes written_number walk_of sum_from times_in load_of stores_of left_by row_of sheet_number
cells_for_bits_out a =
    let s : List ℕ = overlapping in
    let h = (a 0 1 s (21 ∷ []) (77 ∷ []) (replicate 6 88) (bytes_below s refl) refl (reset_device 0) (reset_there 0 known) (replicate 60 0) (omega arith)
    (omega arith)).figures_left in
    let e : ◌≡◌ {A = ℕ} 3 8 = ap (λ (t : List ℕ). get_or t 4 0) h in
    omega arith

-- ---- closing bytes counted: stream A cut after 13 bytes is closed by 00 4D

pub closing_counted_out : SheetLeaves closing_counted → ⊥
unfolding size_of base_of known_of is_bad_chain unused_zero is_well_formed is_ill_formed state_number first_only number_of passed_of advance_of address_of memory_of registers_of missed_of step_of run_of start_number start_of fed_of closing_bytes walk_of ones ones_in sum_from times_in load_of stores_of left_by row_of sheet_number sheet_rows sheet_of
closing_counted_out d =
    let e : ◌≡◌ {A = ℕ} 15 13 = ((d.filled 0 1 cut_a (13 ∷ []) (77 ∷ []) (replicate 6 88) refl).rows 0 (omega arith)).taken in
    omega arith

-- ---- edges from the preamble on: stream A one bit late has 145

pub from_preamble_out : SheetLeaves from_preamble → ⊥
unfolding size_of base_of known_of is_bad_chain unused_zero is_well_formed is_ill_formed state_number first_only number_of passed_of advance_of address_of memory_of registers_of missed_of step_of run_of start_number start_of fed_of closing_bytes walk_of ones ones_in bit_at bits_from byte_at bytes_from whole_from begins_at first_from found_at hunted_bytes sum_from times_in load_of stores_of left_by row_of sheet_number sheet_rows sheet_of
from_preamble_out d =
    let e : ◌≡◌ {A = ℕ} 144 145 = ((d.filled 0 3 late_a (16 ∷ []) (77 ∷ []) (replicate 6 88) refl).rows 0 (omega arith)).edges in
    omega arith

-- ---- no edges to idle: stream A cut after 13 bytes has 13 and 3

pub idle_accepted_out : Alone idle_accepted → ⊥
unfolding ones_in ones size_of base_of known_of is_bad_chain unused_zero is_well_formed is_ill_formed state_number open_number feed_number first_only number_of passed_of advance_of address_of memory_of registers_of missed_of step_of run_of start_number start_of fed_of slice_of slice_memory closing_bytes written_number walk_of sum_from times_in load_of stores_of left_by row_of sheet_number
idle_accepted_out a =
    let s : List ℕ = cut_a in
    let h = (a 0 1 s (13 ∷ []) (77 ∷ []) (replicate 6 88) (bytes_below s refl) refl (reset_device 0) (reset_there 0 known) (replicate 60 0) (omega arith)
    (omega arith)).figures_left in
    let e : ◌≡◌ {A = ℕ} 13 16 = ap (λ (t : List ℕ). get_or t 5 0) h in
    omega arith

-- ---- a reset before each stream: after one that sets B4 stream A is 6, and not 0

pub reset_each_out : SheetLeaves reset_each → ⊥
unfolding size_of base_of known_of is_bad_chain unused_zero is_well_formed is_ill_formed state_number first_only number_of passed_of advance_of address_of memory_of registers_of missed_of step_of run_of start_number start_of fed_of closing_bytes walk_of ones ones_in sum_from times_in load_of stores_of left_by row_of sheet_number sheet_rows sheet_of
reset_each_out d =
    let e : ◌≡◌ {A = ℕ} 0 6 =
    ((d.filled 0 1 (sets_b4 ++ stream_a) (7 ∷ 15 ∷ []) (replicate 2 77) (replicate 12 88) refl).rows 1 (omega arith)).number in
    omega arith

-- ---- a stream that runs out is among the sums

pub accepted_sums_out : ColumnSums accepted_sums → ⊥
unfolding size_of base_of known_of is_bad_chain unused_zero is_well_formed is_ill_formed state_number first_only number_of passed_of advance_of address_of memory_of registers_of missed_of step_of run_of start_number start_of fed_of closing_bytes walk_of ones ones_in sum_from times_in load_of stores_of left_by row_of sheet_number sheet_rows sheet_of
accepted_sums_out d =
    let e : ◌≡◌ {A = ℕ} 0 13 = (d 0 1 cut_a (13 ∷ []) (77 ∷ []) (replicate 6 88) refl).taken in
    omega arith
