-- Salvagers that wish 12 shuts out, on broken streams for the teaching array. Assumes nothing.
use Prim.Native.Nat.{ℕ}
use mathlib.Core.Logic.{inl}
use mathlib.Core.Path.{◌≡◌, refl, ap}
use mathlib.Core.List.{List, [], ◌∷◌, ◌++◌}
use native.Mathlib.Omega.{arith}
use lib.ListN.{get_or, drop, take}
use Rattle.chain.specs.Kinds.{size_of, base_of, known_of}
use Rattle.chain.specs.State.{is_bad_chain, unused_zero, is_well_formed, is_ill_formed, state_number, feed_number}
use Rattle.chain.specs.Calls.{first_only, chain_number, new_of}
use Rattle.chain.proofs.Bytes.{bytes_below}
use Rattle.awaited.specs.Byte.{number_of, passed_of, advance_of}
use Rattle.machine.specs.Run.{address_of, memory_of, registers_of, missed_of, step_of, run_of}
use Rattle.machine.specs.Calls.{start_number, start_of, fed_of, slice_of, slice_memory}
use Rattle.reader.specs.Windows.{window_stop, read_window_of, windows_stop, windows_of}
use Rattle.reader.specs.Stream.{preamble_at, head_stop, check_stop, stream_stop}
use Rattle.reader.specs.Given.{given_of}
use Rattle.salvage.specs.Salvage.{offset_of, salvaged, salvage_number}
use Rattle.demands.specs.OldDisks.{InOrderExactly, AsMended, SoundAlways, MachineGives}
use Rattle.demands.specs.Ours.{ours}
use Rattle.demands.specs.Wrong.{announced_count, filled_up, taken_offset, accepted_alone, other_order}
use Rattle.demands.proofs.Loads.StreamA.{teaching}
use Rattle.demands.proofs.Patches.TwoPatches.{parked, device}
use Rattle.demands.proofs.Salvage.SoundStream.{salvage_kept}
use Rattle.demands.proofs.Salvage.MendedStream.{as_mended}
use Rattle.demands.proofs.Salvage.AsMachine.{machine_gives}
use Rattle.demands.proofs.Salvage.OneList.{one_stream}
use Rattle.demands.proofs.Salvage.BrokenStreams.{whole_part, cut_short, bad_start_stream, roomy, first_alone, welcomes}

-- ---- the announced count: the 4D of what is written is the null byte of a second window, and more is wanted

pub announced_count_out : SoundAlways announced_count → ⊥
unfolding size_of base_of known_of is_bad_chain unused_zero is_well_formed is_ill_formed state_number feed_number number_of passed_of advance_of address_of memory_of registers_of missed_of step_of run_of start_number start_of fed_of slice_of slice_memory preamble_at head_stop check_stop stream_stop window_stop read_window_of windows_stop windows_of given_of offset_of salvaged salvage_number
announced_count_out d =
    let w = d 0 cut_short roomy (bytes_below cut_short refl) refl in
    let e : ◌≡◌ {A = ℕ} 16 0 = ((w.loads teaching parked welcomes).whole [] 0xb2 (take 5 (drop 1 whole_part) ++ drop 6 first_alone) [] refl).number in
    omega arith

-- ---- the window that is not whole, filled up: it stores 00 in cell 22, for which the stream had no byte

pub filled_up_out : SoundAlways filled_up → ⊥
unfolding size_of base_of known_of is_bad_chain unused_zero is_well_formed is_ill_formed state_number feed_number number_of passed_of advance_of address_of memory_of registers_of missed_of step_of run_of start_number start_of fed_of slice_of slice_memory preamble_at head_stop check_stop stream_stop window_stop read_window_of windows_stop windows_of given_of offset_of salvaged salvage_number
filled_up_out d =
    let w = d 0 cut_short roomy (bytes_below cut_short refl) refl in
    let filled : List ℕ = 0x11 ∷ 0x01 ∷ 0x02 ∷ 0x03 ∷ 0xfd ∷ drop 6 (take 14 first_alone) ++ (0x00 ∷ 0 ∷ 20 ∷ 0 ∷ 22 ∷ 0x71 ∷ 0x72 ∷ 0x00 ∷ 0x4d ∷ []) in
    let e : ◌≡◌ {A = ℕ} 0x00 0xee = ((w.loads teaching parked welcomes).whole [] 0xb2 filled [] refl).cells 22 (omega arith) in
    omega arith

-- ---- the bytes taken for the offset: there the run has ended, with 11

pub taken_offset_out : MachineGives taken_offset → ⊥
unfolding size_of base_of known_of is_bad_chain unused_zero is_well_formed is_ill_formed state_number feed_number first_only chain_number new_of number_of passed_of advance_of address_of memory_of registers_of missed_of step_of run_of start_number start_of fed_of slice_of slice_memory preamble_at head_stop check_stop stream_stop window_stop read_window_of windows_stop windows_of given_of offset_of salvaged salvage_number
taken_offset_out d =
    let e : ◌≡◌ {A = ℕ} 11 16 = (d 0 bad_start_stream roomy (bytes_below bad_start_stream refl) refl).still_open in
    omega arith

-- ---- accepted streams alone: the broken one is refused with 16

pub accepted_alone_out : InOrderExactly accepted_alone → ⊥
unfolding size_of preamble_at head_stop check_stop stream_stop window_stop read_window_of windows_stop windows_of given_of offset_of salvaged salvage_number
accepted_alone_out d =
    let e : ◌≡◌ {A = ℕ} 16 0 =
    (d 0 cut_short roomy (bytes_below cut_short refl)).room (record { known = inl refl; six = omega arith; first = refl }) (omega arith) in
    omega arith

-- ---- two windows in the other order: cell 20 and then cell 9 load as cell 9 and then cell 20 do, but they are not the stream's bytes

-- three windows announced, two whole
abbrev two_of_three : List ℕ
two_of_three = 0xb2 ∷ 0 ∷ 0 ∷ 0 ∷ 0 ∷ 0xfc ∷ 0 ∷ 0 ∷ 9 ∷ 0 ∷ 9 ∷ 0x31 ∷ 0 ∷ 0 ∷ 20 ∷ 0 ∷ 20 ∷ 0x41 ∷ 0 ∷ []

pub other_order_out : AsMended other_order → ⊥
unfolding size_of preamble_at head_stop check_stop stream_stop window_stop read_window_of windows_stop windows_of given_of offset_of salvaged salvage_number
other_order_out d =
    let u = bytes_below two_of_three refl in
    let given = machine_gives 0 two_of_three roomy u refl in
    let bytes =
    one_stream ours teaching two_of_three (other_order.salvage 0 two_of_three roomy) (ours.salvage 0 two_of_three roomy) given given
    (d teaching parked two_of_three roomy device u refl) (as_mended ours salvage_kept teaching parked two_of_three roomy device u refl) in
    let e : ◌≡◌ {A = ℕ} 20 9 = ap (λ (t : List ℕ). get_or t 8 0) bytes in
    omega arith
