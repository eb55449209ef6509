-- Loaders that the laws for patches shut out, on two patches for the teaching array. Assumes nothing.
use Prim.Native.Nat.{ℕ}
use mathlib.Core.Path.{◌≡◌, refl, ap}
use mathlib.Core.List.{List, []}
use native.Mathlib.Omega.{arith}
use lib.ListN.{get_or, replicate}
use Rattle.chain.specs.Kinds.{size_of, base_of, known_of}
use Rattle.chain.specs.State.{is_bad_chain, unused_zero, is_well_formed, is_ill_formed, state_number, feed_number}
use Rattle.chain.proofs.Bytes.{bytes_below}
use Rattle.awaited.specs.Byte.{number_of, passed_of, advance_of}
use Rattle.machine.specs.Run.{address_of, memory_of, registers_of, missed_of, step_of, run_of}
use Rattle.machine.specs.Calls.{start_number, start_of, fed_of, slice_of, slice_memory}
use Rattle.writer.specs.Stream.{lead_in, stream_of}
use Rattle.writer.specs.Write.{windows_number, sum_of, number_of as writeNumber-of, write_number}
use Rattle.reader.specs.Windows.{window_stop, read_window_of, windows_stop, windows_of}
use Rattle.reader.specs.Stream.{preamble_at, head_stop, check_stop, stream_stop}
use Rattle.lister.specs.Listing.{list_stop, listed_of, listing_of}
use Rattle.grammar.specs.Sent.{bytes_of}
use Rattle.grammar.specs.Stream.{stream_sent}
use Rattle.grammar.specs.Tables.{windows_from}
use Rattle.demands.specs.Patches.{Apart, Stacked}
use Rattle.demands.specs.WrittenOnce.{WrittenAsOne}
use Rattle.demands.specs.Wrong.{barring, wiping, offsets_from_first}
use Rattle.demands.proofs.Loads.StreamA.{teaching}
use Rattle.demands.proofs.Patches.TwoPatches.{parked, device, stream_s, stream_t, stream_u, stream_v, section_u, section_w, patch_s, patch_t, patch_v, once_s, once_t, once_u, mode_four, mode_five, none_shared, file_s, file_v}

-- ---- a memory emptied at each stream: only the last patch is left

pub wiping-apart_out : Apart wiping → ⊥
unfolding size_of base_of known_of is_bad_chain unused_zero is_well_formed is_ill_formed state_number feed_number number_of passed_of advance_of address_of memory_of registers_of missed_of step_of run_of start_number start_of fed_of slice_of slice_memory
wiping-apart_out d =
    let h = (d teaching parked 1 6 stream_s stream_t device patch_s patch_t none_shared once_s once_s once_t once_t).memory in
    let e : ◌≡◌ {A = ℕ} 0 0x11 = ap (λ (m : List ℕ). get_or m 9 0) h in
    omega arith

pub wiping_stacked_out : Stacked wiping → ⊥
unfolding size_of base_of known_of is_bad_chain unused_zero is_well_formed is_ill_formed state_number feed_number number_of passed_of advance_of address_of memory_of registers_of missed_of step_of run_of start_number start_of fed_of slice_of slice_memory
wiping_stacked_out d =
    let h = (d teaching parked 1 6 5 stream_s stream_t section_u device patch_s patch_t (omega arith) refl mode_five (bytes_below stream_u refl) once_s once_t once_u).memory in
    let e : ◌≡◌ {A = ℕ} 0x11 0 = ap (λ (m : List ℕ). get_or m 9 0) h in
    omega arith

-- ---- B4 held against the stream that sets it: 'whatever its control byte'

pub barring_stacked_out : Stacked barring → ⊥
unfolding size_of base_of known_of is_bad_chain unused_zero is_well_formed is_ill_formed state_number feed_number number_of passed_of advance_of address_of memory_of registers_of missed_of step_of run_of start_number start_of fed_of slice_of slice_memory
barring_stacked_out d =
    let e : ◌≡◌ {A = ℕ} 6 0 = (d teaching parked 1 6 5 stream_s stream_t section_u device patch_s patch_t (omega arith) refl mode_five (bytes_below stream_u refl) once_s once_t once_u).one.number in
    omega arith

-- ---- offsets from the stream's first byte: the data of a file in mode 6 are picked up one byte late

pub offsets-written_out : WrittenAsOne offsets_from_first → ⊥
unfolding size_of base_of lead_in windows_from stream_of windows_number sum_of writeNumber-of write_number preamble_at head_stop check_stop stream_stop list_stop listed_of listing_of window_stop read_window_of windows_stop windows_of
offsets-written_out d =
    let h = (d teaching parked 1 6 4 stream_s stream_v section_w device patch_s patch_v (omega arith) refl mode_four
    (bytes_below (bytes_of (stream_sent teaching 4 section_w [])) refl) file_s file_v (replicate 36 0)).bytes refl in
    let e : ◌≡◌ {A = ℕ} 0x99 0x88 = ap (λ (b : List ℕ). get_or b 26 0) h in
    omega arith
