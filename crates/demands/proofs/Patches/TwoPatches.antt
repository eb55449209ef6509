-- Patches for the teaching array, parked at EE: the premises of the laws are met, and what the laws say is seen by computation. For a pair that shares a
-- cell the order matters to every loader that meets clause (a) of the second demand; where B4 is left set the second stream is barred. Assumes nothing.
use Prim.Native.Nat.{ℕ}
use mathlib.Core.Logic.{⊎_elim}
use mathlib.Core.Path.{◌≡◌, refl, ap, sym, ◌∙◌}
use mathlib.Core.List.{List, [], ◌∷◌}
use native.Mathlib.Omega.{arith}
use lib.Dec.{lit<}
use lib.ListN.{get_or, drop, replicate}
use lib.Seq.{sets}
use Rattle.chain.specs.Paper.{barred}
use Rattle.chain.specs.Kinds.{size_of, base_of, known_of}
use Rattle.chain.specs.State.{is_bad_chain, unused_zero, is_well_formed, is_ill_formed, state_number, feed_number}
use Rattle.chain.proofs.Bytes.{bytes_below}
use Rattle.awaited.specs.Byte.{number_of, passed_of, advance_of}
use Rattle.machine.specs.Run.{address_of, memory_of, registers_of, missed_of, step_of, run_of}
use Rattle.machine.specs.Calls.{start_number, start_of, fed_of, slice_of, slice_memory}
use Rattle.writer.specs.Stream.{lead_in, section_of, stream_of}
use Rattle.writer.specs.Write.{windows_number, sum_of, number_of as writeNumber-of, write_number}
use Rattle.reader.specs.Windows.{window_stop, read_window_of, windows_stop, windows_of}
use Rattle.reader.specs.Stream.{preamble_at, head_stop, check_stop, stream_stop}
use Rattle.lister.specs.Listing.{list_stop, listed_of, listing_of}
use Rattle.grammar.specs.Stream.{Window, Section, stream_sent}
use Rattle.grammar.specs.Sent.{bytes_of}
use Rattle.grammar.specs.Fits.{SectionsFit}
use Rattle.grammar.specs.Tables.{windows_from}
use Rattle.demands.specs.Loader.{Loader, offered, Mode}
use Rattle.demands.specs.Demand2.{Demand2a}
use Rattle.demands.specs.Patches.{Device, Patch, windows_in, Sending, left_by, left_by_both, NoneShared, EitherOrder, AnyOrder, AsOne}
use Rattle.demands.specs.WrittenOnce.{File, written_once, WritesOne}
use Rattle.demands.specs.Ours.{ours}
use Rattle.demands.proofs.Loads.StreamA.{teaching, mode-one}
use Rattle.demands.proofs.EightDevices.{mode-six}
use Rattle.demands.proofs.Loads.FittingLoads.{second_a}
use Rattle.demands.proofs.Files.WrittenFits.{second_b}
use Rattle.demands.proofs.Files.AcceptedAgain.{second_c}
use Rattle.demands.proofs.Patches.TwoLaws.{in_turn, apart, stacked}
use Rattle.demands.proofs.Patches.WrittenOnce.{written_as_one}

-- ---- the device

abbrev pub parked : List ℕ
parked = replicate 52 0xee

pub device : Device teaching parked
unfolding state_number is_bad_chain is_ill_formed unused_zero is_well_formed known_of base_of size_of
device =
    record {
      one = refl;
      idle =
          record {
            kinds = refl;
            registers = refl;
            register_bytes = bytes_below (replicate 8 0) refl;
            memory_bytes = bytes_below parked refl;
            sound = refl;
            is_closed = refl;
          };
      clear = refl;
    }

-- ---- three patches

abbrev window : ℕ → ℕ → ℕ → List ℕ → Window
window null start end bytes = record { null = null; start = start; end = end; bytes = bytes }

-- S in mode 1: cells 9 to 11, and over its own cell 10; a null byte that is not 00
abbrev pub section_s : Section
section_s = section_of 0x03 (0x01 ∷ 0x02 ∷ 0x03 ∷ []) (window 0xaa 9 11 (0x11 ∷ 0x22 ∷ 0x33 ∷ []) ∷ window 0x00 10 10 (0x44 ∷ []) ∷ [])

abbrev pub stream_s : List ℕ
stream_s = 0xb2 ∷ 0x03 ∷ 0x01 ∷ 0x02 ∷ 0x03 ∷ 0xfd ∷ 0xaa ∷ 0 ∷ 9 ∷ 0 ∷ 11 ∷ 0x11 ∷ 0x22 ∷ 0x33 ∷ 0 ∷ 0 ∷ 10 ∷ 0 ∷ 10 ∷ 0x44 ∷ 0x4d ∷ []

-- T in mode 6: cells 20 and 21, with bits 0 to 3 all set in its control byte
abbrev pub section_t : Section
section_t = section_of 0x0f (0 ∷ 0 ∷ 0 ∷ []) (window 0x55 20 21 (0x66 ∷ 0x77 ∷ []) ∷ [])

abbrev pub stream_t : List ℕ
stream_t = 0xb2 ∷ 0xb2 ∷ 0x0f ∷ 0 ∷ 0 ∷ 0 ∷ 0xfe ∷ 0x55 ∷ 0 ∷ 20 ∷ 0 ∷ 21 ∷ 0x66 ∷ 0x77 ∷ 0x4d ∷ []

-- V in mode 6: cells 11 and 12, the first of them in a window of S too
abbrev pub section_v : Section
section_v = section_of 0x0f (0 ∷ 0 ∷ 0 ∷ []) (window 0x00 11 12 (0x88 ∷ 0x99 ∷ []) ∷ [])

abbrev pub stream_v : List ℕ
stream_v = 0xb2 ∷ 0xb2 ∷ 0x0f ∷ 0 ∷ 0 ∷ 0 ∷ 0xfe ∷ 0 ∷ 0 ∷ 11 ∷ 0 ∷ 12 ∷ 0x88 ∷ 0x99 ∷ 0x4d ∷ []

pub fits_S : SectionsFit teaching 0 section_s []
unfolding size_of
fits_S =
    (omega arith, record { few = omega arith; fit = (record { order = omega arith; inside = omega arith; full = refl }, (record { order = omega arith; inside = omega arith; full = refl }, tt)) })

pub fits_T : SectionsFit teaching 0 section_t []
unfolding size_of
fits_T = (omega arith, record { few = omega arith; fit = (record { order = omega arith; inside = omega arith; full = refl }, tt) })

pub fits_V : SectionsFit teaching 0 section_v []
unfolding size_of
fits_V = (omega arith, record { few = omega arith; fit = (record { order = omega arith; inside = omega arith; full = refl }, tt) })

abbrev pub patch_s : Patch teaching 1 stream_s
patch_s = record { of_mode = mode-one; bytes = bytes_below stream_s refl; reading = record { first = section_s; others = []; fits = fits_S; bytes = refl }; clear = refl }

abbrev pub patch_t : Patch teaching 6 stream_t
patch_t = record { of_mode = mode-six; bytes = bytes_below stream_t refl; reading = record { first = section_t; others = []; fits = fits_T; bytes = refl }; clear = refl }

abbrev pub patch_v : Patch teaching 6 stream_v
patch_v = record { of_mode = mode-six; bytes = bytes_below stream_v refl; reading = record { first = section_v; others = []; fits = fits_V; bytes = refl }; clear = refl }

-- ---- sent in one slice; and cut, S with a byte after its last, T with an empty slice first

abbrev pub once : (mode b : ℕ) (bs : List ℕ) → Sending mode (b ∷ bs)
once mode b bs = record { before = []; byte = b; last = bs; rest = []; all = refl }

abbrev pub once_s : Sending 1 stream_s
once_s = once 1 0xb2 (drop 1 stream_s)

abbrev pub once_t : Sending 6 stream_t
once_t = once 6 0xb2 (drop 1 stream_t)

abbrev pub once_v : Sending 6 stream_v
once_v = once 6 0xb2 (drop 1 stream_v)

abbrev pub cut_s : Sending 1 stream_s
cut_s = record { before = (0xb2 ∷ 0x03 ∷ []) ∷ []; byte = 0x01; last = drop 3 stream_s; rest = 0xb2 ∷ []; all = refl }

abbrev pub cut_t : Sending 6 stream_t
cut_t = record { before = [] ∷ (0xb2 ∷ []) ∷ []; byte = 0xb2; last = drop 2 stream_t; rest = []; all = refl }

-- ---- apart: S and T in either order

pub none_shared : NoneShared (windows_in patch_s) (windows_in patch_t)
none_shared i h g = ⊎_elim (λ b. ⊎_elim (λ a. omega (arith, a.1, b.0)) (λ r. ⊎_elim (λ a. omega (arith, a.1, b.0)) (λ z. z) r) h) (λ z. z) g

pub apart-holds : EitherOrder ours teaching parked cut_s once_s once_t cut_t
apart-holds = apart ours second_a teaching parked 1 6 stream_s stream_t device patch_s patch_t none_shared cut_s once_s once_t cut_t

-- the cells that both orders leave
abbrev pub cells_st : List ℕ
cells_st = sets (sets parked 9 (0x11 ∷ 0x44 ∷ 0x33 ∷ [])) 20 (0x66 ∷ 0x77 ∷ [])

pub one_order : (left_by_both ours teaching parked cut_s once_t).memory ≡ cells_st
unfolding size_of base_of known_of is_bad_chain unused_zero is_well_formed is_ill_formed state_number feed_number number_of passed_of advance_of address_of memory_of registers_of missed_of step_of run_of start_number start_of fed_of slice_of slice_memory
one_order = refl

pub in_other_order : (left_by_both ours teaching parked cut_t once_s).memory ≡ cells_st
unfolding size_of base_of known_of is_bad_chain unused_zero is_well_formed is_ill_formed state_number feed_number number_of passed_of advance_of address_of memory_of registers_of missed_of step_of run_of start_number start_of fed_of slice_of slice_memory
in_other_order = refl

-- ---- a shared cell: the order matters, to every loader that meets clause (a)

pub order_matters : (l : Loader) → Demand2a l → EitherOrder l teaching parked once_s once_s once_v once_v → ⊥
order_matters l meets e =
    let a = (in_turn l meets teaching parked device 1 6 stream_s stream_v patch_s patch_v once_s once_v).cells 11 (lit< tt) in
    let b = (in_turn l meets teaching parked device 6 1 stream_v stream_s patch_v patch_s once_v once_s).cells 11 (lit< tt) in
    let z : ◌≡◌ {A = ℕ} 0x88 0x33 = sym a ∙ ap (λ (m : List ℕ). get_or m 11 0) e.memory ∙ b in
    omega arith

pub any_order_out : (l : Loader) → Demand2a l → AnyOrder l → ⊥
any_order_out l meets d = order_matters l meets (d teaching parked 1 6 stream_s stream_v device patch_s patch_v once_s once_s once_v once_v)

pub first_order : (left_by_both ours teaching parked once_s once_v).memory ≡ sets parked 9 (0x11 ∷ 0x44 ∷ 0x88 ∷ 0x99 ∷ [])
unfolding size_of base_of known_of is_bad_chain unused_zero is_well_formed is_ill_formed state_number feed_number number_of passed_of advance_of address_of memory_of registers_of missed_of step_of run_of start_number start_of fed_of slice_of slice_memory
first_order = refl

pub second_order : (left_by_both ours teaching parked once_v once_s).memory ≡ sets parked 9 (0x11 ∷ 0x44 ∷ 0x33 ∷ 0x99 ∷ [])
unfolding size_of base_of known_of is_bad_chain unused_zero is_well_formed is_ill_formed state_number feed_number number_of passed_of advance_of address_of memory_of registers_of missed_of step_of run_of start_number start_of fed_of slice_of slice_memory
second_order = refl

-- ---- B4 left set: what comes next is barred

pub then_barred : (left_by_both ours teaching parked (once 1 0xb2 (0x10 ∷ drop 2 stream_s)) once_t).fed.answer.number ≡ barred
unfolding size_of base_of known_of is_bad_chain unused_zero is_well_formed is_ill_formed state_number feed_number number_of passed_of advance_of address_of memory_of registers_of missed_of step_of run_of start_number start_of fed_of slice_of slice_memory
then_barred = refl

-- ---- stacked: one stream in mode 5 with the windows of S and then of T, other null bytes, and B4 set in its control byte

abbrev pub section_u : Section
section_u =
    section_of 0x1f (7 ∷ 8 ∷ 9 ∷ [])
    (window 0x01 9 11 (0x11 ∷ 0x22 ∷ 0x33 ∷ []) ∷ window 0x02 10 10 (0x44 ∷ []) ∷ window 0x03 20 21 (0x66 ∷ 0x77 ∷ []) ∷ [])

abbrev pub stream_u : List ℕ
stream_u = 0xb2 ∷ 0x1f ∷ 7 ∷ 8 ∷ 9 ∷ 0xfc ∷ 1 ∷ 0 ∷ 9 ∷ 0 ∷ 11 ∷ 0x11 ∷ 0x22 ∷ 0x33 ∷ 2 ∷ 0 ∷ 10 ∷ 0 ∷ 10 ∷ 0x44 ∷ 3 ∷ 0 ∷ 20 ∷ 0 ∷ 21 ∷ 0x66 ∷ 0x77 ∷ 0x4d ∷ []

bytes_U : bytes_of (stream_sent teaching 5 section_u []) ≡ stream_u
bytes_U = refl

pub mode_five : Mode 5
mode_five = record { least = omega arith; most = omega arith }

abbrev pub once_u : Sending 5 stream_u
once_u = once 5 0xb2 (drop 1 stream_u)

pub stacked_holds : AsOne ours teaching parked cut_s once_t once_u
stacked_holds =
    stacked ours second_a teaching parked 1 6 5 stream_s stream_t section_u device patch_s patch_t (omega arith) refl mode_five (bytes_below stream_u refl) cut_s once_t once_u

pub as_one_order : (left_by ours teaching parked once_u).memory ≡ cells_st
unfolding size_of base_of known_of is_bad_chain unused_zero is_well_formed is_ill_formed state_number feed_number number_of passed_of advance_of address_of memory_of registers_of missed_of step_of run_of start_number start_of fed_of slice_of slice_memory
as_one_order = refl

-- ---- written once: the files of S and of V, each with a byte after it, in mode 4 and with the control byte of V

abbrev pub section_w : Section
section_w =
    section_of 0x0f (0 ∷ 0 ∷ 0 ∷ [])
    (window 0x00 9 11 (0x11 ∷ 0x22 ∷ 0x33 ∷ []) ∷ window 0x00 10 10 (0x44 ∷ []) ∷ window 0x00 11 12 (0x88 ∷ 0x99 ∷ []) ∷ [])

pub mode_four : Mode 4
mode_four = record { least = omega arith; most = omega arith }

abbrev pub file_s : File patch_s
file_s =
    record {
      after = 0xff ∷ [];
      after_bytes = bytes_below (0xff ∷ []) refl;
      starts = replicate 2 0;
      ends = replicate 2 0;
      offsets = replicate 3 0;
      room = record { starts = omega arith; ends = omega arith; offsets = omega arith };
    }

abbrev pub file_v : File patch_v
file_v =
    record {
      after = 0x00 ∷ [];
      after_bytes = bytes_below (0x00 ∷ []) refl;
      starts = replicate 1 0;
      ends = replicate 1 0;
      offsets = replicate 1 0;
      room = record { starts = omega arith; ends = omega arith; offsets = omega arith };
    }

pub written-holds : WritesOne ours parked file_s file_v 4 section_w (replicate 36 0) (written_once ours file_s file_v 4 section_w (replicate 36 0))
written-holds =
    written_as_one ours second_a second_b second_c teaching parked 1 6 4 stream_s stream_v section_w device patch_s patch_v (omega arith) refl mode_four
    (bytes_below (bytes_of (stream_sent teaching 4 section_w [])) refl) file_s file_v (replicate 36 0)

-- what the machine is given of it, after the hunt
abbrev pub stream_w : List ℕ
stream_w = 0xb2 ∷ 0x0f ∷ 0 ∷ 0 ∷ 0 ∷ 0xfc ∷ 0 ∷ 0 ∷ 9 ∷ 0 ∷ 11 ∷ 0x11 ∷ 0x22 ∷ 0x33 ∷ 0 ∷ 0 ∷ 10 ∷ 0 ∷ 10 ∷ 0x44 ∷ 0 ∷ 0 ∷ 11 ∷ 0 ∷ 12 ∷ 0x88 ∷ 0x99 ∷ 0x4d ∷ []

pub written_bytes_lem : offered (written_once ours file_s file_v 4 section_w (replicate 36 0)) ≡ 0x00 ∷ stream_w
unfolding size_of base_of lead_in windows_from stream_of windows_number sum_of writeNumber-of write_number preamble_at head_stop check_stop stream_stop list_stop listed_of listing_of window_stop read_window_of windows_stop windows_of
written_bytes_lem = refl

-- it leaves what S and then V leave, and not what V and then S leave
pub as_one-over : (left_by ours teaching parked (once 4 0xb2 (drop 1 stream_w))).memory ≡ sets parked 9 (0x11 ∷ 0x44 ∷ 0x88 ∷ 0x99 ∷ [])
unfolding size_of base_of known_of is_bad_chain unused_zero is_well_formed is_ill_formed state_number feed_number number_of passed_of advance_of address_of memory_of registers_of missed_of step_of run_of start_number start_of fed_of slice_of slice_memory
as_one-over = refl
