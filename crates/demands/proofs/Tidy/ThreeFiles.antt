-- Files for the teaching array, parked at EE: one whose windows overlap, touch and stand out of order, with null bytes that are not 00 and other bytes
-- after it; one of the same meaning in other windows; and one that differs in a cell. What each is tidied to, by computation. Assumes nothing.
use Prim.Native.Nat.{ℕ}
use mathlib.Core.Path.{◌≡◌, refl, ap, sym, ◌∙◌}
use mathlib.Core.List.{List, [], ◌∷◌, ◌++◌}
use native.Mathlib.Omega.{arith}
use lib.ListN.{length, get_or, drop, replicate}
use lib.Seq.{sets}
use Rattle.chain.specs.Paper.{bad_chain, bad_check_byte, too_short, more}
use Rattle.chain.specs.Kinds.{size_of, base_of, known_of}
use Rattle.chain.specs.State.{is_bad_chain, unused_zero, is_well_formed, is_ill_formed, state_number, feed_number}
use Rattle.chain.proofs.Bytes.{bytes_below}
use Rattle.awaited.specs.Byte.{number_of, passed_of, advance_of}
use Rattle.machine.specs.Run.{address_of, memory_of, registers_of, missed_of, step_of, run_of}
use Rattle.machine.specs.Calls.{start_number, start_of, fed_of, slice_of, slice_memory}
use Rattle.writer.specs.Stream.{section_of}
use Rattle.reader.specs.Windows.{window_stop, read_window_of, windows_stop, windows_of}
use Rattle.reader.specs.Stream.{preamble_at, head_stop, check_stop, stream_stop}
use Rattle.grammar.specs.Stream.{Window, Section}
use Rattle.grammar.specs.Fits.{SectionsFit}
use Rattle.tidy.specs.Spans.{covered, spans_of}
use Rattle.reader.specs.Given.{given_of}
use Rattle.tidy.specs.Tidy.{tidy_windows, tidied, tidy_number}
use Rattle.demands.specs.Loader.{offered}
use Rattle.demands.specs.Patches.{Sending, left_by}
use Rattle.demands.specs.OneFile.{Accepted, TidyFile, tidying, Done, tidied_again, WellTidied, TidiesAll, SameMeaning}
use Rattle.demands.specs.Ours.{ours}
use Rattle.demands.proofs.Loads.StreamA.{teaching}
use Rattle.demands.proofs.Loads.FittingLoads.{second_a}
use Rattle.demands.proofs.Patches.TwoPatches.{parked, device, once}
use Rattle.demands.proofs.Tidy.OneMeaning.{tidies_all}
use Rattle.demands.proofs.Tidy.NoOther.{one-file_each, twice}
use Rattle.demands.proofs.Tidy.OnlyAccepted.{tidy_kept}

-- ---- three streams in mode 1

abbrev window : ℕ → ℕ → ℕ → List ℕ → Window
window null start end bytes = record { null = null; start = start; end = end; bytes = bytes }

-- with the control byte 11, whose B4 is set, and the address 01 02 03
abbrev section_with : List Window → Section
section_with ws = section_of 0x11 (0x01 ∷ 0x02 ∷ 0x03 ∷ []) ws

-- P: cells 30 and 31, then 12 to 14, then 9 to 11, which touch them, then 14 and 15, over cell 14
abbrev pub section_p : Section
section_p =
    section_with
    (window 0xaa 30 31 (0x71 ∷ 0x72 ∷ [])
    ∷ window 0x55 12 14 (0x41 ∷ 0x42 ∷ 0x43 ∷ [])
    ∷ window 0x01 9 11 (0x31 ∷ 0x32 ∷ 0x33 ∷ [])
    ∷ window 0xff 14 15 (0x54 ∷ 0x55 ∷ [])
    ∷ [])

abbrev pub stream_p : List ℕ
stream_p =
    0xb2 ∷ 0x11 ∷ 0x01 ∷ 0x02 ∷ 0x03 ∷ 0xfb
    ∷ 0xaa ∷ 0 ∷ 30 ∷ 0 ∷ 31 ∷ 0x71 ∷ 0x72
    ∷ 0x55 ∷ 0 ∷ 12 ∷ 0 ∷ 14 ∷ 0x41 ∷ 0x42 ∷ 0x43
    ∷ 0x01 ∷ 0 ∷ 9 ∷ 0 ∷ 11 ∷ 0x31 ∷ 0x32 ∷ 0x33
    ∷ 0xff ∷ 0 ∷ 14 ∷ 0 ∷ 15 ∷ 0x54 ∷ 0x55
    ∷ 0x4d ∷ []

-- Q: 9 to 15 in one window, 30 and 31, and cell 15 once more
abbrev section_by : ℕ → Section
section_by v =
    section_with
    (window 0x00 9 15 (0x31 ∷ 0x32 ∷ 0x33 ∷ 0x41 ∷ 0x42 ∷ 0x54 ∷ 0x00 ∷ [])
    ∷ window 0x77 30 31 (0x71 ∷ 0x72 ∷ [])
    ∷ window 0x00 15 15 (v ∷ [])
    ∷ [])

abbrev stream_by : ℕ → List ℕ
stream_by v =
    0xb2 ∷ 0x11 ∷ 0x01 ∷ 0x02 ∷ 0x03 ∷ 0xfc
    ∷ 0x00 ∷ 0 ∷ 9 ∷ 0 ∷ 15 ∷ 0x31 ∷ 0x32 ∷ 0x33 ∷ 0x41 ∷ 0x42 ∷ 0x54 ∷ 0x00
    ∷ 0x77 ∷ 0 ∷ 30 ∷ 0 ∷ 31 ∷ 0x71 ∷ 0x72
    ∷ 0x00 ∷ 0 ∷ 15 ∷ 0 ∷ 15 ∷ v
    ∷ 0x4d ∷ []

abbrev pub stream_q : List ℕ
stream_q = stream_by 0x55

-- R: as Q, with another value in cell 15
abbrev pub stream_r : List ℕ
stream_r = stream_by 0x56

pub fits_P : SectionsFit teaching 0 section_p []
unfolding size_of
fits_P = (
  omega arith,
  record {
    few = omega arith;
    fit = (
      record { order = omega arith; inside = omega arith; full = refl },
      (
        record { order = omega arith; inside = omega arith; full = refl },
        (record { order = omega arith; inside = omega arith; full = refl }, (record { order = omega arith; inside = omega arith; full = refl }, tt)),
      ),
    );
  },
)

pub fits_by : (v : ℕ) → SectionsFit teaching 0 (section_by v) []
unfolding size_of
fits_by v = (
  omega arith,
  record {
    few = omega arith;
    fit = (
      record { order = omega arith; inside = omega arith; full = refl },
      (record { order = omega arith; inside = omega arith; full = refl }, (record { order = omega arith; inside = omega arith; full = refl }, tt)),
    );
  },
)

abbrev pub accepted_p : Accepted teaching stream_p
accepted_p = record { bytes = bytes_below stream_p refl; reading = record { first = section_p; others = []; fits = fits_P; bytes = refl } }

abbrev pub accepted_q : Accepted teaching stream_q
accepted_q = record { bytes = bytes_below stream_q refl; reading = record { first = section_by 0x55; others = []; fits = fits_by 0x55; bytes = refl } }

abbrev pub accepted_r : Accepted teaching stream_r
accepted_r = record { bytes = bytes_below stream_r refl; reading = record { first = section_by 0x56; others = []; fits = fits_by 0x56; bytes = refl } }

-- ---- files: P has another preamble and 00 after it

abbrev pub file_p : TidyFile accepted_p
file_p = record { after = 0xb2 ∷ 0x00 ∷ []; out = replicate 40 0xee }

abbrev pub file_q : TidyFile accepted_q
file_q = record { after = []; out = replicate 40 0 }

abbrev pub file_r : TidyFile accepted_r
file_r = record { after = []; out = replicate 40 0 }

-- ---- what they are tidied to: two windows, 9 to 15 and 30 to 31

abbrev pub tidy_by : ℕ → List ℕ
tidy_by v =
    0xb2 ∷ 0x11 ∷ 0x01 ∷ 0x02 ∷ 0x03 ∷ 0xfd
    ∷ 0x00 ∷ 0 ∷ 9 ∷ 0 ∷ 15 ∷ 0x31 ∷ 0x32 ∷ 0x33 ∷ 0x41 ∷ 0x42 ∷ 0x54 ∷ v
    ∷ 0x00 ∷ 0 ∷ 30 ∷ 0 ∷ 31 ∷ 0x71 ∷ 0x72
    ∷ 0x4d ∷ []

pub done_P : Done (tidying ours file_p)
unfolding size_of preamble_at head_stop check_stop stream_stop window_stop read_window_of windows_stop windows_of given_of covered spans_of tidy_windows tidied tidy_number
done_P = refl

pub done_Q : Done (tidying ours file_q)
unfolding size_of preamble_at head_stop check_stop stream_stop window_stop read_window_of windows_stop windows_of given_of covered spans_of tidy_windows tidied tidy_number
done_Q = refl

pub done_R : Done (tidying ours file_r)
unfolding size_of preamble_at head_stop check_stop stream_stop window_stop read_window_of windows_stop windows_of given_of covered spans_of tidy_windows tidied tidy_number
done_R = refl

pub tidied_P : offered (tidying ours file_p) ≡ tidy_by 0x55
unfolding size_of preamble_at head_stop check_stop stream_stop window_stop read_window_of windows_stop windows_of given_of covered spans_of tidy_windows tidied tidy_number
tidied_P = refl

pub tidied_Q : offered (tidying ours file_q) ≡ tidy_by 0x55
unfolding size_of preamble_at head_stop check_stop stream_stop window_stop read_window_of windows_stop windows_of given_of covered spans_of tidy_windows tidied tidy_number
tidied_Q = refl

pub tidied_R : offered (tidying ours file_r) ≡ tidy_by 0x56
unfolding size_of preamble_at head_stop check_stop stream_stop window_stop read_window_of windows_stop windows_of given_of covered spans_of tidy_windows tidied tidy_number
tidied_R = refl

-- the rest of the output is as lent
pub rest_P : drop 26 (tidying ours file_p).out ≡ replicate 14 0xee
unfolding size_of preamble_at head_stop check_stop stream_stop window_stop read_window_of windows_stop windows_of given_of covered spans_of tidy_windows tidied tidy_number
rest_P = refl

-- ---- the claims, of these

our_tidies : TidiesAll ours
our_tidies = tidies_all ours second_a tidy_kept

pub tidied-holds : WellTidied ours file_p
tidied-holds = our_tidies teaching parked stream_p device accepted_p file_p

-- in an output just as long, with another byte after it
pub twice_holds : Done (tidied_again ours file_p (0xff ∷ []) (replicate 26 0)) × (offered (tidied_again ours file_p (0xff ∷ []) (replicate 26 0)) ≡ offered (tidying ours file_p))
twice_holds =
    let t = twice ours second_a our_tidies teaching parked stream_p device accepted_p file_p done_P (0xff ∷ []) (replicate 26 0) in
    let z = t.0 (rw tidied_P (omega arith)) in
    (z, t.1 z)

pub again_P : offered (ours.tidy 0 (tidy_by 0x55 ++ (0xff ∷ [])) (replicate 26 0)) ≡ tidy_by 0x55
unfolding size_of preamble_at head_stop check_stop stream_stop window_stop read_window_of windows_stop windows_of given_of covered spans_of tidy_windows tidied tidy_number
again_P = refl

-- P and Q are not the same bytes, and mean the same
pub other-bytes : stream_p ≡ stream_q → ⊥
other-bytes e = let z : ◌≡◌ {A = ℕ} 37 32 = ap length e in omega arith

pub same_meaning : SameMeaning ours accepted_p accepted_q
same_meaning =
    (one-file_each ours second_a our_tidies teaching parked stream_p stream_q device accepted_p accepted_q file_p file_q done_P done_Q).0
    (tidied_P ∙ sym tidied_Q)

-- R does not
pub other_meaning : SameMeaning ours accepted_p accepted_r → ⊥
other_meaning h =
    let e = (one-file_each ours second_a our_tidies teaching parked stream_p stream_r device accepted_p accepted_r file_p file_r done_P done_R).1 h in
    let z : ◌≡◌ {A = ℕ} 0x55 0x56 = ap (λ (b : List ℕ). get_or b 17 0) (sym tidied_P ∙ e ∙ tidied_R) in
    omega arith

-- ---- the cells that P and the tidied stream leave

abbrev pub once_p : Sending 1 stream_p
once_p = once 1 0xb2 (drop 1 stream_p)

abbrev pub cells_p : List ℕ
cells_p = sets (sets parked 9 (0x31 ∷ 0x32 ∷ 0x33 ∷ 0x41 ∷ 0x42 ∷ 0x54 ∷ 0x55 ∷ [])) 30 (0x71 ∷ 0x72 ∷ [])

pub cells-given : (left_by ours teaching parked once_p).memory ≡ cells_p
unfolding size_of base_of known_of is_bad_chain unused_zero is_well_formed is_ill_formed state_number feed_number number_of passed_of advance_of address_of memory_of registers_of missed_of step_of run_of start_number start_of fed_of slice_of slice_memory
cells-given = refl

pub cells-tidied : (left_by ours teaching parked (once 1 0xb2 (drop 1 (tidy_by 0x55)))).memory ≡ cells_p
unfolding size_of base_of known_of is_bad_chain unused_zero is_well_formed is_ill_formed state_number feed_number number_of passed_of advance_of address_of memory_of registers_of missed_of step_of run_of start_number start_of fed_of slice_of slice_memory
cells-tidied = refl

-- ---- refused: an unknown kind; a stream cut short; no 4D at its end; an output one byte short

pub refused-kind : (ours.tidy 1 stream_p (replicate 40 0)).written.number ≡ bad_chain
unfolding size_of tidy_number
refused-kind = refl

pub refused-cut : (ours.tidy 0 (0xb2 ∷ 0x11 ∷ []) (replicate 40 0)).written.number ≡ more
unfolding size_of preamble_at head_stop check_stop stream_stop window_stop windows_stop tidy_number
refused-cut = refl

pub refused_end : (ours.tidy 0 (0xb2 ∷ 0 ∷ 0 ∷ 0 ∷ 0 ∷ 0xff ∷ 0x4c ∷ []) (replicate 40 0)).written.number ≡ bad_check_byte
unfolding size_of preamble_at head_stop check_stop stream_stop window_stop windows_stop tidy_number
refused_end = refl

pub refused_room : (ours.tidy 0 stream_p (replicate 25 0)).written.number ≡ too_short
unfolding size_of preamble_at head_stop check_stop stream_stop window_stop read_window_of windows_stop windows_of given_of covered spans_of tidy_windows tidied tidy_number
refused_room = refl
