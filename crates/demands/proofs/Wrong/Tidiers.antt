-- Tidiers that wish 2 shuts out, on files for the teaching array. Assumes nothing.
use Prim.Native.Nat.{ℕ}
use mathlib.Core.Path.{◌≡◌, refl, ap, sym, subst, ◌∙◌}
use mathlib.Core.List.{List, [], ◌∷◌, ◌++◌}
use native.Mathlib.Omega.{arith}
use lib.ListN.{length, get_or, drop, take}
use Rattle.chain.specs.declared.Chain.{Chain}
use Rattle.chain.specs.Paper.{first_mode, writing}
use Rattle.chain.specs.Kinds.{size_of, base_of, known_of}
use Rattle.chain.specs.State.{is_bad_chain, unused_zero, is_well_formed, is_ill_formed, state_number, feed_number}
use Rattle.awaited.specs.Byte.{number_of, passed_of, advance_of}
use Rattle.machine.specs.Run.{address_of, memory_of, registers_of, missed_of, step_of, run_of}
use Rattle.machine.specs.Calls.{start_number, start_of, fed_of, slice_of, slice_memory}
use Rattle.writer.specs.Stream.{section_of}
use Rattle.reader.specs.Windows.{window_stop, read_window_of, windows_stop, windows_of}
use Rattle.reader.specs.Stream.{preamble_at, head_stop, check_stop, stream_stop}
use Rattle.grammar.specs.Stream.{Window, Section}
use Rattle.grammar.specs.Fits.{SectionsFit}
use Rattle.grammar.specs.Tables.{window_of}
use Rattle.grammar.proofs.OneReading.{same_sections}
use Rattle.tidy.specs.Spans.{covered, spans_of}
use Rattle.reader.specs.Given.{given_of}
use Rattle.tidy.specs.Tidy.{tidy_windows}
use Rattle.demands.specs.Loader.{AfterSlice}
use Rattle.demands.specs.Demand2.{slices}
use Rattle.demands.specs.Patches.{Sending, left_by}
use Rattle.demands.specs.Ours.{ours}
use Rattle.demands.specs.OneFile.{Gaps, TidiesAll, SameMeaning, OneFile}
use Rattle.demands.specs.Wrong.{tidying_to, untidied, earlier_kept, touching_apart}
use Rattle.demands.proofs.Loads.StreamA.{teaching}
use Rattle.demands.proofs.Patches.TwoPatches.{parked, device, once}
use Rattle.demands.proofs.Tidy.ThreeFiles.{stream_p, stream_q, accepted_p, accepted_q, file_p, file_q, once_p, same_meaning}

-- ---- the machine is ours, whatever tidies: P and Q mean the same

same-slices : (f : ℕ → List ℕ → List ℕ) (c : Chain) (m : List ℕ) (ps : List (List ℕ)) (last : List ℕ)
    → slices (tidying_to f) c m ps last ≡ slices ours c m ps last
same-slices f c m [] last = refl
same-slices f c m (p ∷ ps) last = same-slices f (ours.slice c m p).fed.chain (ours.slice c m p).memory ps last

same_left : (f : ℕ → List ℕ → List ℕ) (c : Chain) (m : List ℕ) {mode : ℕ} {s : List ℕ} (x : Sending mode s)
    → left_by (tidying_to f) c m x ≡ left_by ours c m x
same_left f c m {mode} x = same-slices f (ours.start c m mode writing).chain m x.before ((x.byte ∷ x.last) ++ x.rest)

same-machine : (f : ℕ → List ℕ → List ℕ) → SameMeaning (tidying_to f) accepted_p accepted_q
same-machine f =
    record {
      head = same_meaning.head;
      memory = λ m d x y.
          ap (λ (a : AfterSlice). a.memory) (same_left f teaching m x)
          ∙ same_meaning.memory m d x y
          ∙ sym (ap (λ (a : AfterSlice). a.memory) (same_left f teaching m y));
    }

-- ---- the stream as it came: two files for one meaning

pub untidied_out : OneFile untidied → ⊥
unfolding size_of preamble_at head_stop check_stop stream_stop window_stop windows_stop
untidied_out d =
    let f : ℕ → List ℕ → List ℕ = λ kind s. take (stream_stop (size_of kind) first_mode s).taken s in
    let e = (d teaching parked stream_p stream_q device accepted_p accepted_q file_p file_q refl refl).1 (same-machine f) in
    let z : ◌≡◌ {A = ℕ} 37 32 = ap length e in
    omega arith

-- ---- the earlier window wins: cell 14 is left with another value

abbrev tidy_earlier : List ℕ
tidy_earlier =
    0xb2 ∷ 0x11 ∷ 0x01 ∷ 0x02 ∷ 0x03 ∷ 0xfd
    ∷ 0x00 ∷ 0 ∷ 9 ∷ 0 ∷ 15 ∷ 0x31 ∷ 0x32 ∷ 0x33 ∷ 0x41 ∷ 0x42 ∷ 0x43 ∷ 0x55
    ∷ 0x00 ∷ 0 ∷ 30 ∷ 0 ∷ 31 ∷ 0x71 ∷ 0x72
    ∷ 0x4d ∷ []

pub earlier_kept_out : TidiesAll earlier_kept → ⊥
unfolding size_of base_of known_of is_bad_chain unused_zero is_well_formed is_ill_formed state_number feed_number number_of passed_of advance_of address_of memory_of registers_of missed_of step_of run_of start_number start_of fed_of slice_of slice_memory preamble_at head_stop check_stop stream_stop window_stop read_window_of windows_stop windows_of given_of covered spans_of tidy_windows
earlier_kept_out d =
    let h = ((d teaching parked stream_p device accepted_p file_p).loads refl parked device once_p (once 1 0xb2 (drop 1 tidy_earlier))).memory in
    let z : ◌≡◌ {A = ℕ} 0x54 0x43 = ap (λ (m : List ℕ). get_or m 14 0) h in
    omega arith

-- ---- windows that touch are left apart: no cell between the first two

abbrev apart_windows : List Window
apart_windows =
    window_of 9 11 (0x31 ∷ 0x32 ∷ 0x33 ∷ []) ∷ window_of 12 15 (0x41 ∷ 0x42 ∷ 0x54 ∷ 0x55 ∷ []) ∷ window_of 30 31 (0x71 ∷ 0x72 ∷ []) ∷ []

abbrev apart_section : Section
apart_section = section_of 0x11 (0x01 ∷ 0x02 ∷ 0x03 ∷ []) apart_windows

fits_apart : SectionsFit teaching 0 apart_section []
unfolding size_of
fits_apart = (
  omega arith,
  record {
    few = omega arith;
    fit = (
      record { order = omega arith; inside = omega arith; full = refl },
      (record { order = omega arith; inside = omega arith; full = refl }, (record { order = omega arith; inside = omega arith; full = refl }, tt)),
    );
  },
)

pub touching_apart_out : TidiesAll touching_apart → ⊥
unfolding size_of base_of preamble_at head_stop check_stop stream_stop window_stop read_window_of windows_stop windows_of given_of covered
touching_apart_out d =
    let s = (d teaching parked stream_p device accepted_p file_p).shape refl in
    let r = s.accepted.reading in
    let e = (same_sections teaching 1 r.first r.others apart_section [] r.fits fits_apart r.bytes).0 in
    let g : Gaps apart_windows = subst (λ (x : Section). Gaps x.windows) e s.gaps in
    omega (arith, g.0)
