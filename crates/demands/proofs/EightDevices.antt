-- Instances of what the demands suppose: eight devices in mode 6, with left-over registers and a left-over place, a section with no window,
-- windows that overlap, control bits set in the last section; as a write and as a check. By clause (a) each loads. Assumes nothing.
use Prim.Native.Nat.{ℕ}
use mathlib.Core.Bool.{true, false, true≢false}
use mathlib.Core.Path.{◌≡◌, refl, ap, sym}
use mathlib.Core.List.{List, [], ◌∷◌}
use native.Mathlib.Omega.{arith}
use lib.ListN.{replicate, take}
use Rattle.chain.specs.declared.Chain.{Chain}
use Rattle.chain.specs.declared.Place.{Place}
use Rattle.chain.specs.Set.{with_mode, with_check, with_device, with_awaited, with_start, with_next, with_taken, closed_place}
use Rattle.chain.specs.Kinds.{size_of, base_of, known_of}
use Rattle.chain.specs.Paper.{writing, checking, done}
use Rattle.chain.specs.State.{is_bad_chain, unused_zero, is_well_formed, is_ill_formed, state_number, feed_number}
use Rattle.awaited.specs.Byte.{number_of, passed_of, advance_of}
use Rattle.machine.specs.Run.{address_of, memory_of, registers_of, missed_of, step_of, run_of}
use Rattle.machine.specs.Calls.{start_number, start_of, fed_of, slice_of, slice_memory}
use Rattle.grammar.specs.Stream.{Section, stream_sent}
use Rattle.grammar.specs.Fits.{SectionsFit, Fitting, Reading, Clear}
use Rattle.chain.specs.Bytes.{Bytes}
use Rattle.grammar.specs.Sent.{bytes_of}
use Rattle.demands.specs.Loader.{Idle, Mode}
use Rattle.demands.specs.Demand2.{Loads, ran}
use Rattle.demands.specs.Demand3.{Whole}
use Rattle.writer.specs.Stream.{section_of}
use Rattle.demands.specs.Files.{Room, Again}
use Rattle.demands.specs.Ours.{ours}
use Rattle.demands.proofs.Loads.FittingLoads.{second_a}
use Rattle.demands.proofs.Files.AcceptedAgain.{second_c}
use Rattle.demands.proofs.Loads.StreamA.{zeros-bytes}
use Rattle.chain.proofs.Bytes.{bytes_below}

-- eight teaching arrays, with registers left over (all bits but B4 in the third, which is not met, B0 in the last) and a place left over
abbrev left_over : Place
left_over = with_taken (with_next (with_start (with_awaited (with_device (with_check (with_mode closed_place 9) 3) 200) 77) 3) 5) 6

abbrev pub eight : Chain
eight = record { count = 8; kinds = replicate 8 0; registers = 0 ∷ 0 ∷ 0xef ∷ 0 ∷ 0 ∷ 0 ∷ 0 ∷ 1 ∷ []; place = left_over }

pub idle-eight : Idle eight (replicate 416 0)
unfolding state_number is_bad_chain is_ill_formed unused_zero is_well_formed known_of base_of size_of
idle-eight =
    record { kinds = refl; registers = refl; register_bytes = bytes_below eight.registers refl; memory_bytes = zeros-bytes 416; sound = refl; is_closed = refl }

abbrev pub none : Section
none = section_of 0 (0 ∷ 0 ∷ 0 ∷ []) []

abbrev pub two : ℕ → Section
two control =
    section_of control (1 ∷ 2 ∷ 3 ∷ [])
    (record { null = 7; start = 9; end = 11; bytes = 0x11 ∷ 0x22 ∷ 0x33 ∷ [] }
    ∷ record { null = 0xb2; start = 10; end = 10; bytes = 0x44 ∷ [] }
    ∷ [])

-- a write whose last section sets bits 2, 3 and 4
pub fits_write : Fitting eight writing 6 none (two 0x1c ∷ [])
unfolding size_of
fits_write =
    record {
      fits = (omega arith, record { few = omega arith; fit = tt }, refl, (omega arith, record { few = omega arith; fit = (record { order = omega arith; inside = omega arith; full = refl }, (record { order = omega arith; inside = omega arith; full = refl }, tt)) }));
      lets = (record { b4 = refl; b3 = λ e. refl; sent_b3 = λ e. refl }, record { b4 = refl; b3 = λ e. refl; sent_b3 = no });
      bytes = unfold base_of in bytes_below (bytes_of (stream_sent eight 6 none (two 0x1c ∷ []))) refl;
    }
  where
    no : {A : Type 0} → true ≡ false → A
    no e = absurd (true≢false e)

-- a check
pub fits_check : Fitting eight checking 6 none (two 0x04 ∷ [])
unfolding size_of
fits_check =
    record {
      fits = (omega arith, record { few = omega arith; fit = tt }, refl, (omega arith, record { few = omega arith; fit = (record { order = omega arith; inside = omega arith; full = refl }, (record { order = omega arith; inside = omega arith; full = refl }, tt)) }));
      lets = (record { b4 = refl; b3 = λ e. refl; sent_b3 = λ e. refl }, record { b4 = refl; b3 = λ e. refl; sent_b3 = λ e. refl });
      bytes = unfold base_of in bytes_below (bytes_of (stream_sent eight 6 none (two 0x04 ∷ []))) refl;
    }

pub mode-six : Mode 6
mode-six = record { least = omega arith; most = omega arith }

-- each loads
pub loads_write : Loads ours writing 6 eight (replicate 416 0) (bytes_of (stream_sent eight 6 none (two 0x1c ∷ []))) (stream_sent eight 6 none (two 0x1c ∷ []))
loads_write = second_a eight (replicate 416 0) writing 6 none (two 0x1c ∷ []) idle-eight mode-six fits_write

pub loads_check : Loads ours checking 6 eight (replicate 416 0) (bytes_of (stream_sent eight 6 none (two 0x04 ∷ []))) (stream_sent eight 6 none (two 0x04 ∷ []))
loads_check = second_a eight (replicate 416 0) checking 6 none (two 0x04 ∷ []) idle-eight mode-six fits_check

-- what demand 3 supposes: a stream that loads whole and has a reading with B4 clear
pub clear_write : Clear none (two 0x0c ∷ [])
clear_write = (refl, refl)

pub whole_write : Whole ours 6 (bytes_of (stream_sent eight 6 none (two 0x0c ∷ []))) eight (replicate 416 0)
unfolding size_of base_of known_of is_bad_chain unused_zero is_well_formed is_ill_formed state_number feed_number number_of passed_of advance_of address_of memory_of registers_of missed_of step_of run_of start_number start_of fed_of slice_of slice_memory
whole_write = record { started = refl; number = refl; taken = refl }

-- what clauses (c) and (e) suppose: one section, accepted by the first of eight devices
abbrev one_stream : List ℕ
one_stream = bytes_of (stream_sent eight 6 (two 0x0c) [])

one_small : Bytes one_stream
one_small = bytes_below one_stream refl

one_fits : SectionsFit eight 0 (two 0x0c) []
unfolding size_of
one_fits =
    (omega arith, record { few = omega arith; fit = (record { order = omega arith; inside = omega arith; full = refl }, (record { order = omega arith; inside = omega arith; full = refl }, tt)) })

pub one-accepted : (ran ours writing 6 eight (replicate 416 0) [] one_stream).fed.answer.number ≡ done
unfolding size_of base_of known_of is_bad_chain unused_zero is_well_formed is_ill_formed state_number feed_number number_of passed_of advance_of address_of memory_of registers_of missed_of step_of run_of start_number start_of fed_of slice_of slice_memory
one-accepted = refl

one-taken : (ran ours writing 6 eight (replicate 416 0) [] one_stream).fed.answer.taken ≡ 22
unfolding size_of base_of known_of is_bad_chain unused_zero is_well_formed is_ill_formed state_number feed_number number_of passed_of advance_of address_of memory_of registers_of missed_of step_of run_of start_number start_of fed_of slice_of slice_memory
one-taken = refl

one_reading : Reading eight 6 (take (ran ours writing 6 eight (replicate 416 0) [] one_stream).fed.answer.taken one_stream)
one_reading = record { first = two 0x0c; others = []; fits = one_fits; bytes = ap (λ (n : ℕ). take n one_stream) (sym one-taken) }

-- so it lists as that section, and is written again from its listing
pub one_again : (ts te to : List ℕ) → Room 2 ts te to
    → Again ours 0 6 one_stream (ran ours writing 6 eight (replicate 416 0) [] one_stream).fed.answer.taken (two 0x0c) (ours.list 0 6 one_stream ts te to)
unfolding one_reading
one_again ts te to room =
    second_c eight (replicate 416 0) writing 6 one_stream ts te to idle-eight mode-six one_small one-accepted one_reading refl room
