-- What a check leaves for later runs, on the teaching array: its control byte 10 is loaded, and B4 bars the next run, a write or a check, with 6 at
-- its first byte; 14 sets B2 too, which is 9 at the check byte, and the control byte stays loaded. Assumes nothing.
use Prim.Native.Nat.{ℕ}
use mathlib.Core.Path.{◌≡◌, refl}
use mathlib.Core.List.{List, [], ◌∷◌}
use lib.ListN.{replicate}
use Rattle.chain.specs.declared.Chain.{Chain}
use Rattle.chain.specs.Kinds.{size_of, base_of, known_of}
use Rattle.chain.specs.Paper.{writing, checking, done, barred, ends_here}
use Rattle.chain.specs.Set.{closed_place}
use Rattle.chain.specs.State.{is_bad_chain, unused_zero, is_well_formed, is_ill_formed, state_number, feed_number}
use Rattle.awaited.specs.Byte.{number_of, passed_of, advance_of}
use Rattle.machine.specs.Run.{address_of, memory_of, registers_of, missed_of, step_of, run_of}
use Rattle.machine.specs.Calls.{answered, start_number, start_of, fed_of, slice_of, slice_memory}
use Rattle.demands.specs.Demand2.{ran}
use Rattle.demands.specs.Ours.{ours}
use Rattle.demands.proofs.Loads.StreamA.{teaching, cells0, stream_a}

-- the teaching array with this register, no run open
abbrev storing : ℕ → Chain
storing g = record { count = 1; kinds = replicate 8 0; registers = g ∷ replicate 7 0; place = closed_place }

-- a check of no windows with this control byte, and 4D or B2 after it
abbrev check_of : ℕ → ℕ → List ℕ
check_of control last = 0xb2 ∷ control ∷ 0 ∷ 0 ∷ 0 ∷ 0xff ∷ last ∷ []

pub loads_b4 : ran ours checking 1 teaching cells0 [] (check_of 0x10 0x4d) ≡ record { fed = answered (storing 0x10) done 7 0; memory = cells0 }
unfolding size_of base_of known_of is_bad_chain unused_zero is_well_formed is_ill_formed state_number feed_number number_of passed_of advance_of address_of memory_of registers_of missed_of step_of run_of start_number start_of fed_of slice_of slice_memory
loads_b4 = refl

pub then_barred : (ran ours writing 1 (storing 0x10) cells0 [] stream_a ≡ record { fed = answered (storing 0x10) barred 1 0; memory = cells0 })
    × (ran ours checking 1 (storing 0x10) cells0 [] stream_a ≡ record { fed = answered (storing 0x10) barred 1 0; memory = cells0 })
unfolding size_of base_of known_of is_bad_chain unused_zero is_well_formed is_ill_formed state_number feed_number number_of passed_of advance_of address_of memory_of registers_of missed_of step_of run_of start_number start_of fed_of slice_of slice_memory
then_barred = (refl, refl)

pub loads_b2 : ran ours checking 1 teaching cells0 [] (check_of 0x14 0xb2) ≡ record { fed = answered (storing 0x14) ends_here 7 0; memory = cells0 }
unfolding size_of base_of known_of is_bad_chain unused_zero is_well_formed is_ill_formed state_number feed_number number_of passed_of advance_of address_of memory_of registers_of missed_of step_of run_of start_number start_of fed_of slice_of slice_memory
loads_b2 = refl
