-- What is salvaged of the stream cut short, loaded into two teaching arrays, the second with B4 set: it is not met, and stays as it was. Assumes nothing.
use Prim.Native.Nat.{ℕ}
use mathlib.Core.Path.{◌≡◌, refl}
use mathlib.Core.List.{List, [], ◌∷◌}
use lib.ListN.{replicate}
use lib.Seq.{sets}
use Rattle.chain.specs.declared.Chain.{Chain}
use Rattle.chain.specs.Paper.{writing, first_mode, done}
use Rattle.chain.specs.Kinds.{size_of, base_of, known_of}
use Rattle.chain.specs.Set.{closed_place}
use Rattle.chain.specs.State.{is_bad_chain, unused_zero, is_well_formed, is_ill_formed, state_number, feed_number}
use Rattle.chain.proofs.Bytes.{bytes_below}
use Rattle.awaited.specs.Byte.{number_of, passed_of, advance_of}
use Rattle.machine.specs.Run.{address_of, memory_of, registers_of, missed_of, step_of, run_of}
use Rattle.machine.specs.Calls.{start_number, start_of, fed_of, slice_of, slice_memory}
use Rattle.grammar.specs.Stream.{stream_sent}
use Rattle.demands.specs.Loader.{rescued}
use Rattle.demands.specs.Demand2.{Loads}
use Rattle.demands.specs.Demand3.{load}
use Rattle.demands.specs.OldDisks.{Welcomes, kept_section}
use Rattle.demands.specs.Ours.{ours}
use Rattle.demands.proofs.Salvage.BrokenStreams.{cut_short, roomy, first_alone, sound_holds}

abbrev two : Chain
two = record { count = 2; kinds = replicate 8 0; registers = 0x00 ∷ 0x10 ∷ replicate 6 0; place = closed_place }

abbrev cells : List ℕ
cells = replicate 104 0xee

pub welcomes_two : Welcomes 0 two cells
unfolding state_number is_bad_chain is_ill_formed unused_zero is_well_formed known_of base_of size_of
welcomes_two =
    record {
      idle =
          record {
            kinds = refl;
            registers = refl;
            register_bytes = bytes_below two.registers refl;
            memory_bytes = bytes_below cells refl;
            sound = refl;
            is_closed = refl;
          };
      first = refl;
      clear = refl;
    }

-- by the claim, in any cut
pub loads_two : Loads ours writing first_mode two cells (rescued (ours.salvage 0 cut_short roomy))
    (stream_sent two first_mode (kept_section (size_of 0) cut_short) [])
loads_two = sound_holds.loads two cells welcomes_two

-- and by computation, in one slice: the first device's cells 9 to 11, and its register
pub left_in_two : ((load ours first_mode two cells first_alone).fed.answer.number ≡ done)
    × ((load ours first_mode two cells first_alone).memory ≡ sets cells 9 (0x31 ∷ 0x32 ∷ 0x33 ∷ []))
    × ((load ours first_mode two cells first_alone).fed.chain.registers ≡ 0x11 ∷ 0x10 ∷ replicate 6 0)
unfolding size_of base_of known_of is_bad_chain unused_zero is_well_formed is_ill_formed state_number feed_number number_of passed_of advance_of address_of memory_of registers_of missed_of step_of run_of start_number start_of fed_of slice_of slice_memory
left_in_two = (refl, refl, refl)
