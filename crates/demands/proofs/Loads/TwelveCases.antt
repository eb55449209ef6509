-- The twelve cases hold, by computation. Assumes nothing.
use Rattle.chain.specs.Kinds.{size_of, base_of, known_of}
use Rattle.chain.specs.State.{is_bad_chain, unused_zero, is_well_formed, is_ill_formed, state_number, feed_number}
use Rattle.chain.specs.Calls.{first_only, chain_number, new_of, reset_of, reset_memory}
use Rattle.awaited.specs.Byte.{number_of, passed_of, advance_of}
use Rattle.machine.specs.Run.{address_of, memory_of, registers_of, missed_of, step_of, run_of}
use Rattle.machine.specs.Calls.{start_number, start_of, fed_of, slice_of, slice_memory}
use Rattle.closing.specs.Closing.{closing_bytes}
use Rattle.closing.specs.Calls.{written_number}
use Rattle.hunt.specs.Bits.{bit_at, bits_from, byte_at, bytes_from, whole_from, left_from}
use Rattle.hunt.specs.Hunt.{begins_at, first_from, found_at, hunted_bytes, hunt_number, hunt_of, hunt_out}
use Rattle.demands.specs.Cases.{table, All}

pub twelve : All 1 table
unfolding size_of base_of known_of is_bad_chain unused_zero is_well_formed is_ill_formed state_number feed_number first_only chain_number new_of reset_of reset_memory number_of passed_of advance_of address_of memory_of registers_of missed_of step_of run_of start_number start_of fed_of slice_of slice_memory closing_bytes written_number bit_at bits_from byte_at bytes_from whole_from left_from begins_at first_from found_at hunted_bytes hunt_number hunt_of hunt_out
twelve = tt
