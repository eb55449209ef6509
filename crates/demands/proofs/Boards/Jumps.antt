-- Jumps, by computation: over a gap; to 1FFFF, the last address, and above it; none for the address of a second device, and none without windows.
-- Assumes nothing.
use Prim.Native.Nat.{ℕ}
use mathlib.Core.Path.{◌≡◌, refl}
use mathlib.Core.List.{List, [], ◌∷◌, ◌++◌}
use lib.ListN.{replicate}
use lib.Seq.{sets}
use Rattle.chain.specs.declared.Chain.{Chain}
use Rattle.chain.specs.Paper.{first_mode, eprom_internal, done, more, past_eprom, bad_jump}
use Rattle.chain.specs.Set.{closed_place}
use Rattle.chain.specs.Kinds.{size_of, base_of, known_of}
use Rattle.chain.specs.State.{is_bad_chain, unused_zero, is_well_formed, is_ill_formed, state_number, feed_number}
use Rattle.awaited.specs.Byte.{number_of, passed_of, advance_of}
use Rattle.machine.specs.Run.{address_of, memory_of, registers_of, missed_of, step_of}
use Rattle.machine.specs.Calls.{start_number, start_of}
use Rattle.eprom.specs.Counter.{home_of, next_of}
use Rattle.eprom.specs.Kept.{fetcher_at, kept_of, external_of, jumps, astray, onward, fetcher_at_end}
use Rattle.eprom.specs.Fetch.{fed_with, took_of, fetch_one, fetch_all}
use Rattle.eprom.specs.Calls.{fetch_number, fetched_of, fetch_of, fetch_memory}
use Rattle.demands.specs.Loader.{AfterFetch}
use Rattle.demands.specs.EpromBoards.{boot}
use Rattle.demands.specs.Ours.{ours}
use Rattle.demands.proofs.Loads.StreamA.{teaching}
use Rattle.demands.proofs.Patches.TwoPatches.{parked}

-- a control byte, an external address, low byte first, and the first null byte of one window
abbrev pub head_to : ℕ → ℕ → ℕ → ℕ → List ℕ
head_to control low middle high = 0xb2 ∷ control ∷ low ∷ middle ∷ high ∷ 0xfe ∷ 0x00 ∷ []

abbrev pub from0 : List ℕ → ℕ → AfterFetch
from0 e n = boot ours first_mode teaching (fetcher_at 0) parked e n

-- what a run leaves that is over, with that control byte loaded
abbrev leaves : ℕ → ℕ → ℕ → List ℕ → ℕ → AfterFetch
leaves control n taken cells k =
    record {
      fetched =
          record {
            chain = record { count = 1; kinds = replicate 8 0; registers = control ∷ replicate 7 0; place = closed_place };
            answer = record { number = n; taken = taken; mismatches = 0 };
            fetcher = fetcher_at k;
          };
      memory = cells;
    }

-- ---- over a gap: the head from 0 on, the window, cells 9 to 11, and 4D from 20 on

abbrev apart : ℕ → List ℕ
apart control = head_to control 0x20 0x00 0x00 ++ replicate 25 0xff ++ (0 ∷ 9 ∷ 0 ∷ 11 ∷ 0x31 ∷ 0x32 ∷ 0x33 ∷ 0x4d ∷ [])

-- B0 clear: back at 0. Set: the address after the postamble's 27. However many bytes are asked for, as many as the run takes are fetched
pub over_resets : from0 (apart 0x02) 100 ≡ leaves 0x02 done 15 (sets parked 9 (0x31 ∷ 0x32 ∷ 0x33 ∷ [])) 0
unfolding size_of base_of known_of is_bad_chain unused_zero is_well_formed is_ill_formed state_number feed_number number_of passed_of advance_of address_of memory_of registers_of missed_of step_of start_number start_of home_of next_of kept_of external_of jumps astray onward fetcher_at_end fed_with took_of fetch_one fetch_all fetch_number fetched_of fetch_of fetch_memory
over_resets = refl

pub over_keeps : from0 (apart 0x03) 100 ≡ leaves 0x03 done 15 (sets parked 9 (0x31 ∷ 0x32 ∷ 0x33 ∷ [])) 0x28
unfolding size_of base_of known_of is_bad_chain unused_zero is_well_formed is_ill_formed state_number feed_number number_of passed_of advance_of address_of memory_of registers_of missed_of step_of start_number start_of home_of next_of kept_of external_of jumps astray onward fetcher_at_end fed_with took_of fetch_one fetch_all fetch_number fetched_of fetch_of fetch_memory
over_keeps = refl

-- ---- how far a jump goes

-- to 1FFFF: the null byte is taken and the run goes on there, where this EPROM has no byte
pub to_last : ((from0 (head_to 0x02 0xff 0xff 0x01) 7).fetched.answer.number ≡ more)
    × ((from0 (head_to 0x02 0xff 0xff 0x01) 7).fetched.fetcher ≡ record { counter = 0x1ffff; control = 0x02; address = 0xff ∷ 0xff ∷ 0x01 ∷ []; nulled = 1 })
    × ((from0 (head_to 0x02 0xff 0xff 0x01) 8).fetched.answer.number ≡ past_eprom)
unfolding size_of base_of known_of is_bad_chain unused_zero is_well_formed is_ill_formed state_number feed_number number_of passed_of advance_of address_of memory_of registers_of missed_of step_of start_number start_of home_of next_of kept_of external_of jumps astray onward fetcher_at_end fed_with took_of fetch_one fetch_all fetch_number fetched_of fetch_of fetch_memory
to_last = (refl, refl, refl)

-- to 20000: the null byte counts as taken, and the run is over, with the control byte that it loaded and no cell changed. B0 clear: back at 0. Set: the
-- address after the null byte's, not the one that it was to jump to
pub above_resets : from0 (head_to 0x02 0x00 0x00 0x02) 8 ≡ leaves 0x02 bad_jump 7 parked 0
unfolding size_of base_of known_of is_bad_chain unused_zero is_well_formed is_ill_formed state_number feed_number number_of passed_of advance_of address_of memory_of registers_of missed_of step_of start_number start_of home_of next_of kept_of external_of jumps astray onward fetcher_at_end fed_with took_of fetch_one fetch_all fetch_number fetched_of fetch_of fetch_memory
above_resets = refl

pub above_keeps : from0 (head_to 0x03 0x00 0x00 0x02) 8 ≡ leaves 0x03 bad_jump 7 parked 7
unfolding size_of base_of known_of is_bad_chain unused_zero is_well_formed is_ill_formed state_number feed_number number_of passed_of advance_of address_of memory_of registers_of missed_of step_of start_number start_of home_of next_of kept_of external_of jumps astray onward fetcher_at_end fed_with took_of fetch_one fetch_all fetch_number fetched_of fetch_of fetch_memory
above_keeps = refl

-- with B1 clear the address is any three bytes
pub clear_no_jump : (from0 (head_to 0x00 0xff 0xff 0xff) 7).fetched.fetcher
    ≡ record { counter = 7; control = 0x00; address = 0xff ∷ 0xff ∷ 0xff ∷ []; nulled = 1 }
unfolding size_of base_of known_of is_bad_chain unused_zero is_well_formed is_ill_formed state_number feed_number number_of passed_of advance_of address_of memory_of registers_of missed_of step_of start_number start_of home_of next_of kept_of external_of jumps astray onward fetcher_at_end fed_with took_of fetch_one fetch_all fetch_number fetched_of fetch_of fetch_memory
clear_no_jump = refl

-- ---- no windows: no null byte, so no jump, and an address above 1FFFF is not looked at

pub no_windows_no_jump : ((from0 (0xb2 ∷ 0x03 ∷ 0xff ∷ 0xff ∷ 0xff ∷ 0xff ∷ 0x4d ∷ []) 7).fetched.answer.number ≡ done)
    × ((from0 (0xb2 ∷ 0x03 ∷ 0xff ∷ 0xff ∷ 0xff ∷ 0xff ∷ 0x4d ∷ []) 7).fetched.fetcher ≡ fetcher_at 7)
unfolding size_of base_of known_of is_bad_chain unused_zero is_well_formed is_ill_formed state_number feed_number number_of passed_of advance_of address_of memory_of registers_of missed_of step_of start_number start_of home_of next_of kept_of external_of jumps astray onward fetcher_at_end fed_with took_of fetch_one fetch_all fetch_number fetched_of fetch_of fetch_memory
no_windows_no_jump = (refl, refl)

-- ---- a chain of two in mode 5, each device with cell 9 in its window

abbrev two : Chain
two = record { count = 2; kinds = replicate 8 0; registers = replicate 8 0; place = closed_place }

abbrev cells : List ℕ
cells = replicate 104 0xee

-- B1 and B0 of the second device's control byte, and its external address, are nothing to the counter: it goes on, and the first device's B0 resets it
abbrev chained : List ℕ
chained =
    0xb2 ∷ 0x00 ∷ 0 ∷ 0 ∷ 0 ∷ 0xfe ∷ 0x00 ∷ 0 ∷ 9 ∷ 0 ∷ 9 ∷ 0x31
    ∷ 0xb2 ∷ 0x03 ∷ 0xff ∷ 0xff ∷ 0xff ∷ 0xfe ∷ 0x00 ∷ 0 ∷ 9 ∷ 0 ∷ 9 ∷ 0x71 ∷ 0x4d ∷ []

abbrev after_two : ℕ → AfterFetch
after_two n = boot ours eprom_internal two (fetcher_at 0) cells chained n

pub second_no_jump : ((after_two 19).fetched.answer.number ≡ more)
    × ((after_two 19).fetched.fetcher ≡ record { counter = 19; control = 0x00; address = 0 ∷ 0 ∷ 0 ∷ []; nulled = 1 })
    × ((after_two 25).fetched.answer.number ≡ done)
    × ((after_two 25).fetched.fetcher ≡ fetcher_at 0)
    × ((after_two 25).memory ≡ sets (sets cells 9 (0x31 ∷ [])) 61 (0x71 ∷ []))
unfolding size_of base_of known_of is_bad_chain unused_zero is_well_formed is_ill_formed state_number feed_number number_of passed_of advance_of address_of memory_of registers_of missed_of step_of start_number start_of home_of next_of kept_of external_of jumps astray onward fetcher_at_end fed_with took_of fetch_one fetch_all fetch_number fetched_of fetch_of fetch_memory
second_no_jump = (refl, refl, refl, refl, refl)

-- and where the first device has no windows, the second's first null byte is not the first's: no jump
abbrev none_then_one : List ℕ
none_then_one =
    0xb2 ∷ 0x02 ∷ 0x02 ∷ 0 ∷ 0 ∷ 0xff ∷ 0xb2 ∷ 0x02 ∷ 0x02 ∷ 0 ∷ 0 ∷ 0xfe ∷ 0x00 ∷ 0 ∷ 9 ∷ 0 ∷ 9 ∷ 0x71 ∷ 0x4d ∷ []

pub second_null_no_jump : ((boot ours eprom_internal two (fetcher_at 0) cells none_then_one 13).fetched.fetcher
    ≡ record { counter = 13; control = 0x02; address = 0x02 ∷ 0 ∷ 0 ∷ []; nulled = 0 })
    × ((boot ours eprom_internal two (fetcher_at 0) cells none_then_one 19).fetched.answer.number ≡ done)
unfolding size_of base_of known_of is_bad_chain unused_zero is_well_formed is_ill_formed state_number feed_number number_of passed_of advance_of address_of memory_of registers_of missed_of step_of start_number start_of home_of next_of kept_of external_of jumps astray onward fetcher_at_end fed_with took_of fetch_one fetch_all fetch_number fetched_of fetch_of fetch_memory
second_null_no_jump = (refl, refl)
