-- A board in mode 2 that jumps: the teaching array's EPROM is read downward from address 23, and after the first null byte, at 17, from 14 on. The run boots,
-- with B0 of its control byte clear and set; stopped after the jump, closed by bytes fed directly and started afresh, whatever the fetcher kept, it boots
-- again. All by computation: the premises of demand 3 of a fetched stream are met, so that it holds of this board, and what it says is seen. Assumes nothing.
use Prim.Native.Nat.{ℕ}
use mathlib.Core.Bool.{true}
use mathlib.Core.Path.{◌≡◌, refl, sym, subst}
use mathlib.Core.List.{List, [], ◌∷◌}
use native.Mathlib.Omega.{arith}
use lib.ListN.{replicate}
use lib.Seq.{sets}
use Rattle.chain.specs.Paper.{writing, downward, done, bad_start, more}
use Rattle.chain.specs.Set.{closed_place}
use Rattle.chain.specs.Kinds.{size_of, base_of, known_of}
use Rattle.chain.specs.State.{is_bad_chain, unused_zero, is_well_formed, is_ill_formed, state_number, feed_number}
use Rattle.chain.specs.Bytes.{Bytes}
use Rattle.chain.proofs.Bytes.{bytes_below}
use Rattle.awaited.specs.Byte.{number_of, passed_of, advance_of}
use Rattle.machine.specs.Run.{address_of, memory_of, registers_of, missed_of, step_of, run_of}
use Rattle.machine.specs.Calls.{start_number, start_of, fed_of, slice_of, slice_memory}
use Rattle.closing.specs.Closing.{closing_bytes}
use Rattle.closing.specs.Calls.{written_number}
use Rattle.writer.specs.Stream.{section_of}
use Rattle.grammar.specs.Stream.{Section}
use Rattle.grammar.specs.Fits.{Reading, Clear}
use Rattle.eprom.specs.Counter.{fetches, home_of, next_of}
use Rattle.eprom.specs.Kept.{with_counter, fetcher_at, kept_of, external_of, jumps, astray, onward, fetcher_at_end}
use Rattle.eprom.specs.Fetch.{fed_with, took_of, fetch_one, fetch_all, bytes_fetched}
use Rattle.eprom.specs.Calls.{fetch_number, fetched_of, fetch_of, fetch_memory}
use Rattle.demands.specs.Loader.{AfterSlice, offered, AfterFetch, Idle}
use Rattle.demands.specs.EpromBoards.{Lendable, fetched, as_slice, boot, booted, Boots, BootHeld}
use Rattle.demands.specs.EpromCounter.{AsSaid}
use Rattle.demands.specs.EpromStreams.{Holds}
use Rattle.demands.specs.Demand3.{closing_at}
use Rattle.demands.specs.Ours.{ours}
use Rattle.demands.proofs.Loads.StreamA.{zeros-bytes, teaching}
use Rattle.demands.proofs.Patches.TwoPatches.{parked, device}
use Rattle.demands.proofs.Eprom.BootStops.{boots_hold}
use Rattle.demands.proofs.Eprom.CounterAsSaid.{counter_as_said}

-- ---- the EPROM

-- two windows, cells 9 to 11 and cell 20, with null bytes that are not 00
abbrev section : ℕ → Section
section control =
    section_of control (0x0e ∷ 0 ∷ 0 ∷ [])
    (record { null = 0xaa; start = 9; end = 11; bytes = 0x31 ∷ 0x32 ∷ 0x33 ∷ [] } ∷ record { null = 0x55; start = 20; end = 20; bytes = 0x71 ∷ [] } ∷ [])

abbrev pub stream : ℕ → List ℕ
stream control =
    0xb2 ∷ control ∷ 0x0e ∷ 0 ∷ 0 ∷ 0xfd ∷ 0xaa ∷ 0 ∷ 9 ∷ 0 ∷ 11 ∷ 0x31 ∷ 0x32 ∷ 0x33 ∷ 0x55 ∷ 0 ∷ 20 ∷ 0 ∷ 20 ∷ 0x71 ∷ 0x4d ∷ []

-- from address 0 up: one byte that is not reached, the windows from 14 down to 1, two bytes that the jump passes over, the head from 23 down to 17
abbrev pub eprom : ℕ → List ℕ
eprom control =
    0xff ∷ 0x4d ∷ 0x71 ∷ 20 ∷ 0 ∷ 20 ∷ 0 ∷ 0x55 ∷ 0x33 ∷ 0x32 ∷ 0x31 ∷ 11 ∷ 0 ∷ 9 ∷ 0 ∷ 0xff ∷ 0xff
    ∷ 0xaa ∷ 0xfd ∷ 0 ∷ 0 ∷ 0x0e ∷ control ∷ 0xb2 ∷ []

-- ---- the premises

-- a write in mode 2 from a lent counter, its control byte's B0 and B1 set and B4 clear
pub record Premises (control : ℕ) : Type 0 where
  pub idle : Idle teaching parked
  pub mode : fetches downward ≡ true
  pub lendable : Lendable (fetcher_at 23)
  pub bytes : Bytes (eprom control)
  pub boots : Boots ours downward teaching (fetcher_at 23) parked (eprom control) 21
  pub fetched-bytes : booted ours downward teaching (fetcher_at 23) parked (eprom control) 21 ≡ stream control
  pub reading : Reading teaching downward (stream control)
  pub clear : Clear reading.first reading.others

pub premises : Premises 0x03
unfolding size_of base_of known_of is_bad_chain unused_zero is_well_formed is_ill_formed state_number feed_number number_of passed_of advance_of address_of memory_of registers_of missed_of step_of start_number start_of home_of next_of kept_of external_of jumps astray onward fetcher_at_end fed_with took_of fetch_one fetch_all bytes_fetched fetch_number fetched_of fetch_of
premises =
    record {
      idle = device.idle;
      mode = refl;
      lendable = record { counter = omega arith; control = omega arith; address = zeros-bytes 3; address_three = refl; nulled = omega arith };
      bytes = bytes_below (eprom 0x03) refl;
      boots = record { started = refl; number = refl };
      fetched-bytes = refl;
      reading =
          record {
            first = section 0x03;
            others = [];
            fits = (
              omega arith,
              record {
                few = omega arith;
                fit = (
                  record { order = omega arith; inside = omega arith; full = refl },
                  (record { order = omega arith; inside = omega arith; full = refl }, tt),
                );
              },
            );
            bytes = refl;
          };
      clear = refl;
    }

-- the EPROM holds the stream where its bytes send the counter
pub holds : Holds downward 23 (eprom 0x03) (stream 0x03)
holds =
    let said = counter_as_said teaching (fetcher_at 23) parked (eprom 0x03) downward writing 21 premises.idle refl premises.lendable premises.bytes in
    let t = subst (λ (bs : List ℕ). AsSaid downward 23 21 (eprom 0x03) bs (boot ours downward teaching (fetcher_at 23) parked (eprom 0x03) 21))
    premises.fetched-bytes said in
    record { there = t.there; bytes = λ i h. sym (t.bytes i h); near = λ q. omega arith }

-- so the third demand holds of it
pub held : BootHeld ours downward (booted ours downward teaching (fetcher_at 23) parked (eprom 0x03) 21) teaching (fetcher_at 23) parked (eprom 0x03) 21
held =
    boots_hold teaching (fetcher_at 23) parked (eprom 0x03) downward 21 premises.idle premises.mode premises.lendable premises.bytes
    premises.boots

-- ---- what the boot leaves

abbrev cells : List ℕ
cells = sets (sets parked 9 (0x31 ∷ 0x32 ∷ 0x33 ∷ [])) 20 (0x71 ∷ [])

-- all bytes taken, the counter then at k, and nothing else kept
abbrev booted_to : ℕ → ℕ → AfterFetch
booted_to control k =
    record {
      fetched =
          record {
            chain = record { count = 1; kinds = replicate 8 0; registers = control ∷ replicate 7 0; place = closed_place };
            answer = record { number = done; taken = 21; mismatches = 0 };
            fetcher = fetcher_at k;
          };
      memory = cells;
    }

-- B0 clear: back at 1FFFF. Set: one below the postamble's 1
pub resets : boot ours downward teaching (fetcher_at 23) parked (eprom 0x02) 21 ≡ booted_to 0x02 0x1ffff
unfolding size_of base_of known_of is_bad_chain unused_zero is_well_formed is_ill_formed state_number feed_number number_of passed_of advance_of address_of memory_of registers_of missed_of step_of start_number start_of home_of next_of kept_of external_of jumps astray onward fetcher_at_end fed_with took_of fetch_one fetch_all fetch_number fetched_of fetch_of fetch_memory
resets = refl

pub keeps : boot ours downward teaching (fetcher_at 23) parked (eprom 0x03) 21 ≡ booted_to 0x03 0
unfolding size_of base_of known_of is_bad_chain unused_zero is_well_formed is_ill_formed state_number feed_number number_of passed_of advance_of address_of memory_of registers_of missed_of step_of start_number start_of home_of next_of kept_of external_of jumps astray onward fetcher_at_end fed_with took_of fetch_one fetch_all fetch_number fetched_of fetch_of fetch_memory
keeps = refl

-- ---- stopped after the jump: 5 bytes and 7 more, the last of them for cell 9

abbrev stop : AfterFetch
stop = fetched ours (ours.start teaching parked downward writing).chain (fetcher_at 23) parked (eprom 0x03) (5 ∷ []) 7

-- beside the place the counter, the control byte, the external address, and that the first null byte was taken
pub stop_keeps : (stop.fetched.answer.number ≡ more) × (stop.memory ≡ sets parked 9 (0x31 ∷ []))
    × (stop.fetched.fetcher ≡ record { counter = 9; control = 0x03; address = 0x0e ∷ 0 ∷ 0 ∷ []; nulled = 1 })
unfolding size_of base_of known_of is_bad_chain unused_zero is_well_formed is_ill_formed state_number feed_number number_of passed_of advance_of address_of memory_of registers_of missed_of step_of start_number start_of home_of next_of kept_of external_of jumps astray onward fetcher_at_end fed_with took_of fetch_one fetch_all fetch_number fetched_of fetch_of fetch_memory
stop_keeps = (refl, refl, refl)

-- the closing bytes there, fed directly: the rest of the window as it is, and a window that is refused
abbrev closing : List ℕ
closing = 0xee ∷ 0xee ∷ 0x00 ∷ 0xff ∷ 0xff ∷ []

abbrev closed_by : AfterSlice
closed_by = ours.slice stop.fetched.chain stop.memory closing

pub stop_closes : (offered (closing_at ours (as_slice stop) (replicate 9 0)) ≡ closing) × (closed_by.fed.answer.number ≡ bad_start)
    × (closed_by.memory ≡ stop.memory)
unfolding size_of base_of known_of is_bad_chain unused_zero is_well_formed is_ill_formed state_number feed_number number_of passed_of advance_of address_of memory_of registers_of missed_of step_of run_of start_number start_of fed_of slice_of slice_memory closing_bytes written_number home_of next_of kept_of external_of jumps astray onward fetcher_at_end fed_with took_of fetch_one fetch_all fetch_number fetched_of fetch_of fetch_memory
stop_closes = (refl, refl, refl)

-- started afresh, lent the counter that the stopped run began with and the rest as that run left it: its first null byte jumps again, and the counter ends where the unbroken boot's does
pub again : boot ours downward closed_by.fed.chain (with_counter stop.fetched.fetcher 23) closed_by.memory (eprom 0x03) 21 ≡ booted_to 0x03 0
unfolding size_of base_of known_of is_bad_chain unused_zero is_well_formed is_ill_formed state_number feed_number number_of passed_of advance_of address_of memory_of registers_of missed_of step_of run_of start_number start_of fed_of slice_of slice_memory home_of next_of kept_of external_of jumps astray onward fetcher_at_end fed_with took_of fetch_one fetch_all fetch_number fetched_of fetch_of fetch_memory
again = refl
