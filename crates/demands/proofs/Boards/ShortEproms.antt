-- EPROMs that are too short, by computation: 18 takes no byte and leaves the run open, and with more bytes behind those that there were it goes on. And a
-- lent counter above 1FFFF, and modes that have no EPROM. Assumes nothing.
use Prim.Native.Nat.{ℕ}
use mathlib.Core.Path.{◌≡◌, refl}
use mathlib.Core.List.{List, [], ◌∷◌}
use lib.ListN.{take}
use lib.Seq.{sets}
use Rattle.chain.specs.declared.Chain.{Chain}
use Rattle.chain.specs.Paper.{writing, first_mode, serial_external, two_preambles, opened, done, bad_mode, no_run, more, ill_formed, past_eprom}
use Rattle.chain.specs.Kinds.{size_of, base_of, known_of}
use Rattle.chain.specs.State.{is_bad_chain, unused_zero, is_well_formed, is_ill_formed, state_number, feed_number}
use Rattle.awaited.specs.Byte.{number_of, passed_of, advance_of}
use Rattle.machine.specs.Run.{address_of, memory_of, registers_of, missed_of, step_of, run_of}
use Rattle.machine.specs.Calls.{start_number, start_of, fed_of, slice_of}
use Rattle.eprom.specs.declared.Fetcher.{Fetcher}
use Rattle.eprom.specs.Counter.{home_of, next_of}
use Rattle.eprom.specs.Kept.{fetcher_at, kept_of, external_of, jumps, astray, onward, fetcher_at_end}
use Rattle.eprom.specs.Fetch.{fed_with, took_of, fetch_one, fetch_all}
use Rattle.eprom.specs.Calls.{fetch_number, unfetched, fetched_of, fetch_of, fetch_memory}
use Rattle.demands.specs.Loader.{AfterFetch}
use Rattle.demands.specs.Ours.{ours}
use Rattle.demands.proofs.Loads.StreamA.{teaching, cells0, stream_a}

abbrev run : ℕ → Chain
run mode = (ours.start teaching cells0 mode writing).chain

-- ---- 18

-- the first twelve bytes of stream A, one of them for cell 9
abbrev front : List ℕ
front = take 12 stream_a

abbrev short : ℕ → AfterFetch
short n = ours.fetch (run first_mode) (fetcher_at 0) cells0 front n

-- asked for 12 it goes on, asked for more it is 18, and all else is as with 12
pub in_the_middle : ((short 12).fetched.answer.number ≡ more) × ((short 15).fetched.answer.number ≡ past_eprom)
    × ((short 15).fetched.answer.taken ≡ 12) × ((short 15).fetched.chain ≡ (short 12).fetched.chain)
    × ((short 15).fetched.chain.place.running ≡ opened)
    × ((short 15).fetched.fetcher ≡ record { counter = 12; control = 0x00; address = 0 ∷ 0 ∷ 0 ∷ []; nulled = 1 })
    × ((short 15).memory ≡ sets cells0 9 (0x11 ∷ []))
unfolding size_of base_of known_of is_bad_chain unused_zero is_well_formed is_ill_formed state_number feed_number number_of passed_of advance_of address_of memory_of registers_of missed_of step_of start_number start_of home_of next_of kept_of external_of jumps astray onward fetcher_at_end fed_with took_of fetch_one fetch_all fetch_number fetched_of fetch_of fetch_memory
in_the_middle = (refl, refl, refl, refl, refl, refl, refl)

-- a longer EPROM is lent: the run goes on, as if it had been lent at once
pub keeps_going : ours.fetch (short 15).fetched.chain (short 15).fetched.fetcher (short 15).memory stream_a 3
    ≡ ours.fetch (run first_mode) (fetcher_at 0) cells0 stream_a 15
unfolding size_of base_of known_of is_bad_chain unused_zero is_well_formed is_ill_formed state_number feed_number number_of passed_of advance_of address_of memory_of registers_of missed_of step_of start_number start_of home_of next_of kept_of external_of jumps astray onward fetcher_at_end fed_with took_of fetch_one fetch_all fetch_number fetched_of fetch_of fetch_memory
keeps_going = refl

pub goes_on-done : (ours.fetch (run first_mode) (fetcher_at 0) cells0 stream_a 15).fetched.answer.number ≡ done
unfolding size_of base_of known_of is_bad_chain unused_zero is_well_formed is_ill_formed state_number feed_number number_of passed_of advance_of address_of memory_of registers_of missed_of step_of start_number start_of home_of next_of kept_of external_of jumps astray onward fetcher_at_end fed_with took_of fetch_one fetch_all fetch_number fetched_of fetch_of fetch_memory
goes_on-done = refl

-- an empty EPROM has no byte at all; asked for none, the run goes on
pub empty : (ours.fetch (run first_mode) (fetcher_at 0) cells0 [] 1
    ≡ record {
      fetched = record { chain = run first_mode; answer = record { number = past_eprom; taken = 0; mismatches = 0 }; fetcher = fetcher_at 0 };
      memory = cells0;
    }) × ((ours.fetch (run first_mode) (fetcher_at 0) cells0 [] 0).fetched.answer.number ≡ more)
unfolding size_of base_of known_of is_bad_chain unused_zero is_well_formed is_ill_formed state_number feed_number number_of passed_of advance_of address_of memory_of registers_of missed_of step_of start_number start_of home_of next_of kept_of external_of jumps astray onward fetcher_at_end fed_with took_of fetch_one fetch_all fetch_number fetched_of fetch_of fetch_memory
empty = (refl, refl)

-- ---- before a byte is looked at

abbrev refusing : Chain → Fetcher → ℕ → AfterFetch
refusing c f n =
    record { fetched = record { chain = c; answer = record { number = n; taken = 0; mismatches = 0 }; fetcher = f }; memory = cells0 }

-- 17 for a counter above 1FFFF, before 4 and 2, and for nothing else of a fetcher; 4 before 2; 2 in modes 3, 4 and 6
pub lent-above : ours.fetch (run serial_external) (fetcher_at 0x20000) cells0 stream_a 1 ≡ refusing (run serial_external) (fetcher_at 0x20000) ill_formed
unfolding size_of base_of known_of is_bad_chain unused_zero is_well_formed is_ill_formed state_number feed_number number_of passed_of advance_of address_of memory_of registers_of missed_of step_of start_number start_of home_of next_of kept_of external_of jumps astray onward fetcher_at_end fed_with took_of fetch_one fetch_all fetch_number unfetched fetched_of fetch_of fetch_memory
lent-above = refl

pub closed-above : ours.fetch teaching (fetcher_at 0x20000) cells0 stream_a 1 ≡ refusing teaching (fetcher_at 0x20000) ill_formed
unfolding size_of base_of known_of is_bad_chain unused_zero is_well_formed is_ill_formed state_number feed_number number_of passed_of advance_of address_of memory_of registers_of missed_of step_of start_number start_of home_of next_of kept_of external_of jumps astray onward fetcher_at_end fed_with took_of fetch_one fetch_all fetch_number unfetched fetched_of fetch_of fetch_memory
closed-above = refl

pub lent-closed : ours.fetch teaching (fetcher_at 0) cells0 stream_a 1 ≡ refusing teaching (fetcher_at 0) no_run
unfolding size_of base_of known_of is_bad_chain unused_zero is_well_formed is_ill_formed state_number feed_number number_of passed_of advance_of address_of memory_of registers_of missed_of step_of start_number start_of home_of next_of kept_of external_of jumps astray onward fetcher_at_end fed_with took_of fetch_one fetch_all fetch_number unfetched fetched_of fetch_of fetch_memory
lent-closed = refl

pub serial : ours.fetch (run serial_external) (fetcher_at 0) cells0 stream_a 1 ≡ refusing (run serial_external) (fetcher_at 0) bad_mode
unfolding size_of base_of known_of is_bad_chain unused_zero is_well_formed is_ill_formed state_number feed_number number_of passed_of advance_of address_of memory_of registers_of missed_of step_of start_number start_of home_of next_of kept_of external_of jumps astray onward fetcher_at_end fed_with took_of fetch_one fetch_all fetch_number unfetched fetched_of fetch_of fetch_memory
serial = refl

-- with 2 the counts are the run's so far: in mode 6 two preambles were fed directly
abbrev two_fed : Chain
two_fed = (ours.slice (run two_preambles) cells0 (0xb2 ∷ 0xb2 ∷ [])).fed.chain

pub two_so_far : ((ours.fetch two_fed (fetcher_at 0) cells0 stream_a 1).fetched.answer ≡ record { number = bad_mode; taken = 2; mismatches = 0 })
    × ((ours.fetch two_fed (fetcher_at 0) cells0 stream_a 1).fetched.chain ≡ two_fed)
unfolding size_of base_of known_of is_bad_chain unused_zero is_well_formed is_ill_formed state_number feed_number number_of passed_of advance_of address_of memory_of registers_of missed_of step_of start_number start_of run_of fed_of slice_of home_of next_of kept_of external_of jumps astray onward fetcher_at_end fed_with took_of fetch_one fetch_all fetch_number unfetched fetched_of fetch_of fetch_memory
two_so_far = (refl, refl)

-- ---- a counter at 1FFFF, and a fetcher of a run that has nothing to do with this one

abbrev odd : Fetcher
odd = record { counter = 0x1ffff; control = 0xff; address = 0xff ∷ 0xff ∷ 0xff ∷ []; nulled = 7 }

pub lent_last : (ours.fetch (run first_mode) odd cells0 stream_a 1).fetched.answer.number ≡ past_eprom
unfolding size_of base_of known_of is_bad_chain unused_zero is_well_formed is_ill_formed state_number feed_number number_of passed_of advance_of address_of memory_of registers_of missed_of step_of start_number start_of home_of next_of kept_of external_of jumps astray onward fetcher_at_end fed_with took_of fetch_one fetch_all fetch_number fetched_of fetch_of fetch_memory
lent_last = refl
