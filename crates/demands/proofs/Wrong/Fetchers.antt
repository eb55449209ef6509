-- Fetchers that wish 1 shuts out, on EPROMs for the teaching array. Assumes nothing.
use Prim.Native.Nat.{ℕ}
use mathlib.Core.Path.{◌≡◌, refl, ap}
use mathlib.Core.List.{List, [], ◌∷◌}
use native.Mathlib.Omega.{arith}
use lib.ListN.{take, drop, replicate}
use Rattle.chain.specs.declared.Chain.{Chain}
use Rattle.chain.specs.Paper.{writing, first_mode, downward, more, bad_jump}
use Rattle.chain.specs.Kinds.{size_of, base_of, known_of}
use Rattle.chain.specs.State.{is_bad_chain, unused_zero, is_well_formed, is_ill_formed, state_number, feed_number}
use Rattle.chain.proofs.Bytes.{bytes_below}
use Rattle.chain.proofs.Table.{none_of, else_of}
use Rattle.awaited.specs.Byte.{number_of, passed_of, advance_of}
use Rattle.machine.specs.Run.{address_of, memory_of, registers_of, missed_of, step_of, run_of}
use Rattle.machine.specs.Calls.{start_number, start_of, fed_of, slice_of, slice_memory}
use Rattle.closing.specs.Closing.{closing_bytes}
use Rattle.closing.specs.Calls.{written_number}
use Rattle.eprom.specs.declared.Fetcher.{Fetcher}
use Rattle.eprom.specs.Counter.{home_of, next_of}
use Rattle.eprom.specs.Kept.{fetcher_at, kept_of, external_of, jumps, astray, onward, fetcher_at_end}
use Rattle.eprom.specs.Fetch.{fed_with, took_of, fetch_one, fetch_all, bytes_fetched}
use Rattle.eprom.specs.Calls.{fetch_number, unfetched, fetched_of, fetch_of, fetch_memory}
use Rattle.demands.specs.Loader.{Open, AfterFetch}
use Rattle.demands.specs.FetchTable.{fetch_table, fetch_number_of, FetchNumbers, FetchLeaves}
use Rattle.demands.specs.EpromBoards.{Lendable, FetchedAsFed, GoesOn, Boots, BootsHold}
use Rattle.demands.specs.Ours.{ours}
use Rattle.demands.specs.WrongFetch.{every_null, stale, upward, far_jump, never_home, shut_past, home_past}
use Rattle.demands.proofs.Loads.StreamA.{teaching, cells0, stream_a, small_A, zeros-bytes}
use Rattle.demands.proofs.Patches.TwoPatches.{parked}
use Rattle.demands.proofs.Boards.JumpDown.{eprom, premises}
use Rattle.demands.proofs.Boards.Jumps.{head_to}

abbrev stale_fetcher : Fetcher
stale_fetcher = record { counter = 23; control = 0x03; address = 0x0e ∷ 0 ∷ 0 ∷ []; nulled = 1 }

fresh : Lendable (fetcher_at 0)
fresh = record { counter = omega arith; control = omega arith; address = zeros-bytes 3; address_three = refl; nulled = omega arith }

-- ---- the run of JumpDown, open before its first byte

abbrev opened_down : Chain
opened_down = (ours.start teaching parked downward writing).chain

open_down : Open opened_down parked
unfolding size_of base_of known_of is_bad_chain unused_zero is_well_formed is_ill_formed state_number feed_number number_of passed_of advance_of address_of memory_of registers_of missed_of step_of start_number start_of home_of next_of kept_of external_of jumps astray onward fetcher_at_end fed_with took_of fetch_one fetch_all fetch_number fetched_of fetch_of fetch_memory
open_down =
    record { kinds = refl; registers = refl; register_bytes = zeros-bytes 8; memory_bytes = bytes_below parked refl; sound = refl }

-- ---- a jump after every null byte: the second window is never reached, and the run is not over with its bytes

pub every_null_out : FetchedAsFed every_null → ⊥
unfolding size_of base_of known_of is_bad_chain unused_zero is_well_formed is_ill_formed state_number feed_number number_of passed_of advance_of address_of memory_of registers_of missed_of step_of run_of start_number start_of fed_of slice_of slice_memory home_of next_of kept_of external_of jumps astray onward fetcher_at_end fed_with took_of fetch_one fetch_all bytes_fetched fetch_number fetched_of fetch_of fetch_memory
every_null_out d =
    let a = d opened_down (fetcher_at 23) parked (eprom 0x03) 21 open_down refl premises.lendable premises.bytes in
    let e : ◌≡◌ {A = ℕ} 16 0 = a.number (λ q. omega arith) (λ q. omega arith) in
    omega arith

-- ---- counting up in mode 2: one byte, and the EPROM's end

pub upward_out : FetchedAsFed upward → ⊥
unfolding size_of base_of known_of is_bad_chain unused_zero is_well_formed is_ill_formed state_number feed_number number_of passed_of advance_of address_of memory_of registers_of missed_of step_of run_of start_number start_of fed_of slice_of slice_memory home_of next_of kept_of external_of jumps astray onward fetcher_at_end fed_with took_of fetch_one fetch_all bytes_fetched fetch_number fetched_of fetch_of fetch_memory
upward_out d =
    let a = d opened_down (fetcher_at 23) parked (eprom 0x03) 21 open_down refl premises.lendable premises.bytes in
    let e : ◌≡◌ {A = ℕ} 1 21 = a.taken in
    omega arith

-- ---- what the run before it left: stopped after the jump, closed and started afresh, it does not jump, and meets FF FF as a start

stale_fetcher_lem : Lendable stale_fetcher
stale_fetcher_lem =
    record { counter = omega arith; control = omega arith; address = bytes_below stale_fetcher.address refl; address_three = refl; nulled = omega arith }

pub stale_out : BootsHold stale → ⊥
unfolding size_of base_of known_of is_bad_chain unused_zero is_well_formed is_ill_formed state_number feed_number number_of passed_of advance_of address_of memory_of registers_of missed_of step_of run_of start_number start_of fed_of slice_of slice_memory closing_bytes written_number home_of next_of kept_of external_of jumps astray onward fetcher_at_end fed_with took_of fetch_one fetch_all bytes_fetched fetch_number fetched_of fetch_of fetch_memory
stale_out d =
    let boots : Boots stale downward teaching (fetcher_at 23) parked (eprom 0x03) 21 = record { started = refl; number = refl } in
    let h = d teaching (fetcher_at 23) parked (eprom 0x03) downward 21 premises.idle refl premises.lendable premises.bytes boots in
    let s = h.stops premises.reading premises.clear 12 (omega arith) (5 ∷ []) 7 refl in
    let e : ◌≡◌ {A = ℕ} 11 0 =
    (s.again (replicate 9 0) refl [] 0xee (0xee ∷ 0x00 ∷ 0xff ∷ 0xff ∷ []) refl stale_fetcher stale_fetcher_lem refl).0.number in
    omega arith

-- ---- a jump above 1FFFF is made: the null byte gives 16, where 19's condition holds

abbrev opened_up : Chain
opened_up = (ours.start teaching cells0 first_mode writing).chain

abbrev above : List ℕ
above = head_to 0x02 0x00 0x00 0x02

pub far_jump_out : FetchNumbers far_jump → ⊥
unfolding size_of base_of known_of is_bad_chain unused_zero is_well_formed is_ill_formed state_number feed_number number_of passed_of advance_of address_of memory_of registers_of missed_of step_of start_number start_of home_of next_of kept_of external_of jumps astray onward fetcher_at_end fed_with took_of fetch_one fetch_all fetch_number fetched_of fetch_of fetch_memory
far_jump_out d =
    let t = d opened_up (fetcher_at 0) cells0 above 7 in
    let claims = fetch_table far_jump opened_up (fetcher_at 0) cells0 above 7 in
    none_of claims bad_jump ((else_of claims (fetch_number_of far_jump opened_up (fetcher_at 0) cells0 above 7) more t).0 refl)
    (record { k = 6; there = omega arith; before = refl; holds = (omega arith, ((refl, refl, refl, refl), omega arith)) })

-- ---- the counter kept though B0 is clear

pub never_home_out : FetchLeaves never_home → ⊥
unfolding size_of base_of known_of is_bad_chain unused_zero is_well_formed is_ill_formed state_number feed_number number_of passed_of advance_of address_of memory_of registers_of missed_of step_of start_number start_of home_of next_of kept_of external_of jumps astray onward fetcher_at_end fed_with took_of fetch_one fetch_all fetch_number fetched_of fetch_of fetch_memory
never_home_out d =
    let e : ◌≡◌ {A = ℕ} 15 0 =
    (d.over opened_up (fetcher_at 0) cells0 stream_a 15 14 (omega arith) refl (λ q. omega (arith, q)) (λ q. omega (arith, q))).clear refl in
    omega arith

-- ---- 18 that closes the run: with the other bytes there is no run

abbrev front : List ℕ
front = take 12 stream_a

abbrev back : List ℕ
back = drop 12 stream_a

open_up : Open opened_up cells0
unfolding size_of base_of known_of is_bad_chain unused_zero is_well_formed is_ill_formed state_number feed_number number_of passed_of advance_of address_of memory_of registers_of missed_of step_of start_number start_of home_of next_of kept_of external_of jumps astray onward fetcher_at_end fed_with took_of fetch_one fetch_all fetch_number fetched_of fetch_of fetch_memory
open_up = record { kinds = refl; registers = refl; register_bytes = zeros-bytes 8; memory_bytes = zeros-bytes 52; sound = refl }

pub shut_past_out : GoesOn shut_past → ⊥
unfolding size_of base_of known_of is_bad_chain unused_zero is_well_formed is_ill_formed state_number feed_number number_of passed_of advance_of address_of memory_of registers_of missed_of step_of run_of start_number start_of fed_of slice_of slice_memory home_of next_of kept_of external_of jumps astray onward fetcher_at_end fed_with took_of fetch_one fetch_all bytes_fetched fetch_number unfetched fetched_of fetch_of fetch_memory
shut_past_out d =
    let e : ◌≡◌ {A = ℕ} 4 0 =
    ap (λ (a : AfterFetch). a.fetched.answer.number) (d opened_up (fetcher_at 0) cells0 front back 15 3 open_up refl fresh small_A refl) in
    omega arith

-- ---- 18 that puts the counter back: the run goes on with the stream's first bytes

pub home_past_out : GoesOn home_past → ⊥
unfolding size_of base_of known_of is_bad_chain unused_zero is_well_formed is_ill_formed state_number feed_number number_of passed_of advance_of address_of memory_of registers_of missed_of step_of run_of start_number start_of fed_of slice_of slice_memory home_of next_of kept_of external_of jumps astray onward fetcher_at_end fed_with took_of fetch_one fetch_all bytes_fetched fetch_number fetched_of fetch_of fetch_memory
home_past_out d =
    let e : ◌≡◌ {A = ℕ} 8 0 =
    ap (λ (a : AfterFetch). a.fetched.answer.number) (d opened_up (fetcher_at 0) cells0 front back 15 3 open_up refl fresh small_A refl) in
    omega arith
