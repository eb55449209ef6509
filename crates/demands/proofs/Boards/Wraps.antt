-- The counter past either end of its 17 bits: of every EPROM of 131,072 bytes that holds these bytes there, the rest being any. Assumes nothing.
use Prim.Native.Nat.{ℕ, suc, ◌+◌}
use mathlib.Core.Bool.{true, false}
use mathlib.Core.Path.{◌≡◌, refl, ap, sym, ◌∙◌}
use mathlib.Core.List.{List, [], ◌∷◌, ◌++◌}
use borrow.Author.Tests.{eq-eqb, ltb-true, lt-leb}
use lib.Dec.{leb, ltb}
use lib.ListN.{length, get_or, replicate, length-append, length-replicate}
use lib.Seq.{get_or-append-add}
use Rattle.chain.specs.declared.Chain.{Chain}
use Rattle.chain.specs.Paper.{writing, first_mode, downward, done, more}
use Rattle.chain.specs.Kinds.{size_of, base_of, known_of}
use Rattle.chain.specs.State.{is_bad_chain, unused_zero, is_well_formed, is_ill_formed, state_number, feed_number}
use Rattle.awaited.specs.Byte.{number_of, passed_of, advance_of}
use Rattle.machine.specs.Run.{address_of, memory_of, registers_of, missed_of, step_of}
use Rattle.machine.specs.Calls.{start_number, start_of}
use Rattle.eprom.specs.declared.Fetched.{Fetched}
use Rattle.eprom.specs.Counter.{counts, last_count, home_of, next_of}
use Rattle.eprom.specs.Kept.{fetcher_at, kept_of, external_of, jumps, astray, onward, fetcher_at_end}
use Rattle.eprom.specs.Fetch.{Fetching, fed_with, took_of, fetch_one, on_fetch, fetch_all}
use Rattle.eprom.specs.Calls.{fetcher_of, lent, fetch_number, fetched_of, fetch_of, fetch_memory}
use Rattle.eprom.proofs.Again.{fetch_runs}
use Rattle.demands.specs.Loader.{AfterFetch}
use Rattle.demands.specs.EpromBoards.{boot}
use Rattle.demands.specs.Ours.{ours}
use Rattle.demands.proofs.Loads.StreamA.{teaching, cells0}

-- a write in mode 1 from 1FFFF, and one in mode 2 from 0
abbrev pub up : List ℕ → ℕ → AfterFetch
up e n = boot ours first_mode teaching (fetcher_at last_count) cells0 e n

abbrev pub down : List ℕ → ℕ → AfterFetch
down e n = boot ours downward teaching (fetcher_at 0) cells0 e n

module _ (e : List ℕ) (long : length e ≡ counts) where
  -- upward: after 1FFFF comes 0, and the control byte there is the one kept
  pub wraps_up : get_or e last_count 0 ≡ 0xb2 → get_or e 0 0 ≡ 0x03
      → ((up e 1).fetched.answer.number ≡ more) × ((up e 1).fetched.fetcher ≡ fetcher_at 0)
      × ((up e 2).fetched.fetcher ≡ record { counter = 1; control = 0x03; address = 0 ∷ 0 ∷ 0 ∷ []; nulled = 0 })
  unfolding size_of base_of known_of is_bad_chain unused_zero is_well_formed is_ill_formed state_number feed_number number_of passed_of advance_of address_of memory_of registers_of missed_of step_of start_number start_of home_of next_of kept_of external_of jumps astray onward fetcher_at_end fed_with took_of fetch_one fetch_all fetch_number fetched_of fetch_of fetch_memory
  wraps_up last first = (simp (long, last), simp (long, last), simp (long, last, first))

  -- downward: after 0 comes 1FFFF
  pub wraps_down : get_or e 0 0 ≡ 0xb2 → get_or e last_count 0 ≡ 0x03
      → ((down e 1).fetched.answer.number ≡ more) × ((down e 1).fetched.fetcher ≡ fetcher_at last_count)
      × ((down e 2).fetched.fetcher ≡ record { counter = 0x1fffe; control = 0x03; address = 0 ∷ 0 ∷ 0 ∷ []; nulled = 0 })
  unfolding size_of base_of known_of is_bad_chain unused_zero is_well_formed is_ill_formed state_number feed_number number_of passed_of advance_of address_of memory_of registers_of missed_of step_of start_number start_of home_of next_of kept_of external_of jumps astray onward fetcher_at_end fed_with took_of fetch_one fetch_all fetch_number fetched_of fetch_of fetch_memory
  wraps_down first last = (simp (long, first), simp (long, first), simp (long, first, last))

  -- the byte b stands where the counter of an open run is, and is taken
  abbrev Stands : Fetching → ℕ → Type 0
  Stands x b = (x.run.number ≡ more) × (ltb x.fetcher.counter counts ≡ true) × (get_or e x.fetcher.counter 0 ≡ b)

  one : (x : Fetching) (b : ℕ) → Stands x b → on_fetch e x ≡ took_of x b
  unfolding fetch_one
  one x b s =
      let inside : leb (length e) x.fetcher.counter ≡ false
      = lt-leb (length e) x.fetcher.counter (rw long (ltb-true x.fetcher.counter counts s.1)) in
      rw (eq-eqb x.run.number more s.0, inside, s.2)

  abbrev AllStand : Fetching → List ℕ → Type 0
  AllStand x [] = Unit {0}
  AllStand x (b ∷ bs) = Stands x b × AllStand (took_of x b) bs

  abbrev took : Fetching → List ℕ → Fetching
  took x [] = x
  took x (b ∷ bs) = took (took_of x b) bs

  through : (bs : List ℕ) (x : Fetching) → AllStand x bs → fetch_all e (length bs) x ≡ took x bs
  unfolding fetch_all
  through [] x s = refl
  through (b ∷ bs) x s = ap (fetch_all e (length bs)) (one x b s.0) ∙ through bs (took_of x b) s.1

  -- a stream of no windows in mode 2, from where its counter starts; the counter is back there at its end
  abbrev start : ℕ → Chain
  start mode = (ours.start teaching cells0 mode writing).chain

  pub from_home : get_or e 0x1ffff 0 ≡ 0xb2 → get_or e 0x1fffe 0 ≡ 0x02 → get_or e 0x1fffd 0 ≡ 0x00 → get_or e 0x1fffc 0 ≡ 0x00 → get_or e 0x1fffb 0 ≡ 0x00
      → get_or e 0x1fffa 0 ≡ 0xff → get_or e 0x1fff9 0 ≡ 0x4d
      → let r = (boot ours downward teaching (fetcher_of downward) cells0 e 7).fetched in
      (r.answer.number ≡ done) × (r.fetcher ≡ fetcher_of downward)
  unfolding size_of base_of known_of is_bad_chain unused_zero is_well_formed is_ill_formed state_number feed_number number_of passed_of advance_of address_of memory_of registers_of missed_of step_of start_number start_of home_of next_of kept_of external_of jumps astray onward fetcher_at_end fed_with took_of fetch_one fetch_all fetch_number fetched_of fetch_of fetch_memory
  from_home a b c d f g h =
      let x : Fetching = lent (start downward) cells0 (fetcher_of downward) in
      let t = through (0xb2 ∷ 0x02 ∷ 0x00 ∷ 0x00 ∷ 0x00 ∷ 0xff ∷ 0x4d ∷ []) x
      ((refl, refl, a), ((refl, refl, b), ((refl, refl, c), ((refl, refl, d), ((refl, refl, f), ((refl, refl, g), ((refl, refl, h), tt))))))) in
      let r = (fetch_runs (start downward) (fetcher_of downward) cells0 e 7 refl).0 ∙ ap fetched_of t in
      (ap (λ (y : Fetched). y.answer.number) r, ap (λ (y : Fetched). y.fetcher) r)

  -- the same up to the last byte in mode 1: B0 set keeps the counter's next value, which is past the end
  pub ends-at_last : get_or e 0x1fff9 0 ≡ 0xb2 → get_or e 0x1fffa 0 ≡ 0x01 → get_or e 0x1fffb 0 ≡ 0x00 → get_or e 0x1fffc 0 ≡ 0x00 → get_or e 0x1fffd 0 ≡ 0x00
      → get_or e 0x1fffe 0 ≡ 0xff → get_or e 0x1ffff 0 ≡ 0x4d
      → let r = (boot ours first_mode teaching (fetcher_at 0x1fff9) cells0 e 7).fetched in
      (r.answer.number ≡ done) × (r.fetcher ≡ fetcher_at 0)
  unfolding size_of base_of known_of is_bad_chain unused_zero is_well_formed is_ill_formed state_number feed_number number_of passed_of advance_of address_of memory_of registers_of missed_of step_of start_number start_of home_of next_of kept_of external_of jumps astray onward fetcher_at_end fed_with took_of fetch_one fetch_all fetch_number fetched_of fetch_of fetch_memory
  ends-at_last a b c d f g h =
      let x : Fetching = lent (start first_mode) cells0 (fetcher_at 0x1fff9) in
      let t = through (0xb2 ∷ 0x01 ∷ 0x00 ∷ 0x00 ∷ 0x00 ∷ 0xff ∷ 0x4d ∷ []) x
      ((refl, refl, a), ((refl, refl, b), ((refl, refl, c), ((refl, refl, d), ((refl, refl, f), ((refl, refl, g), ((refl, refl, h), tt))))))) in
      let r = (fetch_runs (start first_mode) (fetcher_at 0x1fff9) cells0 e 7 refl).0 ∙ ap fetched_of t in
      (ap (λ (y : Fetched). y.answer.number) r, ap (λ (y : Fetched). y.fetcher) r)

-- ---- there are such EPROMs: FF up to the last bytes

abbrev ending : ℕ → List ℕ → List ℕ
ending k last = replicate k 0xff ++ last

ending_long : (k : ℕ) (last : List ℕ) → length (ending k last) ≡ k + length last
ending_long k last = length-append (replicate k 0xff) last ∙ ap (λ (n : ℕ). n + length last) (length-replicate k 0xff)

ending_at : (k : ℕ) (last : List ℕ) (i : ℕ) → get_or (ending k last) (k + i) 0 ≡ get_or last i 0
ending_at k last i =
    ap (λ (n : ℕ). get_or (ending k last) (n + i) 0) (sym (length-replicate k 0xff)) ∙ get_or-append-add (replicate k 0xff) last i 0

-- one that boots in mode 2 from where its counter starts
abbrev home_bytes : List ℕ
home_bytes = 0x4d ∷ 0xff ∷ 0x00 ∷ 0x00 ∷ 0x00 ∷ 0x02 ∷ 0xb2 ∷ []

pub home_boots : (boot ours downward teaching (fetcher_of downward) cells0 (ending 0x1fff9 home_bytes) 7).fetched.answer.number ≡ done
home_boots =
    (from_home (ending 0x1fff9 home_bytes) (ending_long 0x1fff9 home_bytes) (ending_at 0x1fff9 home_bytes 6) (ending_at 0x1fff9 home_bytes 5)
    (ending_at 0x1fff9 home_bytes 4) (ending_at 0x1fff9 home_bytes 3) (ending_at 0x1fff9 home_bytes 2) (ending_at 0x1fff9 home_bytes 1)
    (ending_at 0x1fff9 home_bytes 0)).0

-- one that wraps upward: from the preamble in its last byte to its first
pub up_wraps : (up (0x03 ∷ ending 0x1fffe (0xb2 ∷ [])) 1).fetched.fetcher ≡ fetcher_at 0
up_wraps = (wraps_up (0x03 ∷ ending 0x1fffe (0xb2 ∷ [])) (ap suc (ending_long 0x1fffe (0xb2 ∷ []))) (ending_at 0x1fffe (0xb2 ∷ []) 0) refl).1
