-- Start, byte and slice: what each answers and leaves. Assumes nothing.
use Rattle.std.specs.Prelude.{◌≡◌, ◌≢◌, ℕ, not, List, [], ◌∷◌, length, ◌==◌, nat_eq}
use Rattle.std.specs.declared.ops.ControlFlow.{ControlFlow}
use Rattle.std.specs.declared.ops.ControlFlow.TheVariants.{Continue, Break}
use Rattle.chain.specs.declared.Chain.{Chain}
use Rattle.chain.specs.declared.Place.{Place}
use Rattle.chain.specs.declared.Made.{Made}
use Rattle.chain.specs.Paper.{at_preamble, closed, opened, writing, checking, first_mode, two_preambles, done, bad_mode, run_open, no_run, more}
use Rattle.chain.specs.Rules.{pick, Rule, ◌gives◌, first_of, from}
use Rattle.chain.specs.Set.{with_running, with_mode, with_check, with_awaited, with_place, closed_place}
use Rattle.chain.specs.State.{state_rules, open_number, feed_number}
use Rattle.machine.specs.declared.Fed.{Fed}
use Rattle.awaited.specs.Byte.{number_of, passed_of}
use Rattle.machine.specs.Run.{counted, ended, gone_on, Run, run, run_of}

-- start: 1, 17, 2, 3
abbrev pub start_rules : Chain → ℕ → ℕ → List Rule
start_rules c len mode =
    state_rules c len
    ((not (from first_mode two_preambles mode) gives bad_mode)
    ∷ (nat_eq c.place.running opened gives run_open)
    ∷ [])

unfoldable pub start_number : Chain → ℕ → ℕ → ℕ
start_number c len mode = first_of (start_rules c len mode) done

-- a run awaits its first byte, both counts zero; check 0 writes, all else checks
abbrev pub opened_place : ℕ → ℕ → Place
opened_place mode check =
    with_awaited (with_check (with_mode (with_running closed_place opened) mode) (pick (check == writing) writing checking)) at_preamble

unfoldable pub start_of : Chain → ℕ → ℕ → ℕ → Made
start_of c len mode check =
    record {
      chain = pick (start_number c len mode == done) (with_place c (opened_place mode check)) c;
      number = start_number c len mode;
    }

abbrev pub answered : Chain → ℕ → ℕ → ℕ → Fed
answered c n taken mismatches = record { chain = c; answer = record { number = n; taken = taken; mismatches = mismatches } }

-- the number and the run's counts so far; a run that is over leaves no place
unfoldable pub fed_of : Run → Fed
fed_of r =
    answered (pick (r.number == more) r.chain (with_place r.chain closed_place)) r.number r.chain.place.taken
    r.chain.place.mismatches

-- a state that takes no byte is handed back as lent
abbrev pub unfed : Chain → ℕ → Fed
unfed c n = answered c n 0 0

-- a slice feeds an open run; where 1, 17 or 4 is given the counts are 0 and 0 and all is as lent
unfoldable pub slice_of : Chain → List ℕ → List ℕ → Fed
slice_of c m s =
    pick (feed_number c (length m) == done) (fed_of (run_of (run c m more) s)) (unfed c (feed_number c (length m)))

unfoldable pub slice_memory : Chain → List ℕ → List ℕ → List ℕ
slice_memory c m s = pick (feed_number c (length m) == done) (run_of (run c m more) s).memory m

-- an open run dropped: 1, 17, 4; no cell and no register is touched
unfoldable pub drop_of : Chain → ℕ → Made
drop_of c len =
    record {
      chain = pick (open_number c len == done) (with_place c closed_place) c;
      number = open_number c len;
    }

-- for calls above the machine, which end a run with a number of their own: it is over at its last byte, which counts as taken; no cell
-- and no register changes
unfoldable pub refuse_of : Chain → ℕ → Fed
refuse_of c n =
    pick (c.place.running == closed) (unfed c no_run)
    (answered (with_place c closed_place) n (ended c).place.taken (ended c).place.mismatches)

-- and which look one byte ahead, with no memory lent: its number, and where the run would stand, as if its cell held it
unfoldable pub ahead_of : Chain → ℕ → Made
ahead_of c b =
    record {
      chain = pick (number_of c b == more) (gone_on c 0 b) (ended c);
      number = number_of c b;
    }

-- as the code has it: the run goes on, or it is over with another number than 16
abbrev pub Ahead : ControlFlow Made Chain → Made → Type 0
Ahead (Continue d) r = r ≡ record { chain = d; number = more }
Ahead (Break q) r = (r ≡ q) × (r.number ≢ more)

-- and which pass over n data bytes of the window at once: where the run would stand, as if each cell held its byte
unfoldable pub past_of : Chain → ℕ → Chain
past_of c n = with_place c (passed_of (counted c.place n 0) n)

-- what a reader may hold each call to: r is the answer, m' the memory left
pub record Start (c : Chain) (m : List ℕ) (mode check : ℕ) (r : Made) : Type 0 where
  pub made : r ≡ start_of c (length m) mode check

pub record Slice (c : Chain) (m s : List ℕ) (r : Fed) (m' : List ℕ) : Type 0 where
  pub fed : r ≡ slice_of c m s
  pub memory : m' ≡ slice_memory c m s

pub record Drop (c : Chain) (m : List ℕ) (r : Made) : Type 0 where
  pub made : r ≡ drop_of c (length m)

-- a byte is a slice of one
abbrev pub Byte : Chain → List ℕ → ℕ → Fed → List ℕ → Type 0
Byte c m b r m' = Slice c m (b ∷ []) r m'
