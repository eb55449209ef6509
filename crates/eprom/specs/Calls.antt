-- A new fetcher, and n bytes fetched and fed: what each answers and leaves. Assumes nothing.
use Rattle.std.specs.Prelude.{◌≡◌, ℕ, not, ◌||◌, List, [], ◌∷◌, length, ◌==◌, nat_eq, nat_lt}
use Rattle.chain.specs.declared.Chain.{Chain}
use Rattle.chain.specs.Paper.{closed, done, bad_mode, no_run, more, ill_formed, past_eprom}
use Rattle.chain.specs.Rules.{pick, Rule, ◌gives◌, first_of}
use Rattle.chain.specs.Set.{with_place, closed_place}
use Rattle.chain.specs.State.{state_rules}
use Rattle.machine.specs.Run.{run}
use Rattle.eprom.specs.declared.Fetcher.{Fetcher}
use Rattle.eprom.specs.declared.Fetched.{Fetched}
use Rattle.eprom.specs.Counter.{fetches, last_count, home_of}
use Rattle.eprom.specs.Kept.{fetcher_at}
use Rattle.eprom.specs.Fetch.{Fetching, fetching, fetch_all}

-- counter at its start, all else zero
abbrev pub fetcher_of : ℕ → Fetcher
fetcher_of mode = fetcher_at (home_of mode)

-- 1, 17 for the state or a counter above 1FFFF, 4, 2
abbrev pub fetch_rules : Chain → Fetcher → ℕ → List Rule
fetch_rules c f len =
    state_rules c len
    ((nat_lt last_count f.counter gives ill_formed)
    ∷ (nat_eq c.place.running closed gives no_run)
    ∷ (not (fetches c.place.mode) gives bad_mode)
    ∷ [])

unfoldable pub fetch_number : Chain → Fetcher → ℕ → ℕ
fetch_number c f len = first_of (fetch_rules c f len) done

abbrev pub answers : Chain → ℕ → ℕ → ℕ → Fetcher → Fetched
answers c n taken mismatches f =
    record { chain = c; answer = record { number = n; taken = taken; mismatches = mismatches }; fetcher = f }

-- a call that fetches nothing: all as lent, the counts 0 and 0, with 2 the run's so far
unfoldable pub unfetched : Chain → Fetcher → ℕ → Fetched
unfetched c f n = answers c n (pick (n == bad_mode) c.place.taken 0) (pick (n == bad_mode) c.place.mismatches 0) f

-- the number and the run's counts so far; with 16 and 18 the run stays open, one that is over leaves no place
unfoldable pub fetched_of : Fetching → Fetched
fetched_of x =
    let r = x.run in
    answers (pick (r.number == more || r.number == past_eprom) r.chain (with_place r.chain closed_place)) r.number
    r.chain.place.taken r.chain.place.mismatches x.fetcher

-- an open run about to fetch
abbrev pub lent : Chain → List ℕ → Fetcher → Fetching
lent c m f = fetching (run c m more) f

unfoldable pub fetch_of : Chain → Fetcher → List ℕ → List ℕ → ℕ → Fetched
fetch_of c f m e n =
    pick (fetch_number c f (length m) == done) (fetched_of (fetch_all e n (lent c m f))) (unfetched c f (fetch_number c f (length m)))

unfoldable pub fetch_memory : Chain → Fetcher → List ℕ → List ℕ → ℕ → List ℕ
fetch_memory c f m e n = pick (fetch_number c f (length m) == done) (fetch_all e n (lent c m f)).run.memory m

-- what a reader may hold each call to: r is the answer, m' the memory left
pub record FetcherNew (mode : ℕ) (r : Fetcher) : Type 0 where
  pub made : r ≡ fetcher_of mode

pub record Fetch (c : Chain) (f : Fetcher) (m e : List ℕ) (n : ℕ) (r : Fetched) (m' : List ℕ) : Type 0 where
  pub answer : r ≡ fetch_of c f m e n
  pub memory : m' ≡ fetch_memory c f m e n
