-- A run whose bytes are fetched: byte by byte from the EPROM, at the fetcher's counter, and fed to the machine. Assumes nothing.
use Rattle.std.specs.Prelude.{ℕ, zero, suc, List, [], ◌∷◌, length, ◌==◌, nat_le, slice_index}
use Rattle.chain.specs.Paper.{more, past_eprom, bad_jump}
use Rattle.chain.specs.Rules.{pick}
use Rattle.machine.specs.Run.{ended, Run, run, step_of}
use Rattle.eprom.specs.declared.Fetcher.{Fetcher}
use Rattle.eprom.specs.Kept.{astray, onward, fetcher_at_end}

-- what a fetched run has come to: the machine's run, its number 16 while it goes on, and the fetcher
pub record Fetching : Type 0 where
  pub run : Run
  pub fetcher : Fetcher

abbrev pub fetching : Run → Fetcher → Fetching
fetching r f = record { run = r; fetcher = f }

-- the machine's run after the byte b: as fed, but that a null byte whose jump is above 1FFFF ends it with 19
unfoldable pub fed_with : Fetching → ℕ → Run
fed_with x b =
    let c = x.run.chain in
    pick (astray c.place x.fetcher) (run (ended c) x.run.memory bad_jump) (step_of c x.run.memory b)

-- and the fetcher's
unfoldable pub took_of : Fetching → ℕ → Fetching
took_of x b =
    let p = x.run.chain.place in
    fetching (fed_with x b) (pick ((fed_with x b).number == more) (onward p x.fetcher b) (fetcher_at_end p x.fetcher b))

-- the byte that the counter is at
abbrev pub at_counter : List ℕ → Fetching → ℕ
at_counter e x = slice_index e x.fetcher.counter

-- one byte of an open run: 18 where the counter is not below the EPROM's length, and no byte is taken
unfoldable pub fetch_one : List ℕ → Fetching → Fetching
fetch_one e x =
    pick (nat_le (length e) x.fetcher.counter) (fetching (run x.run.chain x.run.memory past_eprom) x.fetcher)
    (took_of x (at_counter e x))

-- a run that is over, or past the EPROM, fetches no more
abbrev pub on_fetch : List ℕ → Fetching → Fetching
on_fetch e x = pick (x.run.number == more) (fetch_one e x) x

-- n bytes, or as many as the run takes
unfoldable pub fetch_all : List ℕ → ℕ → Fetching → Fetching
fetch_all e zero x = x
fetch_all e (suc n) x = fetch_all e n (on_fetch e x)

-- the bytes that were fetched
unfoldable pub bytes_fetched : List ℕ → ℕ → Fetching → List ℕ
bytes_fetched e zero x = []
bytes_fetched e (suc n) x =
    pick (x.run.number == more)
    (pick (nat_le (length e) x.fetcher.counter) [] (at_counter e x ∷ bytes_fetched e n (took_of x (at_counter e x)))) []
