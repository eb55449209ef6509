-- Document 02, wish 1: 'boards boot in modes 1, 2 and 5 from a parallel EPROM': a stream that fits, and that the EPROM holds where its own bytes send the
-- counter, is fetched and loads, or is checked, as a predicate over a loader. Assumes nothing.
use Rattle.std.specs.Prelude.{ℕ, ◌≤◌, ◌<◌, true, ◌≡◌, List, length, get_or, take}
use Rattle.chain.specs.declared.Chain.{Chain}
use Rattle.chain.specs.Paper.{done}
use Rattle.chain.specs.Bytes.{Bytes}
use Rattle.grammar.specs.Sent.{bytes_of}
use Rattle.grammar.specs.Stream.{Section, stream_sent}
use Rattle.grammar.specs.Fits.{Fitting}
use Rattle.eprom.specs.declared.Fetcher.{Fetcher}
use Rattle.eprom.specs.Counter.{fetches, last_count}
use Rattle.eprom.specs.Fetch.{bytes_fetched}
use Rattle.eprom.specs.Calls.{lent}
use Rattle.demands.specs.Loader.{Loader, Idle}
use Rattle.demands.specs.Demand2.{Seen}
use Rattle.demands.specs.EpromBoards.{Lendable, as_slice}
use Rattle.demands.specs.EpromCounter.{address_in, jumps_in, counter_after}

-- e holds the bytes bs from the counter k on, each where those before it send the counter; and their jump, if they have one, is not above 1FFFF
pub record Holds (mode k : ℕ) (e bs : List ℕ) : Type 0 where
  pub there : (i : ℕ) → i < length bs → counter_after mode k (take i bs) < length e
  pub bytes : (i : ℕ) → i < length bs → get_or e (counter_after mode k (take i bs)) 0 ≡ get_or bs i 0
  pub near : jumps_in bs ≡ true → address_in bs ≤ last_count

-- with as many bytes asked for as the stream has, or more, it is fetched, and seen as it would be fed; whatever else the EPROM holds
abbrev pub HeldBoots : Loader → Type 0
HeldBoots l = (c : Chain) (f : Fetcher) (m e : List ℕ) (check mode n : ℕ) (s : Section) (ss : List Section) → Idle c m → fetches mode ≡ true → Lendable f
    → Bytes e → Fitting c check mode s ss → Holds mode f.counter e (bytes_of (stream_sent c mode s ss)) → length (stream_sent c mode s ss) ≤ n
    → let d = (l.start c m mode check).chain in
    (bytes_fetched e n (lent d m f) ≡ bytes_of (stream_sent c mode s ss)) × Seen check c m (stream_sent c mode s ss) done (as_slice (l.fetch d f m e n))
