-- A fetch answers what its run comes to, and where that stays open the next fetch is taken: its state is sound, its mode the same, its counter in range.
-- Assumes nothing.
use Rattle.std.proofs.Common.{◌≡◌, ℕ, zero, suc, ◌≤◌, true, false, eqb, List, length, ap, ◌∙◌, subst, arith, ltb-false, le-ltb}
use Rattle.chain.specs.declared.Chain.{Chain}
use Rattle.chain.specs.declared.Place.{Place}
use Rattle.chain.specs.Paper.{downward, most_devices, done, more, past_eprom, B0}
use Rattle.chain.specs.Bytes.{Bytes}
use Rattle.chain.specs.State.{feed_number}
use Rattle.chain.proofs.ByCases.{by_test, either_way}
use Rattle.chain.proofs.Sound.{feed_is_taken, feed_sound}
use Rattle.awaited.specs.Byte.{number_of}
use Rattle.machine.specs.Run.{memory_of, run, went_on, run_of}
use Rattle.machine.proofs.Runs.{run_lasts}
use Rattle.grammar.proofs.Runs.Keeps.{run_open}
use Rattle.grammar.proofs.Runs.Stays.{run_stays}
use Rattle.eprom.specs.declared.Fetcher.{Fetcher}
use Rattle.eprom.specs.Counter.{fetches, last_count, home_of, next_of}
use Rattle.eprom.specs.Kept.{kept_of, external_of, jumps, astray, onward, fetcher_at_end}
use Rattle.eprom.specs.Fetch.{Fetching, fetch_all, bytes_fetched}
use Rattle.eprom.specs.Calls.{fetch_number, fetched_of, lent, fetch_of, fetch_memory}
use Rattle.eprom.proofs.Numbers.{fetch_passes}
use Rattle.eprom.proofs.Counters.{next_low}
use Rattle.eprom.proofs.Turns.{byte_at, Straight, by_turn, later, comes_past, comes_strays, comes_ends, comes_goes, fetch_none}
use Rattle.eprom.proofs.AsFed.{StaysOpen, as_fed, stays_more, stays_past}
use Rattle.eprom.proofs.Parts.{fetched-bytes}

-- ---- the call

module _ (c : Chain) (f : Fetcher) (m e : List ℕ) (n : ℕ) where
  pub fetch_runs : fetch_number c f (length m) ≡ done
      → (fetch_of c f m e n ≡ fetched_of (fetch_all e n (lent c m f))) × (fetch_memory c f m e n ≡ (fetch_all e n (lent c m f)).run.memory)
  unfolding fetch_of fetch_memory
  fetch_runs h = (rw h, rw h)

-- an open run in a mode that fetches, and a counter in range
pub record Ready (c : Chain) (m : List ℕ) (f : Fetcher) : Type 0 where
  pub registers : length c.registers ≡ most_devices
  pub feeds : feed_number c (length m) ≡ done
  pub mode : fetches c.place.mode ≡ true
  pub counter : f.counter ≤ last_count

-- are taken
pub ready_taken : (c : Chain) (m : List ℕ) (f : Fetcher) → Ready c m f → fetch_number c f (length m) ≡ done
ready_taken c m f r =
    fetch_passes c f (length m) (feed_is_taken c (length m) r.feeds)
    ∙ rw (le-ltb last_count f.counter r.counter, (feed_sound c (length m) r.feeds).running, r.mode)

-- ---- the counter stays in range

home_low : (mode : ℕ) → home_of mode ≤ last_count
unfolding home_of
home_low mode = either_way (λ (x : ℕ). x ≤ last_count) (eqb mode downward) last_count 0 (omega arith) (omega arith)

module _ (p : Place) (f : Fetcher) (b : ℕ) where
  end_low_lem : (fetcher_at_end p f b).counter ≤ last_count
  unfolding fetcher_at_end
  end_low_lem =
      either_way (λ (x : ℕ). x ≤ last_count) (B0 (kept_of p f b).control) (next_of p.mode f.counter) (home_of p.mode)
      (next_low p.mode f.counter) (home_low p.mode)

  onward_low : astray p f ≡ false → (onward p f b).counter ≤ last_count
  unfolding astray onward
  onward_low a =
      by_test (jumps p f)
      (λ j. rw j (ltb-false last_count (external_of f) (rw j at a)))
      (λ j. rw j (next_low p.mode f.counter))

pub counter_low : (e : List ℕ) (n : ℕ) (c : Chain) (m : List ℕ) (f : Fetcher) → f.counter ≤ last_count
    → (fetch_all e n (lent c m f)).fetcher.counter ≤ last_count
counter_low e zero c m f h = rw (fetch_none e (lent c m f)) h
counter_low e (suc n) c m f h =
    let b : ℕ = byte_at e f in
    by_turn e c f (λ l. rw (comes_past e n c m f l).0 h) (λ l a. rw (comes_strays e n c m f l a).0 (end_low_lem c.place f b))
    (λ s g. rw (comes_ends e n c m f s g).0 (end_low_lem c.place f b))
    (λ s g.
    rw (comes_goes e n c m f s g).0
    (counter_low e n (went_on c m b) (memory_of c m b) (onward c.place f b) (onward_low c.place f b s.straight)))

-- ---- where the run stays open the next fetch is taken

module _ (e : List ℕ) (n : ℕ) (c : Chain) (m : List ℕ) (f : Fetcher) (u : Bytes e) (r : Ready c m f) where
  abbrev x : Fetching
  x = fetch_all e n (lent c m f)

  stays_ready : StaysOpen x.run (run_of (run c m more) (bytes_fetched e n (lent c m f))) → Ready x.run.chain x.run.memory x.fetcher
  stays_ready s =
      let bs = bytes_fetched e n (lent c m f) in
      rw (s.chain, s.memory)
      (record {
        registers = (run_lasts bs (run c m more)).registers ∙ r.registers;
        feeds = run_open c m bs (fetched-bytes e u n c m f) r.registers r.feeds s.number;
        mode = rw (run_stays bs c m s.number).mode r.mode;
        counter = counter_low e n c m f r.counter;
      })

  pub more_ready : x.run.number ≡ more → Ready x.run.chain x.run.memory x.fetcher
  more_ready q = stays_ready (stays_more (as_fed e n c m f) q)

  pub past_ready : x.run.number ≡ past_eprom → Ready x.run.chain x.run.memory x.fetcher
  past_ready q = stays_ready (stays_past (as_fed e n c m f) q)

-- a byte later
pub later_ready : (e : List ℕ) (c : Chain) (m : List ℕ) (f : Fetcher) → Bytes e → Ready c m f → Straight e c f → number_of c (byte_at e f) ≡ more
    → Ready (went_on c m (byte_at e f)) (memory_of c m (byte_at e f)) (onward c.place f (byte_at e f))
later_ready e c m f u r s g =
    let one : fetch_all e 1 (lent c m f) ≡ later e 0 c m f = (comes_goes e 0 c m f s g).0 ∙ fetch_none e (later e 0 c m f) in
    subst (λ (y : Fetching). Ready y.run.chain y.run.memory y.fetcher) one
    (more_ready e 1 c m f u r (ap (λ (y : Fetching). y.run.number) one))
