-- For the contracts of private helpers alone, no promise cites it: bytes taken in blocks. Assumes nothing.
use Rattle.std.specs.Prelude.{◌≡◌, ℕ, zero, suc, ◌+◌, ◌-◌, ◌%◌, ◌<◌, ◌≤◌, Bool, true, false, not, ◌&&◌, ◌||◌, ◌⊎◌, List, [], ◌∷◌, length, take, drop, ◌==◌, nat_eq, nat_le, nat_lt, slice_index}
use Rattle.chain.specs.declared.Chain.{Chain}
use Rattle.chain.specs.declared.Place.{Place}
use Rattle.chain.specs.Paper.{at_preamble, at_control, at_count, at_null, at_check, no_windows, opened, downward, most_devices, more, B0, B1}
use Rattle.chain.specs.Rules.{pick, row_of}
use Rattle.eprom.specs.declared.Fetcher.{Fetcher}
use Rattle.eprom.specs.declared.Fetched.{Fetched}
use Rattle.eprom.specs.Counter.{fetches, counts, last_count, home_of, next_of}
use Rattle.eprom.specs.Kept.{with_counter, fetcher_at, not_yet, first, kept_rows, external_of, jumps}
use Rattle.eprom.specs.Fetch.{Fetching, took_of}
use Rattle.eprom.specs.Calls.{fetched_of}

-- the counter n bytes later
unfoldable pub further_of : ℕ → ℕ → ℕ → ℕ
further_of mode k n = pick (mode == downward) ((k + (counts - n)) % counts) ((k + n) % counts)

-- bytes one after another, wherever they come from
unfoldable pub took_all : Fetching → List ℕ → Fetching
took_all x [] = x
took_all x (b ∷ bs) = took_all (pick (x.run.number == more) (took_of x b) x) bs

-- nothing more of this run is kept, and no jump is left
unfoldable pub settled : Place → Fetcher → Bool
settled p f = not (first p) || nat_le at_count p.awaited && not (f.nulled == not_yet)

-- from the awaited byte a how many bytes there are before the null byte of a section; from there on, one
unfoldable pub head_of : ℕ → ℕ
head_of a = pick (a == at_preamble) 6 (pick (nat_le a at_count) (7 - a) 1)

-- the control byte that the run has at its first null byte: awaited as a it is kept, or among the bytes to come
unfoldable pub control_of : ℕ → Fetcher → List ℕ → ℕ
control_of a f bs = pick (nat_lt a at_control) (slice_index bs 1) (pick (a == at_control) (slice_index bs 0) f.control)

-- its B1 is clear, and so no jump comes: up to the first null byte, or at the check byte of a section with no windows
abbrev pub Plain : Place → Fetcher → List ℕ → Type 0
Plain p f bs = ((p.awaited ≤ at_null) ⊎ (p.awaited ≡ at_check)) × (B1 (control_of p.awaited f bs) ≡ false)

-- bytes may be taken as one block: whatever is kept of them stands at a known place, and no jump comes before the last
abbrev pub Free : Place → Fetcher → List ℕ → Type 0
Free p f bs = (settled p f ≡ true) ⊎ ((first p ≡ true) × ((length bs ≤ head_of p.awaited) ⊎ Plain p f bs))

-- the awaited byte after a, which was b, up to the first null byte; from there on nothing more is kept
unfoldable pub after_of : ℕ → ℕ → ℕ
after_of a b =
    pick (a == at_preamble) at_control
    (pick (nat_lt a at_count) (a + 1) (pick (a == at_count && not (b == no_windows)) at_null at_check))

-- what is kept of bytes, the first of them awaited as a
unfoldable pub kept_through : ℕ → Fetcher → List ℕ → Fetcher
kept_through a f [] = f
kept_through a f (b ∷ bs) = kept_through (after_of a b) (row_of a (kept_rows f b) f) bs

unfoldable pub kept_by : Place → Fetcher → List ℕ → Fetcher
kept_by p f bs = pick (settled p f) f (kept_through p.awaited f bs)

-- the fetcher f after a block of n bytes of which g is kept, where the run goes on
abbrev pub went_to : Place → Fetcher → ℕ → Fetcher → Fetcher
went_to p f n g = with_counter g (pick (jumps p f) (external_of f) (further_of p.mode f.counter n))

-- and where it is over
abbrev pub ended_to : Place → Fetcher → ℕ → Fetcher → Fetcher
ended_to p f n g = fetcher_at (pick (B0 g.control) (further_of p.mode f.counter n) (home_of p.mode))

-- the EPROM's bytes from an address on downward
unfoldable pub down_from : List ℕ → ℕ → ℕ → List ℕ
down_from e at zero = []
down_from e at (suc n) = slice_index e at ∷ down_from e (at - 1) n

-- the n bytes from the counter on, as it counts
unfoldable pub part_of : ℕ → List ℕ → ℕ → ℕ → List ℕ
part_of mode e at n = pick (mode == downward) (down_from e at n) (take n (drop at e))

-- bs stand where the counter goes by, from k on
abbrev pub Reads : ℕ → List ℕ → ℕ → List ℕ → Type 0
Reads mode e k [] = Unit {0}
Reads mode e k (b ∷ bs) = ((k < length e) × (b ≡ slice_index e k)) × Reads mode e (next_of mode k) bs

-- a run that fetches
pub record Going (c : Chain) (f : Fetcher) : Type 0 where
  pub running : c.place.running ≡ opened
  pub few : c.count ≤ most_devices
  pub device : c.place.device < c.count
  pub known : c.place.awaited ≤ at_check
  pub mode : fetches c.place.mode ≡ true
  pub counter : f.counter ≤ last_count

-- and takes bytes as one block
pub record Block (c : Chain) (f : Fetcher) (bs : List ℕ) : Type 0 where
  pub going : Going c f
  pub free : Free c.place f bs
  pub some : 0 < length bs
  pub most : length bs ≤ counts

-- n bytes can be fetched before the counter wraps or the EPROM ends, in mode 2 no more than there is room for
pub record Stretch (mode at have many n : ℕ) : Type 0 where
  pub there : at < have
  pub few : n ≤ counts
  pub up : nat_eq mode downward ≡ false → (at + n ≤ have) × (at + n ≤ counts)
  pub down : nat_eq mode downward ≡ true → (n ≤ at + 1) × (n ≤ many)

-- the answer r and the memory m' of a fetch that has come to x, and takes no more bytes
pub record Over (x : Fetching) (r : Fetched) (m' : List ℕ) : Type 0 where
  pub ends : x.run.number ≡ more → ⊥
  pub value : r ≡ fetched_of x
  pub memory : m' ≡ x.run.memory
