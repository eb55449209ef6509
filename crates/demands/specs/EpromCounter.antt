-- Document 02, wish 1: where the counter starts and goes, what a stop keeps beside it and what a run's end does to it, read off the run's bytes alone, as a
-- predicate over a loader: no place and no kept byte is looked at. And its 17 bits; where it starts is of a fetcher alone. Assumes nothing.
use Rattle.std.specs.Prelude.{ℕ, zero, suc, ◌+◌, ◌*◌, ◌%◌, ◌^◌, ◌<◌, ◌≤◌, Bool, true, false, not, ◌&&◌, ◌≢◌, ◌≡◌, List, [], ◌∷◌, eqb, length, get_or, take, drop}
use Rattle.chain.specs.declared.Chain.{Chain}
use Rattle.chain.specs.Paper.{no_windows, downward, B0, B1, more, past_eprom, bad_jump}
use Rattle.chain.specs.Rules.{pick}
use Rattle.chain.specs.Bytes.{Bytes}
use Rattle.eprom.specs.declared.Fetcher.{Fetcher}
use Rattle.eprom.specs.Counter.{fetches, counts, last_count, home_of, next_of}
use Rattle.eprom.specs.Kept.{fetcher_at}
use Rattle.eprom.specs.Fetch.{bytes_fetched}
use Rattle.eprom.specs.Calls.{lent}
use Rattle.demands.specs.Loader.{Loader, AfterFetch, Idle}
use Rattle.demands.specs.EpromBoards.{Lendable}

-- ---- 17 bits

-- a new fetcher f: 'starts at 00000 (1FFFF in mode 2)', and nothing is kept
pub record StartsAt (mode : ℕ) (f : Fetcher) : Type 0 where
  pub other : mode ≢ downward → f ≡ fetcher_at 0x00000
  pub two : mode ≡ downward → f ≡ fetcher_at 0x1ffff

-- whatever is fetched and however it ends: a counter lent within them is left within them
abbrev pub WithinBits : Loader → Type 0
WithinBits l = (c : Chain) (f : Fetcher) (m e : List ℕ) (n : ℕ) → f.counter ≤ last_count → (l.fetch c f m e n).fetched.fetcher.counter ≤ last_count

-- 'an EPROM of up to 131,072 bytes': of a longer one the rest is never read
abbrev pub NeverBeyond : Loader → Type 0
NeverBeyond l = (c : Chain) (f : Fetcher) (m e : List ℕ) (n : ℕ) → l.fetch c f m e n ≡ l.fetch c f m (take counts e) n

-- ---- the run's bytes

-- the counter n bytes later
abbrev pub stepped : ℕ → ℕ → ℕ → ℕ
stepped mode k zero = k
stepped mode k (suc n) = next_of mode (stepped mode k n)

-- the first bytes of a run in these modes: preamble, control byte, three of the external address, count, and where there are windows the first null byte.
-- What is not there yet is read as 0

abbrev pub control_in : List ℕ → ℕ
control_in bs = get_or bs 1 0

abbrev pub address_in : List ℕ → ℕ
address_in bs = get_or bs 2 0 + get_or bs 3 0 * 256 + get_or bs 4 0 * 65536

abbrev some : List ℕ → Bool
some [] = false
some (b ∷ bs) = true

-- the first null byte is the seventh byte, unless the count says that there are no windows
abbrev pub nulled_in : List ℕ → Bool
nulled_in bs = some (drop 6 bs) && not (eqb (get_or bs 5 0) no_windows)

-- after it the counter takes the external address, if the control byte sets B1
abbrev pub jumps_in : List ℕ → Bool
jumps_in bs = nulled_in bs && B1 (control_in bs)

abbrev pub counter_after : ℕ → ℕ → List ℕ → ℕ
counter_after mode k bs = pick (jumps_in bs) (stepped mode (address_in bs) (length (drop 7 bs))) (stepped mode k (length bs))

-- a stop after the bytes bs of a run that began with the counter k
abbrev pub kept_after : ℕ → ℕ → List ℕ → Fetcher
kept_after mode k bs =
    record {
      counter = counter_after mode k bs;
      control = control_in bs;
      address = get_or bs 2 0 ∷ get_or bs 3 0 ∷ get_or bs 4 0 ∷ [];
      nulled = pick (nulled_in bs) 1 0;
    }

-- a run that ended with its last byte: B0 clear resets the counter for that run's mode, set keeps its next value, with 19 the one after the null byte's
abbrev pub end_after : ℕ → ℕ → List ℕ → ℕ → Fetcher
end_after mode k bs n = fetcher_at (pick (B0 (control_in bs)) (pick (eqb n bad_jump) (stepped mode k (length bs)) (counter_after mode k bs)) (home_of mode))

-- a is what a fetch of the run's first n bytes left, bs the bytes that it fetched from the EPROM e: each was taken, with 16 all n; 18 only where the counter is then
-- not below the EPROM's length, 19 only where the jump is above 1FFFF
pub record AsSaid (mode k n : ℕ) (e bs : List ℕ) (a : AfterFetch) : Type 0 where
  pub there : (i : ℕ) → i < length bs → counter_after mode k (take i bs) < length e
  pub bytes : (i : ℕ) → i < length bs → get_or bs i 0 ≡ get_or e (counter_after mode k (take i bs)) 0
  pub taken : a.fetched.answer.taken ≡ length bs % 2 ^ 32
  pub all : a.fetched.answer.number ≡ more → length bs ≡ n
  pub beyond : a.fetched.answer.number ≡ past_eprom → length e ≤ counter_after mode k bs
  pub far : a.fetched.answer.number ≡ bad_jump → (jumps_in bs ≡ true) × (last_count < address_in bs)
  pub keeps_going : a.fetched.answer.number ≡ more → 0 < length bs → a.fetched.fetcher ≡ kept_after mode k bs
  pub past : a.fetched.answer.number ≡ past_eprom → 0 < length bs → a.fetched.fetcher ≡ kept_after mode k bs
  pub over : a.fetched.answer.number ≢ more → a.fetched.answer.number ≢ past_eprom
      → a.fetched.fetcher ≡ end_after mode k bs a.fetched.answer.number

-- a write or a check, started afresh
abbrev pub CounterAsSaid : Loader → Type 0
CounterAsSaid l = (c : Chain) (f : Fetcher) (m e : List ℕ) (mode check n : ℕ) → Idle c m → fetches mode ≡ true → Lendable f → Bytes e
    → let d = (l.start c m mode check).chain in
    AsSaid mode f.counter n e (bytes_fetched e n (lent d m f)) (l.fetch d f m e n)
