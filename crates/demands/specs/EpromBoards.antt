-- Document 02, wish 1: boards that boot from an EPROM, as predicates over a loader. A fetched run is the machine fed with its bytes, cut in any way; and
-- the third demand of a fetched stream. Assumes nothing.
use Rattle.std.specs.Prelude.{ℕ, ◌+◌, ◌≤◌, ◌<◌, true, ◌≢◌, ◌≡◌, List, [], ◌∷◌, ◌++◌, length, take}
use Rattle.chain.specs.declared.Chain.{Chain}
use Rattle.chain.specs.Paper.{writing, done, more, past_eprom, bad_jump}
use Rattle.chain.specs.Set.{with_place, closed_place}
use Rattle.chain.specs.Bytes.{Bytes}
use Rattle.machine.specs.Calls.{Start, Slice}
use Rattle.closing.specs.Calls.{Closing}
use Rattle.grammar.specs.Fits.{Reading, meant, Clear}
use Rattle.grammar.specs.Sent.{Sent}
use Rattle.eprom.specs.declared.Fetcher.{Fetcher}
use Rattle.eprom.specs.Counter.{fetches, last_count}
use Rattle.eprom.specs.Fetch.{bytes_fetched}
use Rattle.eprom.specs.Calls.{lent, Fetch}
use Rattle.demands.specs.Loader.{Loader, AfterSlice, AfterFetch, offered, Idle, Open}
use Rattle.demands.specs.Demand2.{slices, joined}
use Rattle.demands.specs.Demand3.{load, Whole, Stopped, closing_at}

-- fetch keeps its promise
abbrev pub KeepsFetch : Loader → Type 0
KeepsFetch l = (c : Chain) (f : Fetcher) (m e : List ℕ) (n : ℕ) → Fetch c f m e n (l.fetch c f m e n).fetched (l.fetch c f m e n).memory

-- and so do the other calls that a boot, a stop and its fresh start take
pub record KeepsCalls (l : Loader) : Type 0 where
  pub start : (c : Chain) (m : List ℕ) (mode check : ℕ) → Start c m mode check (l.start c m mode check)
  pub slice : (c : Chain) (m s : List ℕ) → Slice c m s (l.slice c m s).fed (l.slice c m s).memory
  pub closing : (c : Chain) (m out : List ℕ) → Closing c m out (l.closing c m out).written (l.closing c m out).out
  pub fetch : KeepsFetch l

-- a fetcher that 17 does not refuse, of bytes, as its type in the code says
pub record Lendable (f : Fetcher) : Type 0 where
  pub counter : f.counter ≤ last_count
  pub control : f.control < 256
  pub address : Bytes f.address
  pub address_three : length f.address ≡ 3
  pub nulled : f.nulled < 256

-- what a slice would have handed back
abbrev pub as_slice : AfterFetch → AfterSlice
as_slice a = record { fed = record { chain = a.fetched.chain; answer = a.fetched.answer }; memory = a.memory }

-- ---- 'A fetched run equals the machine fed with its bytes, 19 apart'

-- a was fetched, and s is what the same bytes leave, fed as one slice. 18 is 16 there: no byte was taken, the run stays open. 19 is 16 too, and the run
-- is then dropped: the null byte counts as taken and closes it
pub record AsFed (a : AfterFetch) (s : AfterSlice) : Type 0 where
  pub memory : a.memory ≡ s.memory
  pub taken : a.fetched.answer.taken ≡ s.fed.answer.taken
  pub mismatches : a.fetched.answer.mismatches ≡ s.fed.answer.mismatches
  pub number : a.fetched.answer.number ≢ past_eprom → a.fetched.answer.number ≢ bad_jump → a.fetched.answer.number ≡ s.fed.answer.number
  pub past : a.fetched.answer.number ≡ past_eprom → s.fed.answer.number ≡ more
  pub chain : a.fetched.answer.number ≢ bad_jump → a.fetched.chain ≡ s.fed.chain
  pub jump : a.fetched.answer.number ≡ bad_jump → s.fed.answer.number ≡ more
  pub jump_chain : a.fetched.answer.number ≡ bad_jump → a.fetched.chain ≡ with_place s.fed.chain closed_place

abbrev pub FetchedAsFed : Loader → Type 0
FetchedAsFed l = (c : Chain) (f : Fetcher) (m e : List ℕ) (n : ℕ) → Open c m → fetches c.place.mode ≡ true → Lendable f → Bytes e
    → AsFed (l.fetch c f m e n) (l.slice c m (bytes_fetched e n (lent c m f)))

-- ---- a run may be fetched in parts, with a pause between any two bytes

-- fetches of so many bytes each, one after another, and one more; each is lent the state, the fetcher and the memory that the last one left
abbrev pub fetched : Loader → Chain → Fetcher → List ℕ → List ℕ → List ℕ → ℕ → AfterFetch
fetched l c f m e [] last = l.fetch c f m e last
fetched l c f m e (n ∷ ns) last =
    let a = l.fetch c f m e n in
    fetched l a.fetched.chain a.fetched.fetcher a.memory e ns last

abbrev pub total : List ℕ → ℕ
total [] = 0
total (n ∷ ns) = n + total ns

-- as long as the first goes on, two are one
abbrev pub InParts : Loader → Type 0
InParts l = (c : Chain) (f : Fetcher) (m e : List ℕ) (n k : ℕ) → Open c m → fetches c.place.mode ≡ true → Lendable f → Bytes e
    → (l.fetch c f m e n).fetched.answer.number ≡ more → l.fetch c f m e (n + k) ≡ fetched l c f m e (n ∷ []) k

-- 18 stops a run for want of bytes alone: where more stand behind those that there were, it goes on as if they had stood there before
abbrev pub GoesOn : Loader → Type 0
GoesOn l = (c : Chain) (f : Fetcher) (m e d : List ℕ) (n k : ℕ) → Open c m → fetches c.place.mode ≡ true → Lendable f → Bytes (e ++ d)
    → (l.fetch c f m e n).fetched.answer.number ≡ past_eprom
    → let a = l.fetch c f m e n in
    let t = length (bytes_fetched e n (lent c m f)) in
    l.fetch a.fetched.chain a.fetched.fetcher a.memory (e ++ d) k ≡ l.fetch c f m (e ++ d) (t + k)

-- ---- demand 3 of a fetched stream

-- a write started afresh, its bytes fetched
abbrev pub boot : Loader → ℕ → Chain → Fetcher → List ℕ → List ℕ → ℕ → AfterFetch
boot l mode c f m e n = l.fetch (l.start c m mode writing).chain f m e n

-- and the bytes that it fetches
abbrev pub booted : Loader → ℕ → Chain → Fetcher → List ℕ → List ℕ → ℕ → List ℕ
booted l mode c f m e n = bytes_fetched e n (lent (l.start c m mode writing).chain m f)

-- the EPROM holds, from that counter on, a stream that loads whole as a write and ends at its postamble
pub record Boots (l : Loader) (mode : ℕ) (c : Chain) (f : Fetcher) (m e : List ℕ) (n : ℕ) : Type 0 where
  pub started : (l.start c m mode writing).number ≡ done
  pub number : (boot l mode c f m e n).fetched.answer.number ≡ done

-- b is what the same EPROM leaves, fetched by a fresh start: memories, registers and fetcher, its counter too, of the unbroken fetch u
pub record SameBoot (u b : AfterFetch) : Type 0 where
  pub number : b.fetched.answer.number ≡ done
  pub cells : b.memory ≡ u.memory
  pub registers : b.fetched.chain.registers ≡ u.fetched.chain.registers
  pub fetcher : b.fetched.fetcher ≡ u.fetched.fetcher

-- a stop s of the fetched stream bs: as a stop of the same stream fed directly; and once the closing bytes were fed directly, cut in any way, the same stream
-- started afresh, whatever the fetcher kept, lent the counter that the stopped run began with
pub record BootStopped (l : Loader) (mode : ℕ) (bs : List ℕ) (c : Chain) (f : Fetcher) (m e : List ℕ) (n : ℕ) (front : List Sent)
    (s : AfterFetch) : Type 0 where
  pub stopped : Stopped l mode bs c m front (as_slice s)
  pub again : (out : List ℕ) → (closing_at l (as_slice s) out).written.number ≡ done
      → (ps : List (List ℕ)) (b : ℕ) (last : List ℕ) → joined ps ++ (b ∷ last) ≡ offered (closing_at l (as_slice s) out)
      → (g : Fetcher) → Lendable g → g.counter ≡ f.counter
      → let t = slices l s.fetched.chain s.memory ps (b ∷ last) in
      Boots l mode t.fed.chain g t.memory e n
      × SameBoot (boot l mode c f m e n) (boot l mode t.fed.chain g t.memory e n)
      × (booted l mode t.fed.chain g t.memory e n ≡ bs)

-- such a stream is one of demand 3, loaded as if it were fed directly; and every stop, 0 bytes included and however many calls fetched those bytes, is as
-- the paper says
pub record BootHeld (l : Loader) (mode : ℕ) (bs : List ℕ) (c : Chain) (f : Fetcher) (m e : List ℕ) (n : ℕ) : Type 0 where
  pub whole : Whole l mode bs c m
  pub reading : Reading c mode bs
  pub cells : (boot l mode c f m e n).memory ≡ (load l mode c m bs).memory
  pub registers : (boot l mode c f m e n).fetched.chain.registers ≡ (load l mode c m bs).fed.chain.registers
  pub stops : (x : Reading c mode bs) → Clear x.first x.others → (k : ℕ) → k < length bs
      → (ns : List ℕ) (last : ℕ) → total ns + last ≡ k
      → BootStopped l mode bs c f m e n (take k (meant x)) (fetched l (l.start c m mode writing).chain f m e ns last)

abbrev pub BootsHold : Loader → Type 0
BootsHold l = (c : Chain) (f : Fetcher) (m e : List ℕ) (mode n : ℕ) → Idle c m → fetches mode ≡ true → Lendable f → Bytes e
    → Boots l mode c f m e n → BootHeld l mode (booted l mode c f m e n) c f m e n
