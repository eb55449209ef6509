-- Document 02, wish 1, for demand 1: the numbers of a fetch, each exactly when, and what it leaves with each, as predicates over a loader. Assumes nothing.
use Rattle.std.specs.Prelude.{ℕ, suc, ◌+◌, ◌%◌, ◌^◌, ◌<◌, ◌≤◌, true, false, ◌⊎◌, ◌≢◌, ◌≡◌, List, [], ◌∷◌, ◌++◌, length, get_or}
use Rattle.chain.specs.declared.Chain.{Chain}
use Rattle.chain.specs.Paper.{at_null, closed, first_mode, downward, eprom_internal, most_devices, bad_chain, bad_mode, no_run, more, ill_formed, past_eprom, bad_jump, bit1, B0}
use Rattle.chain.specs.Set.{with_place, closed_place}
use Rattle.chain.specs.Bytes.{Bytes}
use Rattle.chain.specs.WellFormed.{Sets, BadChain, IllFormed}
use Rattle.chain.specs.Table.{Claim, ◌when◌, NoneOf, Table}
use Rattle.machine.specs.Run.{step_of}
use Rattle.eprom.specs.declared.Fetcher.{Fetcher}
use Rattle.eprom.specs.Counter.{last_count, home_of, next_of}
use Rattle.eprom.specs.Kept.{with_counter, fetcher_at, not_yet, kept_of, external_of}
use Rattle.demands.specs.Loader.{Loader, AfterFetch}
use Rattle.demands.specs.ByteTable.{Awaits, byte_claims, claims_of}

-- ---- before a byte is looked at

-- 1; 17 for the state or a lent counter above 1FFFF; 4
abbrev pub lent_table : Chain → Fetcher → List ℕ → List Claim → List Claim
lent_table c f m claims =
    (bad_chain when BadChain c.count c.kinds (length m))
    ∷ (ill_formed when (IllFormed c ⊎ (last_count < f.counter)))
    ∷ (no_run when c.place.running ≡ closed)
    ∷ claims

-- 2: any other mode than 1, 2 and 5
abbrev pub NoEprom : Chain → Type 0
NoEprom c = (c.place.mode ≢ first_mode) × (c.place.mode ≢ downward) × (c.place.mode ≢ eprom_internal)

-- none of these: bytes are fetched
abbrev pub Fetchable : Chain → Fetcher → List ℕ → Type 0
Fetchable c f m = NoneOf (lent_table c f m ((bad_mode when NoEprom c) ∷ []))

-- ---- byte by byte, a being what the bytes before it left

-- 18: the counter is not below the EPROM's length
abbrev pub Eighteen : List ℕ → AfterFetch → Type 0
Eighteen e a = length e ≤ a.fetched.fetcher.counter

-- the byte that the counter is at
abbrev pub byte_next : List ℕ → AfterFetch → ℕ
byte_next e a = get_or e a.fetched.fetcher.counter 0

-- it is there, and meets the condition P of a byte's own number
abbrev pub Own : (Chain → ℕ → Type 0) → List ℕ → AfterFetch → Type 0
Own P e a = (a.fetched.fetcher.counter < length e) × P a.fetched.chain (byte_next e a)

-- the run awaits the first null byte of the first device's section, whose control byte set B1: the counter jumps
abbrev pub Jump : Chain → Fetcher → Type 0
Jump c f = (c.place.device ≡ 0) × Awaits c at_null × (f.nulled ≡ not_yet) × Sets bit1 f.control

-- and the external address is above 1FFFF
abbrev pub BadJump : Chain → Fetcher → Type 0
BadJump c f = Jump c f × (last_count < external_of f)

-- 19, at that null byte
abbrev pub Nineteen : List ℕ → AfterFetch → Type 0
Nineteen e a = (a.fetched.fetcher.counter < length e) × BadJump a.fetched.chain a.fetched.fetcher

-- ---- the numbers

abbrev pub fetch_number_of : Loader → Chain → Fetcher → List ℕ → List ℕ → ℕ → ℕ
fetch_number_of l c f m e n = (l.fetch c f m e n).fetched.answer.number

-- at some byte k of the n: the k bytes before it gave 16, and the condition P holds there
pub record AtFetched (l : Loader) (c : Chain) (f : Fetcher) (m e : List ℕ) (n : ℕ) (P : List ℕ → AfterFetch → Type 0) : Type 0 where
  pub k : ℕ
  pub there : k < n
  pub before : fetch_number_of l c f m e k ≡ more
  pub holds : P e (l.fetch c f m e k)

-- 1, 17, 4, 2, then byte by byte 18, the byte's own, 19
abbrev pub fetch_table : Loader → Chain → Fetcher → List ℕ → List ℕ → ℕ → List Claim
fetch_table l c f m e n =
    let At = AtFetched l c f m e n in
    lent_table c f m
    ((bad_mode when NoEprom c)
    ∷ (past_eprom when At Eighteen)
    ∷ claims_of (λ P. At (Own P)) byte_claims ++ ((bad_jump when At Nineteen) ∷ []))

-- 16 where none holds: n bytes were taken, and the run goes on
abbrev pub FetchNumbers : Loader → Type 0
FetchNumbers l = (c : Chain) (f : Fetcher) (m e : List ℕ) (n : ℕ) → Table (fetch_number_of l c f m e n) (fetch_table l c f m e n) more

-- ---- what is left

-- all as lent, with those counts
pub record FetchAsLent (c : Chain) (f : Fetcher) (m : List ℕ) (taken mismatches : ℕ) (a : AfterFetch) : Type 0 where
  pub chain : a.fetched.chain ≡ c
  pub memory : a.memory ≡ m
  pub fetcher : a.fetched.fetcher ≡ f
  pub taken_so_far : a.fetched.answer.taken ≡ taken
  pub mismatches_so_far : a.fetched.answer.mismatches ≡ mismatches

-- b is what the bytes before left, and a what one more left, with which the run goes on: it was fed to the machine. The counter steps up by one, in mode 2
-- down, or takes the external address; what is kept is the first device's control byte and address, and whether its first null byte was taken
pub record FetchOn (e : List ℕ) (b a : AfterFetch) : Type 0 where
  pub chain : a.fetched.chain ≡ (step_of b.fetched.chain b.memory (byte_next e b)).chain
  pub memory : a.memory ≡ (step_of b.fetched.chain b.memory (byte_next e b)).memory
  pub taken : a.fetched.answer.taken ≡ a.fetched.chain.place.taken
  pub mismatches : a.fetched.answer.mismatches ≡ a.fetched.chain.place.mismatches
  pub steps : (Jump b.fetched.chain b.fetched.fetcher → ⊥)
      → a.fetched.fetcher.counter ≡ next_of b.fetched.chain.place.mode b.fetched.fetcher.counter
  pub jumps : Jump b.fetched.chain b.fetched.fetcher → a.fetched.fetcher.counter ≡ external_of b.fetched.fetcher
  pub kept : a.fetched.fetcher
      ≡ with_counter (kept_of b.fetched.chain.place b.fetched.fetcher (byte_next e b)) a.fetched.fetcher.counter

-- b is what the bytes before left, and a what one more left, which ended the run: as any byte that ends one it counts as taken, closes the run and changes
-- no cell and no register. Nothing is kept but the counter; B0 of the first device's control byte, if that was taken, decides about it: 'clear resets the
-- counter for that run's mode, set keeps its next value'
pub record FetchEnded (e : List ℕ) (b a : AfterFetch) : Type 0 where
  pub chain : a.fetched.chain ≡ with_place b.fetched.chain closed_place
  pub memory : a.memory ≡ b.memory
  pub taken_one_more : a.fetched.answer.taken ≡ (b.fetched.answer.taken + 1) % 2 ^ 32
  pub mismatches_kept : a.fetched.answer.mismatches ≡ b.fetched.answer.mismatches % 2 ^ 32
  pub kept_nothing : a.fetched.fetcher ≡ fetcher_at a.fetched.fetcher.counter
  pub clear : B0 (kept_of b.fetched.chain.place b.fetched.fetcher (byte_next e b)).control ≡ false
      → a.fetched.fetcher.counter ≡ home_of b.fetched.chain.place.mode
  pub set : B0 (kept_of b.fetched.chain.place b.fetched.fetcher (byte_next e b)).control ≡ true
      → a.fetched.fetcher.counter ≡ next_of b.fetched.chain.place.mode b.fetched.fetcher.counter

pub record FetchLeaves (l : Loader) : Type 0 where
  -- 1, 17, 4: the counts are 0 and 0
  pub lent : (c : Chain) (f : Fetcher) (m e : List ℕ) (n : ℕ) → (NoneOf (lent_table c f m []) → ⊥) → FetchAsLent c f m 0 0 (l.fetch c f m e n)
  -- 2: the run's so far
  pub mode : (c : Chain) (f : Fetcher) (m e : List ℕ) (n : ℕ) → NoneOf (lent_table c f m []) → NoEprom c
      → FetchAsLent c f m c.place.taken c.place.mismatches (l.fetch c f m e n)
  -- 16: with no bytes asked for all is as lent, and with one more the run goes on
  pub none : (c : Chain) (f : Fetcher) (m e : List ℕ) → fetch_number_of l c f m e 0 ≡ more
      → FetchAsLent c f m c.place.taken c.place.mismatches (l.fetch c f m e 0)
  pub on : (c : Chain) (f : Fetcher) (m e : List ℕ) (k : ℕ) → fetch_number_of l c f m e (suc k) ≡ more → FetchOn e (l.fetch c f m e k) (l.fetch c f m e (suc k))
  -- 18: 'no byte is taken, the run stays open': all is as after the bytes before
  pub past : (c : Chain) (f : Fetcher) (m e : List ℕ) (n k : ℕ) → k < n → fetch_number_of l c f m e k ≡ more → Eighteen e (l.fetch c f m e k)
      → let b = l.fetch c f m e k in
      FetchAsLent b.fetched.chain b.fetched.fetcher b.memory b.fetched.answer.taken b.fetched.answer.mismatches (l.fetch c f m e n)
  -- 16 and 18 leave the run open: the next fetch takes what they leave. That bytes are below 256, and registers eight, the types say
  pub still_open : (c : Chain) (f : Fetcher) (m e : List ℕ) (n : ℕ) → Bytes e → length c.registers ≡ most_devices
      → (fetch_number_of l c f m e n ≡ more) ⊎ (fetch_number_of l c f m e n ≡ past_eprom)
      → let a = l.fetch c f m e n in
      Fetchable a.fetched.chain a.fetched.fetcher a.memory
  -- any other number than 16 and 18, 19 among them
  pub over : (c : Chain) (f : Fetcher) (m e : List ℕ) (n k : ℕ) → k < n → fetch_number_of l c f m e k ≡ more → fetch_number_of l c f m e (suc k) ≢ more
      → fetch_number_of l c f m e (suc k) ≢ past_eprom → FetchEnded e (l.fetch c f m e k) (l.fetch c f m e n)
