-- One byte of a fetched run, by cases: past the EPROM, a jump astray, a byte that ends the run, or one after which it goes on. Assumes nothing.
use Rattle.std.proofs.Common.{◌≡◌, ℕ, zero, suc, ◌<◌, ◌≤◌, true, false, eqb, leb, List, [], ◌∷◌, length, get_or, refl, arith, ne_eqb, eqb-true, le-leb, leb-false, leb-true}
use borrow.Author.Tests.{eqb-false, lt-leb}
use Rattle.chain.specs.declared.Chain.{Chain}
use Rattle.chain.specs.Paper.{more, past_eprom, bad_jump}
use Rattle.chain.proofs.ByCases.{by_test}
use Rattle.awaited.specs.Byte.{number_of}
use Rattle.machine.specs.Run.{memory_of, ended, run, went_on}
use Rattle.machine.proofs.Runs.{step_went, step_ended}
use Rattle.eprom.specs.declared.Fetcher.{Fetcher}
use Rattle.eprom.specs.Kept.{astray, onward, fetcher_at_end}
use Rattle.eprom.specs.Fetch.{Fetching, fetching, fed_with, took_of, fetch_one, fetch_all, bytes_fetched}
use Rattle.eprom.specs.Calls.{lent}

-- ---- no byte

module _ (e : List ℕ) (x : Fetching) where
  pub fetch_none : fetch_all e 0 x ≡ x
  unfolding fetch_all
  fetch_none = refl

  pub bytes-none : bytes_fetched e 0 x ≡ []
  unfolding bytes_fetched
  bytes-none = refl

-- ---- a run that is over fetches nothing

module _ (e : List ℕ) (x : Fetching) (h : x.run.number ≡ more → ⊥) where
  pub fetch_over : (n : ℕ) → fetch_all e n x ≡ x
  unfolding fetch_all
  fetch_over zero = refl
  fetch_over (suc n) = rw (ne_eqb x.run.number more h) (fetch_over n)

  pub bytes-over : (n : ℕ) → bytes_fetched e n x ≡ []
  unfolding bytes_fetched
  bytes-over zero = refl
  bytes-over (suc n) = rw (ne_eqb x.run.number more h)

-- ---- an open one

-- the byte that the counter is at
abbrev pub byte_at : List ℕ → Fetcher → ℕ
byte_at e f = get_or e f.counter 0

-- there is one, and its jump is not astray
pub record Straight (e : List ℕ) (c : Chain) (f : Fetcher) : Type 0 where
  pub there : f.counter < length e
  pub straight : astray c.place f ≡ false

pub by_turn {ℓ} : {P : Type ℓ} (e : List ℕ) (c : Chain) (f : Fetcher) → (length e ≤ f.counter → P) → (f.counter < length e → astray c.place f ≡ true → P)
    → (Straight e c f → (number_of c (byte_at e f) ≡ more → ⊥) → P) → (Straight e c f → number_of c (byte_at e f) ≡ more → P) → P
by_turn e c f past strays ends goes =
    by_test (leb (length e) f.counter) (λ l. past (leb-true (length e) f.counter l))
    (λ l.
    let t = leb-false (length e) f.counter l in
    by_test (astray c.place f) (λ a. strays t a)
    (λ a.
    let s : Straight e c f = record { there = t; straight = a } in
    by_test (eqb (number_of c (byte_at e f)) more) (λ g. goes s (eqb-true (number_of c (byte_at e f)) more g))
    (λ g. ends s (eqb-false (number_of c (byte_at e f)) more g))))

-- after the byte b
module _ (c : Chain) (m : List ℕ) (f : Fetcher) where
  pub took_strays : astray c.place f ≡ true → (b : ℕ) → took_of (lent c m f) b ≡ fetching (run (ended c) m bad_jump) (fetcher_at_end c.place f b)
  unfolding took_of fed_with
  took_strays a b = rw a

  pub took-ends : astray c.place f ≡ false → (b : ℕ) → (number_of c b ≡ more → ⊥)
      → took_of (lent c m f) b ≡ fetching (run (ended c) m (number_of c b)) (fetcher_at_end c.place f b)
  unfolding took_of fed_with
  took-ends a b g = rw (a, step_ended c m b g, ne_eqb (number_of c b) more g)

  pub took_goes : astray c.place f ≡ false → (b : ℕ) → number_of c b ≡ more → took_of (lent c m f) b ≡ lent (went_on c m b) (memory_of c m b) (onward c.place f b)
  unfolding took_of fed_with
  took_goes a b g = rw (a, step_went c m b g)

module _ (e : List ℕ) (n : ℕ) (c : Chain) (m : List ℕ) (f : Fetcher) where
  -- what n + 1 bytes come to, and the bytes that were fetched
  abbrev Comes : Fetching → List ℕ → Type 0
  Comes x bs = (fetch_all e (suc n) (lent c m f) ≡ x) × (bytes_fetched e (suc n) (lent c m f) ≡ bs)

  pub comes_past : length e ≤ f.counter → Comes (fetching (run c m past_eprom) f) []
  unfolding fetch_all bytes_fetched fetch_one
  comes_past l =
      let t = le-leb (length e) f.counter l in
      (rw t (fetch_over e (fetching (run c m past_eprom) f) (λ q. omega arith) n), rw t)

  -- the byte is there
  pub comes_there : f.counter < length e → Comes (fetch_all e n (took_of (lent c m f) (byte_at e f))) (byte_at e f ∷ bytes_fetched e n (took_of (lent c m f) (byte_at e f)))
  unfolding fetch_all bytes_fetched fetch_one
  comes_there l = let t = lt-leb (length e) f.counter l in (rw t, rw t)

  pub comes_strays : f.counter < length e → astray c.place f ≡ true
      → Comes (fetching (run (ended c) m bad_jump) (fetcher_at_end c.place f (byte_at e f))) (byte_at e f ∷ [])
  comes_strays l a =
      let x : Fetching = fetching (run (ended c) m bad_jump) (fetcher_at_end c.place f (byte_at e f)) in
      rw ((comes_there l).0, (comes_there l).1, took_strays c m f a (byte_at e f)) (fetch_over e x (λ q. omega arith) n, rw (bytes-over e x (λ q. omega arith) n))

  pub comes_ends : Straight e c f → (number_of c (byte_at e f) ≡ more → ⊥)
      → Comes (fetching (run (ended c) m (number_of c (byte_at e f))) (fetcher_at_end c.place f (byte_at e f))) (byte_at e f ∷ [])
  comes_ends s g =
      let x : Fetching = fetching (run (ended c) m (number_of c (byte_at e f))) (fetcher_at_end c.place f (byte_at e f)) in
      rw ((comes_there s.there).0, (comes_there s.there).1, took-ends c m f s.straight (byte_at e f) g) (fetch_over e x g n, rw (bytes-over e x g n))

  -- where the run goes on: the same fetching, one byte later
  abbrev pub later : Fetching
  later = lent (went_on c m (byte_at e f)) (memory_of c m (byte_at e f)) (onward c.place f (byte_at e f))

  pub comes_goes : Straight e c f → number_of c (byte_at e f) ≡ more → Comes (fetch_all e n later) (byte_at e f ∷ bytes_fetched e n later)
  comes_goes s g = rw ((comes_there s.there).0, (comes_there s.there).1, took_goes c m f s.straight (byte_at e f) g) (refl, refl)
