-- A fetch of n bytes, byte by byte: where it stops, and what the byte there gives. Assumes nothing.
use Prim.Native.Nat.{ℕ, suc, ◌+◌, ◌-◌, ◌≤◌}
use mathlib.Core.Bool.{false}
use mathlib.Core.Logic.{◌≢◌}
use mathlib.Core.Path.{◌≡◌, sym, ap, ◌∙◌}
use mathlib.Core.List.{List}
use native.Mathlib.Numerals.{add-one}
use native.Mathlib.Omega.{arith}
use borrow.Author.Tests.{eq-eqb, ne_eqb, leb-false}
use lib.Dec.{leb}
use lib.ListN.{length}
use Rattle.chain.specs.declared.Chain.{Chain}
use Rattle.chain.specs.Paper.{done, more, past_eprom, bad_jump}
use Rattle.chain.specs.Rules.{pick}
use Rattle.chain.proofs.ByCases.{by_test, by_eq}
use Rattle.chain.proofs.FirstOf.{first_never}
use Rattle.awaited.specs.Byte.{number_of}
use Rattle.machine.specs.Run.{Run, run, ended, step_of}
use Rattle.machine.proofs.Runs.{step_number, step_went}
use Rattle.eprom.specs.declared.Fetcher.{Fetcher}
use Rattle.eprom.specs.declared.Fetched.{Fetched}
use Rattle.eprom.specs.Kept.{astray, onward, fetcher_at_end}
use Rattle.eprom.specs.Fetch.{Fetching, fetching, fed_with, took_of, at_counter, fetch_one, on_fetch, fetch_all}
use Rattle.eprom.specs.Calls.{fetch_rules, fetch_number, unfetched, fetched_of, lent, fetch_of, fetch_memory}
use Rattle.eprom.proofs.Turns.{fetch_over, fetch_none, later, comes_past, comes_strays, comes_ends, comes_goes}
use Rattle.eprom.proofs.Parts.{fetch_sum}
use Rattle.eprom.proofs.Again.{fetch_runs}
use Rattle.demands.specs.Loader.{AfterFetch}
use Rattle.demands.specs.Ours.{ours}

-- ---- one byte more

-- what a byte gives: 18, 19, or its own number
abbrev pub next_number : List ℕ → Fetching → ℕ
next_number e x =
    pick (leb (length e) x.fetcher.counter) past_eprom
    (pick (astray x.run.chain.place x.fetcher) bad_jump (number_of x.run.chain (at_counter e x)))

pub next_number_lem : (e : List ℕ) (x : Fetching) → x.run.number ≡ more → (on_fetch e x).run.number ≡ next_number e x
unfolding fetch_one took_of fed_with
next_number_lem e x h =
    rw (eq-eqb x.run.number more h)
    (by_test (leb (length e) x.fetcher.counter) (λ p. rw p)
    (λ p.
    rw p
    (by_test (astray x.run.chain.place x.fetcher) (λ q. rw q)
    (λ q. rw q (step_number x.run.chain x.run.memory (at_counter e x))))))

-- an open run x
module _ (e : List ℕ) (x : Fetching) (h : x.run.number ≡ more) where
  abbrev c : Chain
  c = x.run.chain

  abbrev m : List ℕ
  m = x.run.memory

  abbrev f : Fetcher
  f = x.fetcher

  abbrev b : ℕ
  b = at_counter e x

  one : on_fetch e x ≡ fetch_all e 1 (lent c m f)
  unfolding fetch_all
  one = ap (λ (n : ℕ). on_fetch e (fetching (run c m n) f)) h

  -- with 18 all is as it was
  pub past_kept : length e ≤ f.counter → on_fetch e x ≡ fetching (run c m past_eprom) f
  past_kept l = one ∙ (comes_past e 0 c m f l).0

  -- a byte with which the run goes on was there, and was fed
  pub on-kept : next_number e x ≡ more → on_fetch e x ≡ fetching (step_of c m b) (onward c.place f b)
  on-kept n =
      by_test (leb (length e) f.counter) (λ p. let i : past_eprom ≡ more = rw p at n in absurd (omega (arith, i)))
      (λ p.
      by_test (astray c.place f) (λ q. let i : bad_jump ≡ more = rw (p, q) at n in absurd (omega (arith, i)))
      (λ q.
      let g : number_of c b ≡ more = rw (p, q) at n in
      one ∙ (comes_goes e 0 c m f (record { there = leb-false (length e) f.counter p; straight = q }) g).0 ∙ fetch_none e (later e 0 c m f)
      ∙ ap (λ (r : Run). fetching r (onward c.place f b)) (sym (step_went c m b g))))

  -- a byte that is there and ends the run changes no cell and no register, and nothing is kept but the counter
  pub over-kept : leb (length e) f.counter ≡ false → next_number e x ≢ more
      → on_fetch e x ≡ fetching (run (ended c) m (next_number e x)) (fetcher_at_end c.place f b)
  over-kept p n =
      let there = leb-false (length e) f.counter p in
      one
      ∙ by_test (astray c.place f) (λ q. rw (p, q) (comes_strays e 0 c m f there q).0)
      (λ q. rw (p, q) (comes_ends e 0 c m f (record { there = there; straight = q }) (λ i. n (rw (p, q) i))).0)

-- ---- a call: refused before it looks at a byte, or a run

-- a run as a fetch leaves it
abbrev pub came : Fetching → AfterFetch
came x = record { fetched = fetched_of x; memory = x.run.memory }

-- the chain that a run leaves which stays open
module _ (x : Fetching) where
  pub came-more : x.run.number ≡ more → (came x).fetched.chain ≡ x.run.chain
  unfolding fetched_of
  came-more h = rw h

  pub came_past : x.run.number ≡ past_eprom → (came x).fetched.chain ≡ x.run.chain
  unfolding fetched_of
  came_past h = rw h

module _ (c : Chain) (f : Fetcher) (m e : List ℕ) where
  pub fetch_off : (n : ℕ) → fetch_number c f (length m) ≢ done → fetch_of c f m e n ≡ unfetched c f (fetch_number c f (length m))
  unfolding fetch_of
  fetch_off n z = rw (ne_eqb (fetch_number c f (length m)) done z)

  pub memory_off : (n : ℕ) → fetch_number c f (length m) ≢ done → fetch_memory c f m e n ≡ m
  unfolding fetch_memory
  memory_off n z = rw (ne_eqb (fetch_number c f (length m)) done z)

  pub number_off : (n : ℕ) → fetch_number c f (length m) ≢ done → (fetch_of c f m e n).answer.number ≡ fetch_number c f (length m)
  unfolding unfetched
  number_off n z = ap (λ (r : Fetched). r.answer.number) (fetch_off n z)

  -- 1, 17, 4 and 2 are neither 16 nor 18: what gives one of these was not refused
  never_more : fetch_number c f (length m) ≢ more
  unfolding fetch_number
  never_more = first_never (fetch_rules c f (length m)) done more (λ i. omega arith) tt

  never_past : fetch_number c f (length m) ≢ past_eprom
  unfolding fetch_number
  never_past = first_never (fetch_rules c f (length m)) done past_eprom (λ i. omega arith) tt

  pub more-fetches : (n : ℕ) → (fetch_of c f m e n).answer.number ≡ more → fetch_number c f (length m) ≡ done
  more-fetches n h = by_eq (fetch_number c f (length m)) done (λ z. z) (λ z. absurd (never_more (sym (number_off n z) ∙ h)))

  pub past_fetches : (n : ℕ) → (fetch_of c f m e n).answer.number ≡ past_eprom → fetch_number c f (length m) ≡ done
  past_fetches n h = by_eq (fetch_number c f (length m)) done (λ z. z) (λ z. absurd (never_past (sym (number_off n z) ∙ h)))

  -- of a fetch that is not refused, by the bytes fetched
  module _ (z : fetch_number c f (length m) ≡ done) where
    abbrev pub at : ℕ → Fetching
    at k = fetch_all e k (lent c m f)

    pub fetch_is : (k : ℕ) → ours.fetch c f m e k ≡ came (at k)
    fetch_is k = let t = fetch_runs c f m e k z in rw (t.0, t.1)

    pub number_at : (k : ℕ) → (fetch_of c f m e k).answer.number ≡ (at k).run.number
    unfolding fetched_of
    number_at k = ap (λ (a : AfterFetch). a.fetched.answer.number) (fetch_is k)

    pub chain-at : (k : ℕ) → (at k).run.number ≡ more → (fetch_of c f m e k).chain ≡ (at k).run.chain
    chain-at k h = ap (λ (a : AfterFetch). a.fetched.chain) (fetch_is k) ∙ came-more (at k) h

    pub fetcher_at_lem : (k : ℕ) → (fetch_of c f m e k).fetcher ≡ (at k).fetcher
    unfolding fetched_of
    fetcher_at_lem k = ap (λ (a : AfterFetch). a.fetched.fetcher) (fetch_is k)

    pub at_suc : (k : ℕ) → at (suc k) ≡ on_fetch e (at k)
    unfolding fetch_all
    at_suc k = ap at (sym (add-one k)) ∙ fetch_sum e k 1 (lent c m f)

    pub number-next : (k : ℕ) → (at k).run.number ≡ more → (at (suc k)).run.number ≡ next_number e (at k)
    number-next k h = ap (λ (x : Fetching). x.run.number) (at_suc k) ∙ next_number_lem e (at k) h

    -- what did not give 16 stays
    pub settled : (k n : ℕ) → k ≤ n → (at k).run.number ≢ more → at n ≡ at k
    settled k n l h =
        let i : n ≡ k + (n - k) = omega arith in
        ap at i ∙ fetch_sum e k (n - k) (lent c m f) ∙ fetch_over e (at k) h (n - k)

    -- and what gave 16 gave 16 before
    pub earlier : (j k : ℕ) → j ≤ k → (at k).run.number ≡ more → (at j).run.number ≡ more
    earlier j k l h =
        by_eq (at j).run.number more (λ i. i) (λ i. absurd (i (ap (λ (x : Fetching). x.run.number) (sym (settled j k l i)) ∙ h)))
