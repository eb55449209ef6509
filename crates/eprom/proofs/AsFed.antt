-- A fetched run is the machine fed with its bytes: 18 is 16 there, and 19 is 16 too, at a null byte. Assumes nothing.
use Rattle.std.proofs.Common.{◌≡◌, ℕ, zero, suc, List, [], refl, arith}
use mathlib.Core.Bool.{and-false}
use Rattle.chain.specs.declared.Chain.{Chain}
use Rattle.chain.specs.Paper.{at_null, at_start, more, past_eprom, bad_jump}
use Rattle.chain.specs.Set.{with_awaited, with_place}
use Rattle.awaited.specs.Byte.{number_of, advance_of}
use Rattle.machine.specs.Run.{memory_of, registers_of, missed_of, counted, ended, Run, run, went_on, run_of}
use Rattle.machine.proofs.Runs.{run_went, run-ended}
use Rattle.eprom.specs.declared.Fetcher.{Fetcher}
use Rattle.eprom.specs.Kept.{onward}
use Rattle.eprom.specs.Fetch.{fetch_all, bytes_fetched}
use Rattle.eprom.specs.Calls.{lent}
use Rattle.eprom.proofs.Own.{never_past, never_jump}
use Rattle.eprom.proofs.Settled.{astray-at}
use Rattle.eprom.proofs.Turns.{byte_at, by_turn, comes_past, comes_strays, comes_ends, comes_goes, later}

-- q was fetched, and r is the same bytes fed
pub data AsFed : Run → Run → Type 0 where
  same : {r : Run} → (r.number ≡ past_eprom → ⊥) → (r.number ≡ bad_jump → ⊥) → AsFed r r
  past : {c : Chain} {m : List ℕ} → AsFed (run c m past_eprom) (run c m more)
  strays : (c : Chain) {m : List ℕ} → AsFed (run (ended c) m bad_jump) (run (with_place c (with_awaited (counted c.place 1 0) at_start)) m more)

-- ---- a null byte, fed

module _ (c : Chain) (m : List ℕ) (b : ℕ) (a : c.place.awaited ≡ at_null) where
  pub null_more : number_of c b ≡ more
  unfolding number_of
  null_more = simp (a, and-false)

  null_memory : memory_of c m b ≡ m
  unfolding memory_of
  null_memory = rw a

  null_went : went_on c m b ≡ with_place c (with_awaited (counted c.place 1 0) at_start)
  unfolding registers_of missed_of advance_of
  null_went = rw a

-- ---- the run

module _ (e : List ℕ) where
  pub as_fed : (n : ℕ) (c : Chain) (m : List ℕ) (f : Fetcher)
      → AsFed (fetch_all e n (lent c m f)).run (run_of (run c m more) (bytes_fetched e n (lent c m f)))
  as_fed zero c m f = unfold fetch_all bytes_fetched run_of in same (λ (q : more ≡ past_eprom). omega arith) (λ (q : more ≡ bad_jump). omega arith)
  as_fed (suc n) c m f =
      let b : ℕ = byte_at e f in
      by_turn e c f
      (λ l. rw ((comes_past e n c m f l).0, (comes_past e n c m f l).1) (unfold run_of in past))
      (λ l a.
      let t = comes_strays e n c m f l a in
      let z = astray-at c.place f a in
      rw (t.0, t.1, run_went c m b [] (null_more c m b z), null_went c m b z, null_memory c m b z) (unfold run_of in strays c))
      (λ s g.
      let t = comes_ends e n c m f s g in
      rw (t.0, t.1, run-ended c m b [] g) (same (never_past c b) (never_jump c b)))
      (λ s g.
      let t = comes_goes e n c m f s g in
      rw (t.0, t.1, run_went c m b (bytes_fetched e n (later e n c m f)) g)
      (as_fed n (went_on c m b) (memory_of c m b) (onward c.place f b)))

-- ---- what was fetched while the run stayed open: with 16, and with 18

pub record StaysOpen (q r : Run) : Type 0 where
  pub chain : q.chain ≡ r.chain
  pub memory : q.memory ≡ r.memory
  pub number : r.number ≡ more

pub stays_more : {q r : Run} → AsFed q r → q.number ≡ more → StaysOpen q r
stays_more (same p j) h = record { chain = refl; memory = refl; number = h }
stays_more past h = record { chain = refl; memory = refl; number = refl }
stays_more (strays c) h = absurd (never h)
  where
    never : bad_jump ≡ more → ⊥
    never q = omega arith

pub stays_past : {q r : Run} → AsFed q r → q.number ≡ past_eprom → StaysOpen q r
stays_past (same p j) h = absurd (p h)
stays_past past h = record { chain = refl; memory = refl; number = refl }
stays_past (strays c) h = absurd (never h)
  where
    never : bad_jump ≡ past_eprom → ⊥
    never q = omega arith
