-- Two writes fetched from the same place with the same counter, both of which accept what the first fetches: the second fetches the same bytes and leaves the
-- same fetcher, over any memory and any registers. At the first preamble it does not matter what either fetcher kept. Assumes nothing.
use Rattle.std.proofs.Common.{◌≡◌, ℕ, zero, suc, ◌<◌, List, [], ◌∷◌, length, refl, ap, ◌∙◌, arith}
use Rattle.chain.specs.declared.Chain.{Chain}
use Rattle.chain.specs.declared.Place.{Place}
use Rattle.chain.specs.Paper.{at_preamble, writing, done, more, past_eprom, bad_jump}
use Rattle.awaited.specs.Byte.{number_of}
use Rattle.machine.specs.Run.{memory_of, ended, run, went_on, run_of}
use Rattle.machine.proofs.Runs.{run_went, run-ended}
use Rattle.grammar.proofs.Runs.Keeps.{write_misses}
use Rattle.grammar.proofs.Runs.Stays.{went_stays}
use Rattle.grammar.proofs.Accepted.{Accepted, last, next, done-over}
use Rattle.eprom.specs.declared.Fetcher.{Fetcher}
use Rattle.eprom.specs.Kept.{kept_of, jumps, astray, onward, fetcher_at_end}
use Rattle.eprom.specs.Fetch.{Fetching, fetching, fetch_all, bytes_fetched}
use Rattle.eprom.specs.Calls.{lent}
use Rattle.eprom.proofs.Turns.{byte_at, Straight, by_turn, comes_past, comes_strays, comes_ends, comes_goes, later, fetch_none, bytes-none}
use Rattle.eprom.proofs.Settled.{astray-at}
use Rattle.eprom.proofs.AsFed.{null_more}

-- ---- fetchers that do the same at a place

pub record AsOne (p : Place) (f g : Fetcher) : Type 0 where
  pub counter : g.counter ≡ f.counter
  pub jump : astray p g ≡ astray p f
  pub on : (b : ℕ) → onward p g b ≡ onward p f b
  pub over : (b : ℕ) → fetcher_at_end p g b ≡ fetcher_at_end p f b

pub one : (p : Place) (f : Fetcher) → AsOne p f f
one p f = record { counter = refl; jump = refl; on = λ b. refl; over = λ b. refl }

-- what a fetcher kept of an earlier run is gone with the first preamble
pub afresh : (p : Place) (f g : Fetcher) → p.device ≡ 0 → p.awaited ≡ at_preamble → g.counter ≡ f.counter → AsOne p f g
unfolding astray onward fetcher_at_end jumps kept_of
afresh p f g d a e = record { counter = e; jump = rw (d, a); on = λ b. rw (d, a, e); over = λ b. rw (d, a) }

-- ---- an accepted stream, byte by byte

-- there is one
some : {c : Chain} {bs : List ℕ} → Accepted c bs → 0 < length bs
some (last e) = omega arith
some (next e a) = omega arith

none : {c : Chain} → Accepted c [] → ⊥
none a = no (some a)
  where
    no : 0 < 0 → ⊥
    no q = omega arith

-- one alone is accepted
only : {c : Chain} {b : ℕ} → Accepted c (b ∷ []) → number_of c b ≡ done
only (last e) = e
only (next e a) = absurd (none a)

-- with others behind it the run goes on
ahead : {c d : Chain} {b : ℕ} {bs : List ℕ} → Accepted c bs → Accepted d (b ∷ bs) → (number_of d b ≡ more) × Accepted (went_on d [] b) bs
ahead a (last e) = absurd (none a)
ahead a (next e s) = (e, s)

rest : {c : Chain} {b : ℕ} {bs : List ℕ} → Accepted c (b ∷ bs) → number_of c b ≡ more → Accepted (went_on c [] b) bs
rest (last e) g = absurd (done-over e g)
rest (next e a) g = a

-- ---- a write

module _ (c : Chain) (m : List ℕ) (b : ℕ) (w : c.place.check ≡ writing) where
  -- goes on as with no memory
  went_bare : went_on c m b ≡ went_on c [] b
  went_bare = rw (write_misses c m b w, write_misses c [] b w)

  to_bare : {bs : List ℕ} → Accepted (went_on c m b) bs → Accepted (went_on c [] b) bs
  to_bare a = rw went_bare at a

  of_bare : {bs : List ℕ} → Accepted (went_on c [] b) bs → Accepted (went_on c m b) bs
  of_bare a = rw went_bare a

  went_writes : (went_on c m b).place.check ≡ writing
  went_writes = (went_stays c m b).check ∙ w

-- and goes where the place says
went_place : (c d : Chain) (m k : List ℕ) (b : ℕ) → c.place.check ≡ writing → d.place ≡ c.place → (went_on d k b).place ≡ (went_on c m b).place
went_place c d m k b w p = rw (write_misses c m b w, write_misses d k b (rw p w), p)

-- what is fetched and ends with 0 is accepted
module _ (e : List ℕ) where
  pub fetched-accepted : (n : ℕ) (c : Chain) (m : List ℕ) (f : Fetcher) → c.place.check ≡ writing → (fetch_all e n (lent c m f)).run.number ≡ done
      → Accepted c (bytes_fetched e n (lent c m f))
  fetched-accepted zero c m f w h = absurd (done-over {n = more} (rw (fetch_none e (lent c m f)) at h) refl)
  fetched-accepted (suc n) c m f w h =
      let b : ℕ = byte_at e f in
      by_turn e c f (λ l. absurd (never (rw (comes_past e n c m f l).0 at h)))
      (λ l a. absurd (not_this (rw (comes_strays e n c m f l a).0 at h)))
      (λ s g. let t = comes_ends e n c m f s g in rw t.1 (last (rw t.0 at h)))
      (λ s g.
      let t = comes_goes e n c m f s g in
      let i = fetched-accepted n (went_on c m b) (memory_of c m b) (onward c.place f b) (went_writes c m b w) (rw t.0 at h) in
      rw t.1 (next g (to_bare c m b w i)))
    where
      never : past_eprom ≡ done → ⊥
      never q = omega arith

      not_this : bad_jump ≡ done → ⊥
      not_this q = omega arith

  -- ---- side by side

  -- y fetches bs, and is left as they leave it with the fetcher that x has in the end
  abbrev pub Follows : ℕ → Chain → List ℕ → Fetcher → List ℕ → Fetcher → Type 0
  Follows n d k g bs f =
      (fetch_all e n (lent d k g) ≡ fetching (run_of (run d k more) bs) f) × (bytes_fetched e n (lent d k g) ≡ bs)

  pub lockstep : (n : ℕ) (c d : Chain) (m k : List ℕ) (f g : Fetcher) → c.place.check ≡ writing → d.place ≡ c.place → AsOne c.place f g
      → Accepted c (bytes_fetched e n (lent c m f)) → Accepted d (bytes_fetched e n (lent c m f))
      → Follows n d k g (bytes_fetched e n (lent c m f)) (fetch_all e n (lent c m f)).fetcher
  lockstep zero c d m k f g w p q a o = absurd (none (rw (bytes-none e (lent c m f)) at a))
  lockstep (suc n) c d m k f g w p q a o =
      let b : ℕ = byte_at e f in
      let at : byte_at e g ≡ b = rw q.counter in
      let straight : Straight e c f → Straight e d g = λ s. record { there = rw q.counter s.there; straight = rw p (q.jump ∙ s.straight) } in
      by_turn e c f (λ l. absurd (none (rw (comes_past e n c m f l).1 at a)))
      (λ l j. absurd (done-over (only (rw (comes_strays e n c m f l j).1 at a)) (null_more c m b (astray-at c.place f j))))
      (λ s z.
      let t = comes_ends e n c m f s z in
      let v : number_of d b ≡ done = only (rw t.1 at o) in
      let r = comes_ends e n d k g (straight s) (rw at (done-over v)) in
      rw (t.0, t.1, run-ended d k b [] (done-over v)) (
        r.0
            ∙ ap (λ (x : ℕ). fetching (run (ended d) k (number_of d x)) (fetcher_at_end d.place g x)) at
            ∙ ap (λ (x : Place). fetching (run (ended d) k (number_of d b)) (fetcher_at_end x g b)) p
            ∙ ap (fetching (run (ended d) k (number_of d b))) (q.over b),
        r.1 ∙ ap (λ (x : ℕ). x ∷ []) at,
      ))
      (λ s z.
      let t = comes_goes e n c m f s z in
      let bs : List ℕ = bytes_fetched e n (later e n c m f) in
      let a' : Accepted (went_on c [] b) bs = rest (rw t.1 at a) z in
      let o' : (number_of d b ≡ more) × Accepted (went_on d [] b) bs = ahead a' (rw t.1 at o) in
      let r = comes_goes e n d k g (straight s) (rw at o'.0) in
      let to : later e n d k g ≡ lent (went_on d k b) (memory_of d k b) (onward c.place f b) =
      ap (λ (x : ℕ). lent (went_on d k x) (memory_of d k x) (onward d.place g x)) at
      ∙ ap (λ (x : Place). lent (went_on d k b) (memory_of d k b) (onward x g b)) p
      ∙ ap (lent (went_on d k b) (memory_of d k b)) (q.on b)
      in
      let i =
      lockstep n (went_on c m b) (went_on d k b) (memory_of c m b) (memory_of d k b) (onward c.place f b) (onward c.place f b) (went_writes c m b w)
      (went_place c d m k b w p) (one (went_on c m b).place (onward c.place f b)) (of_bare c m b w a') (of_bare d k b (rw p w) o'.1)
      in
      rw (t.0, t.1, run_went d k b bs o'.0) (
        r.0 ∙ ap (fetch_all e n) to ∙ i.0,
        r.1 ∙ ap (λ (x : ℕ). x ∷ bytes_fetched e n (later e n d k g)) at ∙ ap (λ (x : Fetching). b ∷ bytes_fetched e n x) to ∙ ap (λ (x : List ℕ). b ∷ x) i.1,
      ))
