-- A run fetched in parts: n bytes and then k are n + k, a front part of the bytes fetched is what fewer fetch, and where the EPROM ended and more bytes
-- stand behind it the run goes on. Assumes nothing.
use Rattle.std.proofs.Common.{◌≡◌, ℕ, zero, suc, ◌+◌, ◌<◌, List, ◌∷◌, ◌++◌, length, get_or, take, refl, ap, ◌∙◌, le_of_suc-le-suc, not-suc-le-zero, suc-add, zero-add, arith, length-append}
use lib.ListN.{get_or-append}
use Rattle.chain.specs.declared.Chain.{Chain}
use Rattle.chain.specs.Paper.{more, past_eprom, bad_jump}
use Rattle.chain.specs.Bytes.{Bytes}
use Rattle.chain.proofs.Bytes.{bytes-at}
use Rattle.awaited.specs.Byte.{number_of}
use Rattle.machine.specs.Run.{memory_of, went_on}
use Rattle.eprom.specs.declared.Fetcher.{Fetcher}
use Rattle.eprom.specs.Kept.{onward}
use Rattle.eprom.specs.Fetch.{Fetching, on_fetch, fetch_all, bytes_fetched}
use Rattle.eprom.specs.Calls.{lent}
use Rattle.eprom.proofs.Turns.{byte_at, Straight, by_turn, comes_past, comes_strays, comes_ends, comes_goes, later, fetch_none, bytes-none}
use Rattle.eprom.proofs.Own.{never_past}

module _ (e : List ℕ) where
  -- ---- n bytes, then k

  pub fetch_sum : (n k : ℕ) (x : Fetching) → fetch_all e (n + k) x ≡ fetch_all e k (fetch_all e n x)
  unfolding fetch_all
  fetch_sum zero k x = rw (zero-add k)
  fetch_sum (suc n) k x = rw (suc-add n k) (fetch_sum n k (on_fetch e x))

  -- ---- the bytes fetched

  -- they are bytes of the EPROM
  pub fetched-bytes : Bytes e → (n : ℕ) (c : Chain) (m : List ℕ) (f : Fetcher) → Bytes (bytes_fetched e n (lent c m f))
  fetched-bytes u zero c m f = unfold bytes_fetched in tt
  fetched-bytes u (suc n) c m f =
      let b : byte_at e f < 256 = bytes-at e u f.counter in
      by_turn e c f (λ l. rw (comes_past e n c m f l).1 tt) (λ l a. rw (comes_strays e n c m f l a).1 (b, tt))
      (λ s g. rw (comes_ends e n c m f s g).1 (b, tt))
      (λ s g.
      rw (comes_goes e n c m f s g).1
      (b, fetched-bytes u n (went_on c m (byte_at e f)) (memory_of c m (byte_at e f)) (onward c.place f (byte_at e f))))

  -- short of their number the run goes on, and has fetched a front part of them
  abbrev pub Front : ℕ → ℕ → Fetching → Type 0
  Front k n x = ((fetch_all e k x).run.number ≡ more) × (bytes_fetched e k x ≡ take k (bytes_fetched e n x))

  pub front : (k n : ℕ) (c : Chain) (m : List ℕ) (f : Fetcher) → k < length (bytes_fetched e n (lent c m f)) → Front k n (lent c m f)
  front zero n c m f h = unfold fetch_all bytes_fetched in (refl, refl)
  front (suc k) zero c m f h = absurd (not-suc-le-zero (rw (bytes-none e (lent c m f)) at h))
  front (suc k) (suc n) c m f h =
      by_turn e c f (λ l. absurd (not-suc-le-zero (rw (comes_past e n c m f l).1 at h)))
      (λ l a. absurd (not-suc-le-zero (le_of_suc-le-suc (rw (comes_strays e n c m f l a).1 at h))))
      (λ s g. absurd (not-suc-le-zero (le_of_suc-le-suc (rw (comes_ends e n c m f s g).1 at h))))
      (λ s g.
      let b : ℕ = byte_at e f in
      let t = comes_goes e n c m f s g in
      let r = comes_goes e k c m f s g in
      let i = front k n (went_on c m b) (memory_of c m b) (onward c.place f b) (le_of_suc-le-suc (rw t.1 at h)) in
      rw (r.0, r.1, t.1) (i.0, ap (λ (l : List ℕ). b ∷ l) i.1))

  -- each stands where the counter was
  abbrev pub Stands : ℕ → ℕ → Fetching → Type 0
  Stands i n x =
      let f = (fetch_all e i x).fetcher in
      (f.counter < length e) × (get_or (bytes_fetched e n x) i 0 ≡ byte_at e f)

  pub stands : (i n : ℕ) (c : Chain) (m : List ℕ) (f : Fetcher) → i < length (bytes_fetched e n (lent c m f)) → Stands i n (lent c m f)
  stands i zero c m f h = absurd (not-suc-le-zero (rw (bytes-none e (lent c m f)) at h))
  stands zero (suc n) c m f h =
      by_turn e c f (λ l. absurd (not-suc-le-zero (rw (comes_past e n c m f l).1 at h)))
      (λ l a. rw (fetch_none e (lent c m f), (comes_strays e n c m f l a).1) (l, refl))
      (λ s g. rw (fetch_none e (lent c m f), (comes_ends e n c m f s g).1) (s.there, refl))
      (λ s g. rw (fetch_none e (lent c m f), (comes_goes e n c m f s g).1) (s.there, refl))
  stands (suc i) (suc n) c m f h =
      by_turn e c f (λ l. absurd (not-suc-le-zero (rw (comes_past e n c m f l).1 at h)))
      (λ l a. absurd (not-suc-le-zero (le_of_suc-le-suc (rw (comes_strays e n c m f l a).1 at h))))
      (λ s g. absurd (not-suc-le-zero (le_of_suc-le-suc (rw (comes_ends e n c m f s g).1 at h))))
      (λ s g.
      let b : ℕ = byte_at e f in
      let t = comes_goes e n c m f s g in
      rw ((comes_goes e i c m f s g).0, t.1)
      (stands i n (went_on c m b) (memory_of c m b) (onward c.place f b) (le_of_suc-le-suc (rw t.1 at h))))

-- ---- more bytes behind those that there were

module _ (e d : List ℕ) where
  -- a byte that stood there stands there still
  still-at : (f : Fetcher) → f.counter < length e → byte_at (e ++ d) f ≡ byte_at e f
  still-at f h = get_or-append e d 0 f.counter h

  still_goes : (n : ℕ) (c : Chain) (m : List ℕ) (f : Fetcher) → Straight e c f → number_of c (byte_at e f) ≡ more
      → fetch_all (e ++ d) (suc n) (lent c m f) ≡ fetch_all (e ++ d) n (later e n c m f)
  still_goes n c m f s g =
      let q = still-at f s.there in
      let t : Straight (e ++ d) c f = record { there = omega (arith, length-append e d, s.there); straight = s.straight } in
      (comes_goes (e ++ d) n c m f t (rw q g)).0
      ∙ ap (λ (b : ℕ). fetch_all (e ++ d) n (lent (went_on c m b) (memory_of c m b) (onward c.place f b))) q

  -- a run that stopped for want of bytes: the bytes fetched till then leave it open
  abbrev pub GoesOn : Fetching → Fetching → List ℕ → Type 0
  GoesOn x y bs = fetch_all (e ++ d) (length bs) x ≡ lent y.run.chain y.run.memory y.fetcher

  pub keeps_going : (n : ℕ) (c : Chain) (m : List ℕ) (f : Fetcher) → (fetch_all e n (lent c m f)).run.number ≡ past_eprom
      → GoesOn (lent c m f) (fetch_all e n (lent c m f)) (bytes_fetched e n (lent c m f))
  keeps_going zero c m f h = absurd (never (rw (fetch_none e (lent c m f)) at h))
    where
      never : more ≡ past_eprom → ⊥
      never q = omega arith
  keeps_going (suc n) c m f h =
      let b : ℕ = byte_at e f in
      by_turn e c f (λ l. let t = comes_past e n c m f l in rw (t.0, t.1) (fetch_none (e ++ d) (lent c m f)))
      (λ l a. absurd (never (rw (comes_strays e n c m f l a).0 at h)))
      (λ s g. absurd (never_past c b (rw (comes_ends e n c m f s g).0 at h)))
      (λ s g.
      let t = comes_goes e n c m f s g in
      rw (t.0, t.1)
      (still_goes (length (bytes_fetched e n (later e n c m f))) c m f s g
      ∙ keeps_going n (went_on c m b) (memory_of c m b) (onward c.place f b) (rw t.0 at h)))
    where
      never : bad_jump ≡ past_eprom → ⊥
      never q = omega arith
