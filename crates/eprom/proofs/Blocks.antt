-- Bytes taken as one block: the machine fed with them, and what is kept of those that it took. Assumes nothing.
use Rattle.std.proofs.Common.{◌≡◌, ℕ, suc, ◌+◌, ◌%◌, ◌^◌, ◌<◌, ◌≤◌, true, false, eqb, List, [], ◌∷◌, length, take, sym, refl, ap, ◌∙◌, zero-add, arith, ne_eqb, eqb-true}
use native.Mathlib.Nat.{mod-add-mod}
use borrow.Author.Tests.{eqb-false}
use Rattle.chain.specs.declared.Chain.{Chain}
use Rattle.chain.specs.declared.Place.{Place}
use Rattle.chain.specs.Paper.{at_null, more, bad_jump, B0}
use Rattle.chain.specs.Rules.{pick}
use Rattle.chain.proofs.ByCases.{by_test}
use Rattle.awaited.specs.Byte.{number_of}
use Rattle.machine.specs.Run.{memory_of, ended, Run, run, went_on, run_of}
use Rattle.machine.proofs.Runs.{run_went, run-ended, run_lasts}
use Rattle.grammar.proofs.Runs.Stays.{run_stays}
use Rattle.eprom.specs.declared.Fetcher.{Fetcher}
use Rattle.eprom.specs.Counter.{counts, home_of, next_of}
use Rattle.eprom.specs.Kept.{with_counter, fetcher_at, jumps, astray, onward, fetcher_at_end}
use Rattle.eprom.specs.Fetch.{Fetching, fetching, took_of, fetch_all}
use Rattle.eprom.specs.Calls.{lent}
use Rattle.eprom.specs.Steps.{further_of, took_all, Free, settled, kept_through, kept_by, went_to, ended_to, Reads, Going, Block}
use Rattle.eprom.proofs.Counters.{next_further, further_next}
use Rattle.eprom.proofs.Settled.{no_jump_right, astray-at}
use Rattle.eprom.proofs.KeptBytes.{kept_by_lem}
use Rattle.eprom.proofs.Turns.{fetch_over, took_strays, took-ends, took_goes, comes_there}
use Rattle.eprom.proofs.NextByte.{mode_stays, one-taken, went_going, Next, next}

-- a run that is over looks at no byte
took-over : (bs : List ℕ) (x : Fetching) → (x.run.number ≡ more → ⊥) → took_all x bs ≡ x
unfolding took_all
took-over [] x n = refl
took-over (b ∷ bs) x n = rw (ne_eqb x.run.number more n) (took-over bs x n)

-- the fetcher after n bytes of which g is kept, by what the run has come to
abbrev pub left_of : Place → Fetcher → ℕ → Fetcher → Run → Fetcher
left_of p f n g r = pick (eqb r.number more) (went_to p f n g) (ended_to p f n g)

-- the bytes bs of an open run, as one block: so many of them are used, the run is the machine's, and fetched one by one they leave the same
pub record Took (c : Chain) (m : List ℕ) (f : Fetcher) (bs : List ℕ) : Type 0 where
  pub used : ℕ
  pub some : 0 < used
  pub most : used ≤ length bs
  pub taken : (run_of (run c m more) bs).chain.place.taken ≡ (c.place.taken + used) % 2 ^ 32
  pub law : took_all (lent c m f) bs ≡ fetching (run_of (run c m more) bs) (left_of c.place f used (kept_by c.place f (take used bs)) (run_of (run c m more) bs))
  pub going : (took_all (lent c m f) bs).run.number ≡ more → Going (took_all (lent c m f) bs).run.chain (took_all (lent c m f) bs).fetcher
  pub fetched : (e : List ℕ) (n : ℕ) → Reads c.place.mode e f.counter bs → fetch_all e (length bs + n) (lent c m f) ≡ fetch_all e n (took_all (lent c m f) bs)

module _ (c : Chain) (m : List ℕ) (f : Fetcher) (b : ℕ) where
  -- the first byte, wherever it comes from
  first-took : (bs : List ℕ) → took_all (lent c m f) (b ∷ bs) ≡ took_all (took_of (lent c m f) b) bs
  unfolding took_all
  first-took bs = refl

  first-fetched : (bs e : List ℕ) (n : ℕ) → Reads c.place.mode e f.counter (b ∷ bs) → fetch_all e (length (b ∷ bs) + n) (lent c m f) ≡ fetch_all e (length bs + n) (took_of (lent c m f) b)
  first-fetched bs e n r =
      let z : length (b ∷ bs) + n ≡ suc (length bs + n) = omega arith in
      ap (λ (k : ℕ). fetch_all e k (lent c m f)) z ∙ (comes_there e (length bs + n) c m f r.0.0).0 ∙ ap (λ (x : ℕ). fetch_all e (length bs + n) (took_of (lent c m f) x)) (sym r.0.1)

  -- one byte is a block
  on_one : onward c.place f b ≡ went_to c.place f 1 (kept_by c.place f (b ∷ []))
  unfolding onward
  on_one = rw (kept_by_lem c.place f b, next_further c.place.mode f.counter)

  end-one : fetcher_at_end c.place f b ≡ ended_to c.place f 1 (kept_by c.place f (b ∷ []))
  unfolding fetcher_at_end
  end-one = rw (kept_by_lem c.place f b, next_further c.place.mode f.counter)

  -- the run is over with it: the rest is not looked at
  took_last : (bs : List ℕ) → astray c.place f ≡ false → (number_of c b ≡ more → ⊥) → Took c m f (b ∷ bs)
  took_last bs a n =
      let x : Fetching = fetching (run (ended c) m (number_of c b)) (fetcher_at_end c.place f b) in
      let r = run-ended c m b bs n in
      let t : took_all (lent c m f) (b ∷ bs) ≡ x = first-took bs ∙ ap (λ (y : Fetching). took_all y bs) (took-ends c m f a b n) ∙ took-over bs x n in
      record {
        used = 1;
        some = omega arith;
        most = omega arith;
        taken = rw r;
        law = t ∙ rw (r, ne_eqb (number_of c b) more n, end-one);
        going = λ z. absurd (n (sym (ap (λ (y : Fetching). y.run.number) t) ∙ z));
        fetched =
            λ e k z.
            first-fetched bs e k z
            ∙ ap (λ (y : Fetching). fetch_all e (length bs + k) y) (took-ends c m f a b n)
            ∙ fetch_over e x n (length bs + k)
            ∙ sym (fetch_over e x n k)
            ∙ ap (λ (y : Fetching). fetch_all e k y) (sym t);
      }

  -- it goes on, and no byte comes behind
  took_one : Going c f → astray c.place f ≡ false → number_of c b ≡ more → Took c m f (b ∷ [])
  unfolding run_of took_all
  took_one g a n =
      let x : Fetching = lent (went_on c m b) (memory_of c m b) (onward c.place f b) in
      let r = run_went c m b [] n in
      let t : took_all (lent c m f) (b ∷ []) ≡ x = took_goes c m f a b n in
      record {
        used = 1;
        some = omega arith;
        most = omega arith;
        taken = rw r (one-taken c m f b);
        law = t ∙ rw (r, on_one);
        going = λ _. rw t (went_going c m f b g a n);
        fetched = λ e k z. first-fetched [] e k z ∙ ap (λ (i : ℕ). fetch_all e i (took_of (lent c m f) b)) (zero-add k);
      }

  -- it goes on, and more come behind, in the same block
  took_more : (bs : List ℕ) → Going c f → astray c.place f ≡ false → number_of c b ≡ more → length (b ∷ bs) ≤ counts → Next c m f b bs
      → Took (went_on c m b) (memory_of c m b) (onward c.place f b) bs → Took c m f (b ∷ bs)
  took_more bs g a n few w y =
      let p = c.place in
      let p₁ = (went_on c m b).place in
      let f₁ = onward p f b in
      let u = y.used in
      let kept : Fetcher = kept_by p f (b ∷ take u bs) in
      let r : Run = run_of (run (went_on c m b) (memory_of c m b) more) bs in
      let t : took_all (lent c m f) (b ∷ bs) ≡ took_all (lent (went_on c m b) (memory_of c m b) f₁) bs = first-took bs ∙ ap (λ (x : Fetching). took_all x bs) (took_goes c m f a b n) in
      let k : kept_by p₁ f₁ (take u bs) ≡ with_counter kept (next_of p.mode f.counter) = w.kept (take u bs) in
      let z : f₁.counter ≡ next_of p.mode f.counter = stepped w.no_jump in
      let q : further_of p₁.mode f₁.counter u ≡ further_of p.mode f.counter (suc u) =
      rw (mode_stays c m f b, z) (further_next p.mode f.counter u g.counter (omega (arith, y.most))) in
      let l : left_of p₁ f₁ u (kept_by p₁ f₁ (take u bs)) r ≡ left_of p f (suc u) kept r =
      rw (k, w.no_jump_next, w.no_jump, q, mode_stays c m f b) in
      record {
        used = suc u;
        some = omega arith;
        most = omega (arith, y.most);
        taken = rw (run_went c m b bs n) (y.taken ∙ rw (one-taken c m f b) (added p.taken u));
        law = t ∙ y.law ∙ ap (λ (x : Fetcher). fetching r x) l ∙ ap (λ (x : Run). fetching x (left_of p f (suc u) kept x)) (sym (run_went c m b bs n));
        going = λ h. rw t (y.going (rw t at h));
        fetched =
            λ e i z.
            first-fetched bs e i z
            ∙ ap (λ (x : Fetching). fetch_all e (length bs + i) x) (took_goes c m f a b n)
            ∙ y.fetched e i (rw (mode_stays c m f b, stepped w.no_jump) z.1)
            ∙ ap (λ (x : Fetching). fetch_all e i x) (sym t);
      }
    where
      stepped : jumps c.place f ≡ false → (onward c.place f b).counter ≡ next_of c.place.mode f.counter
      stepped j = unfold onward in rw j

      added : (t u : ℕ) → ((t + 1) % 2 ^ 32 + u) % 2 ^ 32 ≡ (t + suc u) % 2 ^ 32
      added t u =
          let e : t + 1 + u ≡ t + suc u = omega arith in
          mod-add-mod (t + 1) (2 ^ 32) u ∙ ap (λ (x : ℕ). x % 2 ^ 32) e

-- every block
pub took : (bs : List ℕ) (c : Chain) (m : List ℕ) (f : Fetcher) → Going c f → Free c.place f bs → astray c.place f ≡ false → 0 < length bs → length bs ≤ counts
    → Took c m f bs
took [] c m f g r a some few = absurd (none some)
  where
    none : 0 < 0 → ⊥
    none h = omega arith
took (b ∷ []) c m f g r a some few =
    by_test (eqb (number_of c b) more) (λ e. took_one c m f b g a (eqb-true (number_of c b) more e)) (λ e. took_last c m f b [] a (eqb-false (number_of c b) more e))
took (b ∷ d ∷ bs) c m f g r a some few =
    by_test (eqb (number_of c b) more)
    (λ e.
    let n = eqb-true (number_of c b) more e in
    let w = next c m f b g (d ∷ bs) (omega arith) r in
    took_more c m f b (d ∷ bs) g a n few w
    (took (d ∷ bs) (went_on c m b) (memory_of c m b) (onward c.place f b) (went_going c m f b g a n) w.free
    (no_jump_right (went_on c m b).place (onward c.place f b) w.no_jump_next) (omega arith) (omega arith)))
    (λ e. took_last c m f b (d ∷ bs) a (eqb-false (number_of c b) more e))

-- a block whose first byte goes astray: the rest is not looked at, and nothing is kept
pub took_lost : (c : Chain) (m : List ℕ) (f : Fetcher) (bs : List ℕ) → 0 < length bs → astray c.place f ≡ true
    → took_all (lent c m f) bs ≡ fetching (run (ended c) m bad_jump) (ended_to c.place f 1 f)
took_lost c m f [] some a = absurd (none some)
  where
    none : 0 < 0 → ⊥
    none h = omega arith
took_lost c m f (b ∷ bs) some a =
    first-took c m f b bs
    ∙ ap (λ (x : Fetching). took_all x bs) (took_strays c m f a b)
    ∙ took-over bs (fetching (run (ended c) m bad_jump) (fetcher_at_end c.place f b)) (eqb-false bad_jump more refl)
    ∙ ap (λ (x : Fetcher). fetching (run (ended c) m bad_jump) x) (end-one c m f b)
    ∙ ap (λ (k : ℕ). fetching (run (ended c) m bad_jump) (fetcher_at (pick (B0 k) (further_of c.place.mode f.counter 1) (home_of c.place.mode))))
    (null_control c.place f b (astray-at c.place f a))
  where
    null_control : (p : Place) (f : Fetcher) (b : ℕ) → p.awaited ≡ at_null → (kept_by p f (b ∷ [])).control ≡ f.control
    null_control p f b e = unfold kept_by kept_through in by_test (settled p f) (λ s. rw s) (λ s. rw (s, e))

-- ---- fetched one by one, whether the first goes astray or not

module _ (c : Chain) (m : List ℕ) (f : Fetcher) (bs : List ℕ) (b : Block c f bs) where
  abbrev x : Fetching
  x = took_all (lent c m f) bs

  pub took-fetched : (e : List ℕ) (n : ℕ) → Reads c.place.mode e f.counter bs → fetch_all e (length bs + n) (lent c m f) ≡ fetch_all e n x
  took-fetched e n r =
      by_test (astray c.place f)
      (λ a. lost_fetched bs b.some a e n r)
      (λ a. (took bs c m f b.going b.free a b.some b.most).fetched e n r)
    where
      lost_fetched : (t : List ℕ) → 0 < length t → astray c.place f ≡ true → (e : List ℕ) (n : ℕ) → Reads c.place.mode e f.counter t
          → fetch_all e (length t + n) (lent c m f) ≡ fetch_all e n (took_all (lent c m f) t)
      lost_fetched [] some a e n r = ap (λ (k : ℕ). fetch_all e k (lent c m f)) (zero-add n) ∙ unfold took_all in refl
      lost_fetched (d ∷ t) some a e n r =
          let y : Fetching = fetching (run (ended c) m bad_jump) (fetcher_at_end c.place f d) in
          first-fetched c m f d t e n r
          ∙ ap (λ (z : Fetching). fetch_all e (length t + n) z) (took_strays c m f a d)
          ∙ fetch_over e y (eqb-false bad_jump more refl) (length t + n)
          ∙ sym (fetch_over e y (eqb-false bad_jump more refl) n)
          ∙ ap (λ (z : Fetching). fetch_all e n z)
          (sym (first-took c m f d t ∙ ap (λ (z : Fetching). took_all z t) (took_strays c m f a d) ∙ took-over t y (eqb-false bad_jump more refl)))

  -- where it goes on it was not astray
  not_lost : x.run.number ≡ more → astray c.place f ≡ false
  not_lost h =
      by_test (astray c.place f)
      (λ a. absurd (eqb-false bad_jump more refl (sym (ap (λ (z : Fetching). z.run.number) (took_lost c m f bs b.some a)) ∙ h)))
      (λ a. a)

  pub took-going : x.run.number ≡ more → Going x.run.chain x.fetcher
  took-going h = (took bs c m f b.going b.free (not_lost h) b.some b.most).going h

  pub took-mode : x.run.number ≡ more → x.run.chain.place.mode ≡ c.place.mode
  took-mode h =
      let t = took bs c m f b.going b.free (not_lost h) b.some b.most in
      rw t.law (run_stays bs c m (rw t.law at h)).mode

  pub took-memory : length x.run.memory ≡ length m
  took-memory =
      by_test (astray c.place f)
      (λ a. rw (took_lost c m f bs b.some a))
      (λ a. rw (took bs c m f b.going b.free a b.some b.most).law (run_lasts bs (run c m more)).memory)
