-- A stream that is accepted with its last byte: said without memory, and the same as what a run over any memory answers. A run that is
-- accepted used such a stream, whatever follows it, and took as many bytes as that has. Assumes nothing.
use Prim.Native.Nat.{ℕ, zero, suc, ◌%◌, ◌^◌, ◌<◌, ◌≤◌}
use mathlib.Core.Bool.{◌&&◌}
use mathlib.Core.Path.{◌≡◌, refl, ap, sym, subst, ◌∙◌}
use mathlib.Core.List.{List, [], ◌∷◌}
use native.Mathlib.Nat.{not-suc-le-zero, le_of_suc-le-suc, mod-le, mod-eq_of_lt}
use native.Mathlib.Omega.{arith}
use lib.Dec.{eqb}
use lib.ListN.{length, take}
use lib.Seq.{length-take-le, take_all}
use borrow.Author.Tests.{eqb-true, eqb-false}
use Rattle.chain.specs.declared.Chain.{Chain}
use Rattle.chain.specs.Paper.{at_data, done, more}
use Rattle.chain.proofs.ByCases.{by_test}
use Rattle.awaited.specs.Byte.{awaits, number_of}
use Rattle.machine.specs.Run.{writes, memory_of, Run, run, went_on, run_of}
use Rattle.machine.proofs.Runs.{run_went, run-ended}
use Rattle.grammar.proofs.Runs.Blind.{blind}
use Rattle.grammar.specs.Sent.{Sent, bytes_of}
use Rattle.grammar.specs.Stores.{aim, walk_of}
use Rattle.grammar.proofs.Walk.{walk_on, walk_over}
use Rattle.grammar.proofs.Counts.{taken_walk}
use Rattle.grammar.proofs.StreamShort.{bytes_long}

-- every byte but the last goes on, and the last is accepted
pub data Accepted : Chain → List ℕ → Type 0 where
  last : {c : Chain} {b : ℕ} → number_of c b ≡ done → Accepted c (b ∷ [])
  next : {c : Chain} {b : ℕ} {bs : List ℕ} → number_of c b ≡ more → Accepted (went_on c [] b) bs → Accepted c (b ∷ bs)

pub done-over : {n : ℕ} → n ≡ done → n ≡ more → ⊥
done-over p q = omega arith

-- one byte of a run with no memory: there is none after it
no_memory : (c : Chain) (b : ℕ) → memory_of c [] b ≡ []
unfolding memory_of
no_memory c b = by_test (awaits c at_data && writes c) (λ e. rw e refl) (λ e. rw e refl)

pub bare_on : (c : Chain) (b : ℕ) (bs : List ℕ) → number_of c b ≡ more → run_of (run c [] more) (b ∷ bs) ≡ run_of (run (went_on c [] b) [] more) bs
bare_on c b bs e = run_went c [] b bs e ∙ rw (no_memory c b)

-- ---- an accepted stream, over any memory

bare_accepted : (bs : List ℕ) (c : Chain) → Accepted c bs → (run_of (run c [] more) bs).number ≡ done
bare_accepted (b ∷ []) c (last e) = ap (λ (r : Run). r.number) (run-ended c [] b [] (done-over e)) ∙ e
bare_accepted [] c x' = elim x' [ ]
bare_accepted (b ∷ bs) c (next e a) = ap (λ (r : Run). r.number) (bare_on c b bs e) ∙ bare_accepted bs (went_on c [] b) a

pub accepted-done : (bs : List ℕ) (c : Chain) (m : List ℕ) → Accepted c bs → (run_of (run c m more) bs).number ≡ done
accepted-done bs c m a = (blind bs c [] m).number ∙ bare_accepted bs c a

bare_open : (k : ℕ) (bs : List ℕ) (c : Chain) → Accepted c bs → k < length bs → (run_of (run c [] more) (take k bs)).number ≡ more
bare_open (suc k) [] c a h = elim a [ ]
bare_open zero bs c a h = unfold run_of in refl
bare_open (suc k) (b ∷ []) c (last e) h = absurd (not-suc-le-zero (le_of_suc-le-suc h))
bare_open (suc k) (b ∷ bs) c (next e a) h =
    ap (λ (r : Run). r.number) (bare_on c b (take k bs) e) ∙ bare_open k bs (went_on c [] b) a (le_of_suc-le-suc h)

-- short of its end the run is open
pub accepted_open : (k : ℕ) (bs : List ℕ) (c : Chain) (m : List ℕ) → Accepted c bs → k < length bs → (run_of (run c m more) (take k bs)).number ≡ more
accepted_open k bs c m a h = (blind (take k bs) c [] m).number ∙ bare_open k bs c a h

-- its walk has all its bytes
pub accepted-bytes : (bs : List ℕ) (c : Chain) → Accepted c bs → bytes_of (walk_of c bs) ≡ bs
accepted-bytes [] c x' = elim x' [ ]
accepted-bytes (b ∷ []) c (last e) = rw (walk_over c b [] (done-over e))
accepted-bytes (b ∷ bs) c (next e a) = rw (walk_on c b bs e) (ap (λ (l : List ℕ). b ∷ l) (accepted-bytes bs (went_on c [] b) a))

pub accepted_long : (bs : List ℕ) (c : Chain) → Accepted c bs → length (walk_of c bs) ≡ length bs
accepted_long bs c a = sym (bytes_long (walk_of c bs)) ∙ ap length (accepted-bytes bs c a)

-- ---- a run that is accepted used a front part of its bytes, to its last, and looked at none after it

pub record Used (c : Chain) (bs : List ℕ) : Type 0 where
  pub many : ℕ
  pub within : many ≤ length bs
  pub accepted : Accepted c (take many bs)
  pub walk : walk_of c bs ≡ walk_of c (take many bs)

bare_used : (bs : List ℕ) (c : Chain) → (run_of (run c [] more) bs).number ≡ done → Used c bs
bare_used [] c e = absurd (done-over {n = more} (unfold run_of in e) refl)
bare_used (b ∷ bs) c e =
    by_test (eqb (number_of c b) more)
    (λ q.
    let g = eqb-true (number_of c b) more q in
    let u : Used (went_on c [] b) bs = bare_used bs (went_on c [] b) (ap (λ (r : Run). r.number) (sym (bare_on c b bs g)) ∙ e) in
    record {
      many = suc u.many;
      within = omega (arith, u.within);
      accepted = next g u.accepted;
      walk = rw (walk_on c b bs g, walk_on c b (take u.many bs) g) (ap (λ (l : List Sent). record { byte = b; to = aim c } ∷ l) u.walk);
    })
    (λ q.
    let g = eqb-false (number_of c b) more q in
    record {
      many = 1;
      within = omega arith;
      accepted = last (ap (λ (r : Run). r.number) (sym (run-ended c [] b bs g)) ∙ e);
      walk = rw (walk_over c b bs g, walk_over c b [] g);
    })

pub used : (bs : List ℕ) (c : Chain) (m : List ℕ) → (run_of (run c m more) bs).number ≡ done → Used c bs
used bs c m e = bare_used bs c ((blind bs c m []).number ∙ e)

-- as many bytes are taken as were used, modulo 2^32
module _ (bs : List ℕ) (c : Chain) (m : List ℕ) (z : c.place.taken ≡ 0) where
  used_counted : (u : Used c bs) → (run_of (run c m more) bs).chain.place.taken ≡ u.many % 2 ^ 32
  used_counted u =
      let n : length (walk_of c (take u.many bs)) ≡ u.many =
      accepted_long (take u.many bs) c u.accepted ∙ length-take-le u.many bs u.within in
      taken_walk bs c m z ∙ ap (λ (l : List Sent). length l % 2 ^ 32) u.walk ∙ ap (λ (x : ℕ). x % 2 ^ 32) n

  -- where the walk is no longer than the count goes
  pub used_taken : (u : Used c bs) → length (walk_of c (take u.many bs)) < 2 ^ 32 → (run_of (run c m more) bs).chain.place.taken ≡ u.many
  used_taken u h =
      let l : u.many < 2 ^ 32 = omega (arith, accepted_long (take u.many bs) c u.accepted, length-take-le u.many bs u.within) in
      used_counted u ∙ mod-eq_of_lt l

  -- number 0, with as many bytes taken as there are: so says the answer of a stream that loads whole and ends at its postamble
  pub accepted-taken : (run_of (run c m more) bs).number ≡ done → (run_of (run c m more) bs).chain.place.taken ≡ length bs → Accepted c bs
  accepted-taken e t =
      let u = used bs c m e in
      let all : length bs ≤ u.many = omega (arith, mod-le u.many (2 ^ 32), used_counted u) in
      subst (λ (l : List ℕ). Accepted c l) (take_all u.many bs all) u.accepted
