-- What a run counts, by its walk: every byte of it as taken, and in a check each data byte unlike its cell. Assumes nothing.
use Prim.Native.Nat.{ℕ, suc, ◌+◌, ◌%◌, ◌^◌, ◌<◌}
use mathlib.Core.Bool.{Bool, true, false, and-false}
use mathlib.Core.Path.{◌≡◌, refl, ap, sym, ◌∙◌}
use mathlib.Core.List.{List, [], ◌∷◌}
use native.Mathlib.Nat.{mod-add-mod, mod-eq_of_lt, mod-lt, add-zero, zero-add}
use native.Mathlib.Omega.{arith}
use lib.Dec.{eqb, lit<}
use lib.ListN.{length, get_or}
use borrow.Author.Tests.{eqb-true, eqb-false}
use Rattle.cells.specs.Differ.{one_unless}
use Rattle.chain.specs.declared.Chain.{Chain}
use Rattle.chain.specs.Paper.{at_control, at_data, writing, checking, more}
use Rattle.chain.specs.Rules.{pick}
use Rattle.chain.proofs.ByCases.{by_test}
use Rattle.awaited.specs.Byte.{awaits, checks, number_of}
use Rattle.machine.specs.Run.{writes, address_of, memory_of, missed_of, counted, run, went_on, run_of}
use Rattle.machine.proofs.Frame.{advance_frame}
use Rattle.machine.proofs.Runs.{run_went, run-ended}
use Rattle.grammar.specs.Sent.{unlike, unlikes}
use Rattle.grammar.specs.Stores.{aim, walk_of}
use Rattle.grammar.proofs.Walk.{walk_on, walk_over, walk_blind}

-- sums modulo 2^32
none_more : (t : ℕ) → t < 2 ^ 32 → t ≡ (t + 0) % 2 ^ 32
none_more t h = sym (rw (add-zero t) (mod-eq_of_lt h))

two-more : (t k n : ℕ) → ((t + k) % 2 ^ 32 + n) % 2 ^ 32 ≡ (t + (k + n)) % 2 ^ 32
two-more t k n =
    let e : t + k + n ≡ t + (k + n) = omega arith in
    mod-add-mod (t + k) (2 ^ 32) n ∙ ap (λ (x : ℕ). x % 2 ^ 32) e

-- ---- bytes taken

walk_taken : (bs : List ℕ) (c : Chain) (m : List ℕ) → c.place.taken < 2 ^ 32
    → (run_of (run c m more) bs).chain.place.taken ≡ (c.place.taken + length (walk_of c bs)) % 2 ^ 32
walk_taken [] c m h = unfold run_of walk_of in none_more c.place.taken h
walk_taken (b ∷ bs) c m h =
    by_test (eqb (number_of c b) more)
    (λ e.
    let g = eqb-true (number_of c b) more e in
    let t : (went_on c m b).place.taken ≡ (c.place.taken + 1) % 2 ^ 32 = (advance_frame (counted c.place 1 (missed_of c m b)) b).taken in
    rw (run_went c m b bs g, walk_on c b bs g)
    (walk_taken bs (went_on c m b) (memory_of c m b) (rw t (mod-lt (c.place.taken + 1) (lit< tt)))
    ∙ rw (walk_blind bs c m b, t) (two-more c.place.taken 1 (length (walk_of (went_on c [] b) bs)) ∙ rw (add-one (length (walk_of (went_on c [] b) bs))))))
    (λ e.
    let g = eqb-false (number_of c b) more e in
    rw (run-ended c m b bs g, walk_over c b bs g))
  where
    add-one : (n : ℕ) → 1 + n ≡ suc n
    add-one n = omega arith

-- from a run's start
pub taken_walk : (bs : List ℕ) (c : Chain) (m : List ℕ) → c.place.taken ≡ 0 → (run_of (run c m more) bs).chain.place.taken ≡ length (walk_of c bs) % 2 ^ 32
taken_walk bs c m z =
    walk_taken bs c m (rw z (lit< tt))
    ∙ ap (λ (x : ℕ). (x + length (walk_of c bs)) % 2 ^ 32) z
    ∙ ap (λ (x : ℕ). x % 2 ^ 32) (zero-add (length (walk_of c bs)))

-- ---- mismatches

module _ (c : Chain) (m : List ℕ) (b : ℕ) where
  -- a byte of a check counts where it is unlike its cell, a byte of a write never
  missed_is : missed_of c m b ≡ pick (checks c) (unlike m (aim c) b) 0
  unfolding missed_of
  missed_is =
      by_test (checks c)
      (λ w.
      rw w
      (by_test (awaits c at_data) (λ e. rw e (either (eqb (get_or m (address_of c) 0) b)))
      (λ e. rw e (by_test (awaits c at_control) (λ f. rw f refl) (λ f. rw f refl)))))
      (λ w. simp (w, and-false))
    where
      either : (q : Bool) → one_unless q ≡ pick q 0 1
      either true = refl
      either false = refl

-- a check counts the data bytes unlike their cells
pub check-counts : (bs : List ℕ) (c : Chain) (m : List ℕ) → checks c ≡ true → c.place.mismatches < 2 ^ 32
    → (run_of (run c m more) bs).chain.place.mismatches ≡ (c.place.mismatches + unlikes m (walk_of c bs)) % 2 ^ 32
check-counts [] c m w h = unfold run_of walk_of in none_more c.place.mismatches h
check-counts (b ∷ bs) c m w h =
    by_test (eqb (number_of c b) more)
    (λ e.
    let g = eqb-true (number_of c b) more e in
    let f = advance_frame (counted c.place 1 (missed_of c m b)) b in
    let k : ℕ = unlike m (aim c) b in
    let t : (went_on c m b).place.mismatches ≡ (c.place.mismatches + k) % 2 ^ 32 =
    f.mismatches ∙ ap (λ (x : ℕ). (c.place.mismatches + x) % 2 ^ 32) (missed_is c m b ∙ rw w) in
    let v : checks (went_on c m b) ≡ true = rw f.check w in
    rw (run_went c m b bs g, walk_on c b bs g, unwritten)
    (check-counts bs (went_on c m b) m v (rw t (mod-lt (c.place.mismatches + k) (lit< tt)))
    ∙ rw (walk_blind bs c m b, t) (two-more c.place.mismatches k (unlikes m (walk_of (went_on c [] b) bs)))))
    (λ e.
    let g = eqb-false (number_of c b) more e in
    rw (run-ended c m b bs g, walk_over c b bs g) refl)
  where
    unwritten : memory_of c m b ≡ m
    unwritten = unfold memory_of in
        let v : writes c ≡ false = ap (λ (x : ℕ). eqb x writing) (eqb-true c.place.check checking w) in
        simp (v, and-false)

-- a write counts none
pub write_counts : (bs : List ℕ) (c : Chain) (m : List ℕ) → writes c ≡ true → c.place.mismatches < 2 ^ 32
    → (run_of (run c m more) bs).chain.place.mismatches ≡ c.place.mismatches
write_counts [] c m w h = unfold run_of in refl
write_counts (b ∷ bs) c m w h =
    by_test (eqb (number_of c b) more)
    (λ e.
    let g = eqb-true (number_of c b) more e in
    let f = advance_frame (counted c.place 1 (missed_of c m b)) b in
    let v : checks c ≡ false = ap (λ (x : ℕ). eqb x checking) (eqb-true c.place.check writing w) in
    let t : (went_on c m b).place.mismatches ≡ c.place.mismatches =
    f.mismatches ∙ ap (λ (x : ℕ). (c.place.mismatches + x) % 2 ^ 32) (missed_is c m b ∙ rw v) ∙ sym (none_more c.place.mismatches h) in
    rw (run_went c m b bs g) (write_counts bs (went_on c m b) (memory_of c m b) (rw f.check w) (rw t h) ∙ t))
    (λ e. rw (run-ended c m b bs (eqb-false (number_of c b) more e)) (sym (none_more c.place.mismatches h)))
