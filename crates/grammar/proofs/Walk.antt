-- Memory and registers after any bytes, fed into any state, are those before with what the run stores put into them in order. The walk
-- that says so does not depend on memory, and the walk over a front part is the front part of the walk. Assumes nothing.
use Prim.Native.Nat.{ℕ, zero, suc, ◌%◌, ◌+◌, ◌^◌}
use mathlib.Core.Bool.{true, false, true≢false}
use mathlib.Core.Path.{◌≡◌, refl, ap, sym, ◌∙◌}
use mathlib.Core.List.{List, [], ◌∷◌}
use lib.Dec.{eqb}
use lib.ListN.{set, take}
use lib.Seq.{take-nil}
use borrow.Author.Tests.{eqb-true, eqb-false}
use Rattle.chain.specs.declared.Chain.{Chain}
use Rattle.chain.specs.Paper.{at_control, at_data, more}
use Rattle.chain.proofs.ByCases.{by_test}
use Rattle.awaited.specs.Byte.{awaits, number_of}
use Rattle.machine.specs.Run.{writes, address_of, memory_of, registers_of, missed_of, counted, ended, Run, run, went_on, run_of}
use Rattle.grammar.proofs.Runs.Blind.{still, went_still}
use Rattle.machine.proofs.Frame.{advance_frame}
use Rattle.grammar.proofs.Runs.Kept.{unwritten_run}
use Rattle.machine.proofs.Runs.{run_went, run-ended}
use Rattle.grammar.specs.Sent.{Target, framing, register, cell, Sent, frame, Store, memory, registers, Slot, no_slot, index, slot}
use Rattle.grammar.specs.Stores.{aim, walk_of, changes, stored_of, put_of, puts_in, puts_of, put_into}

-- ---- one byte of the walk

module _ (c : Chain) (b : ℕ) (bs : List ℕ) where
  pub walk_on : number_of c b ≡ more → walk_of c (b ∷ bs) ≡ record { byte = b; to = aim c } ∷ walk_of (went_on c [] b) bs
  unfolding walk_of
  walk_on e = rw e

  pub walk_over : (number_of c b ≡ more → ⊥) → walk_of c (b ∷ bs) ≡ frame b ∷ []
  unfolding walk_of
  walk_over n = by_test (eqb (number_of c b) more) (λ e. absurd (n (eqb-true (number_of c b) more e))) (λ e. rw e)

-- the count of mismatches makes no difference
walk_still : (bs : List ℕ) (c : Chain) (j : ℕ) → walk_of (still c j) bs ≡ walk_of c bs
unfolding walk_of number_of address_of
walk_still [] c j = refl
walk_still (b ∷ bs) c j =
    by_test (eqb (number_of c b) more)
    (λ e. rw (e, went_still c [] [] b j)
    (ap (λ (l : List Sent). record { byte = b; to = aim c } ∷ l) (walk_still bs (went_on c [] b) ((j + missed_of (still c j) [] b) % 2 ^ 32))))
    (λ e. rw e)

-- so the walk goes on the same from a byte that was fed over any memory
pub walk_blind : (bs : List ℕ) (c : Chain) (m : List ℕ) (b : ℕ) → walk_of (went_on c m b) bs ≡ walk_of (went_on c [] b) bs
walk_blind bs c m b =
    ap (λ (d : Chain). walk_of d bs) (went_still c [] m b c.place.mismatches)
    ∙ walk_still bs (went_on c [] b) ((c.place.mismatches + missed_of c m b) % 2 ^ 32)

-- the walk over a front part is the front part of the walk
pub walk_take : (k : ℕ) (bs : List ℕ) (c : Chain) → walk_of c (take k bs) ≡ take k (walk_of c bs)
unfolding walk_of
walk_take zero bs c = refl
walk_take (suc k) [] c = refl
walk_take (suc k) (b ∷ bs) c =
    by_test (eqb (number_of c b) more)
    (λ e. rw e (ap (λ (l : List Sent). record { byte = b; to = aim c } ∷ l) (walk_take k bs (went_on c [] b))))
    (λ e. rw e (ap (λ (l : List Sent). frame b ∷ l) (sym (take-nil k))))

-- ---- bytes put into a store

-- a byte into a slot of a store, and bytes one after another
abbrev pub put : Slot → ℕ → List ℕ → List ℕ
put no_slot b l = l
put (index i) b l = set l i b

abbrev pub put_all : Store → List Sent → List ℕ → List ℕ
put_all k [] l = l
put_all k (x ∷ xs) l = put_all k xs (put (slot k x.to) x.byte l)

-- a store of a run
abbrev pub store_of : Store → Run → List ℕ
store_of memory r = r.memory
store_of registers r = r.chain.registers

-- ---- one byte of a run

-- a write changes both
pub write_changes : (k : Store) (c : Chain) → writes c ≡ true → changes k c ≡ true
write_changes memory c w = w
write_changes registers c w = refl

module _ (c : Chain) (m : List ℕ) (b : ℕ) where
  pub byte_stores : (k : Store) → changes k c ≡ true
      → store_of k (run (went_on c m b) (memory_of c m b) more) ≡ put (slot k (aim c)) b (store_of k (run c m more))
  unfolding memory_of registers_of
  byte_stores memory w =
      by_test (awaits c at_data) (λ e. rw (e, w))
      (λ e. rw e (by_test (awaits c at_control) (λ f. rw f) (λ f. rw f)))
  byte_stores registers w =
      by_test (awaits c at_data)
      (λ e.
      let f : awaits c at_control ≡ false = ap (λ (x : ℕ). eqb x at_control) (eqb-true c.place.awaited at_data e) in
      rw (e, f))
      (λ e. rw e (by_test (awaits c at_control) (λ f. rw f) (λ f. rw f)))

  -- a run stays a write or a check
  pub byte-changes : (k : Store) → changes k c ≡ true → changes k (went_on c m b) ≡ true
  byte-changes memory w = rw (advance_frame (counted c.place 1 (missed_of c m b)) b).check w
  byte-changes registers w = refl

  end_stores : (k : Store) (n : ℕ) → store_of k (run (ended c) m n) ≡ store_of k (run c m more)
  end_stores memory n = refl
  end_stores registers n = refl

-- ---- any bytes, any state

walk_stores : (k : Store) (bs : List ℕ) (c : Chain) (m : List ℕ) → changes k c ≡ true
    → store_of k (run_of (run c m more) bs) ≡ put_all k (walk_of c bs) (store_of k (run c m more))
walk_stores k [] c m w = unfold run_of walk_of in refl
walk_stores k (b ∷ bs) c m w =
    by_test (eqb (number_of c b) more)
    (λ e.
    let g = eqb-true (number_of c b) more e in
    rw (run_went c m b bs g, walk_on c b bs g)
    (walk_stores k bs (went_on c m b) (memory_of c m b) (byte-changes c m b k w) ∙ rw (walk_blind bs c m b, byte_stores c m b k w)))
    (λ e.
    let g = eqb-false (number_of c b) more e in
    rw (run-ended c m b bs g, walk_over c b bs g) (end_stores c m b k (number_of c b) ∙ nowhere-put k))
  where
    nowhere-put : (k : Store) → store_of k (run c m more) ≡ put_all k (frame b ∷ []) (store_of k (run c m more))
    nowhere-put memory = refl
    nowhere-put registers = refl

unchanged : (k : Store) (bs : List ℕ) (c : Chain) (m : List ℕ) → changes k c ≡ false → store_of k (run_of (run c m more) bs) ≡ store_of k (run c m more)
unchanged memory bs c m w = unwritten_run bs (run c m more) w
unchanged registers bs c m w = absurd (true≢false w)

-- a store after a run is the store before, with what the run stores put into it in order
pub run_stores : (k : Store) (bs : List ℕ) (c : Chain) (m : List ℕ)
    → store_of k (run_of (run c m more) bs) ≡ put_all k (stored_of k c bs) (store_of k (run c m more))
run_stores k bs c m = by_test (changes k c) (λ w. rw w (walk_stores k bs c m w)) (λ w. rw w (unchanged k bs c m w))

-- the same of memory, as cells and bytes
put_one : (t : Target) (b : ℕ) (xs : List Sent) (m : List ℕ) → ((n : List ℕ) → put_all memory xs n ≡ put_into (puts_in xs) n)
    → put_all memory xs (put (slot memory t) b m) ≡ put_into (put_of t b (puts_in xs)) m
put_one framing b xs m h = h m
put_one (register d) b xs m h = h m
put_one (cell i) b xs m h = h (set m i b)

puts_in_lem : (xs : List Sent) (m : List ℕ) → put_all memory xs m ≡ put_into (puts_in xs) m
puts_in_lem [] m = refl
puts_in_lem (x ∷ xs) m = put_one x.to x.byte xs m (puts_in_lem xs)

pub run_puts : (bs : List ℕ) (c : Chain) (m : List ℕ) → (run_of (run c m more) bs).memory ≡ put_into (puts_of c bs) m
run_puts bs c m = run_stores memory bs c m ∙ puts_in_lem (stored_of memory c bs) m
