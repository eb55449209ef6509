-- How many bytes an open run needs at least to end, by awaited byte: no byte brings that number down by more than one, and none ends a run that
-- needs two. Of every chain and place, over the size; asked is only that what is fed are bytes. Assumes nothing.
use Prim.Native.Nat.{ℕ, suc, ◌+◌, ◌<◌, ◌≤◌}
use mathlib.Core.Bool.{Bool, true, false, ◌&&◌, ◌||◌, and-false}
use mathlib.Core.Path.{◌≡◌, refl}
use mathlib.Core.List.{List, [], ◌∷◌}
use native.Mathlib.Omega.{arith}
use lib.Dec.{eqb, ltb, leb}
use lib.ListN.{length}
use borrow.Author.Tests.{ne_eqb, lt-ltb, le-ltb, eqb-true, eqb-false, ltb-true, ltb-false, leb-true, leb-false}
use Rattle.chain.proofs.ByCases.{by_test, no_case, ◌or◌, below}
use Rattle.chain.proofs.Means.{says, reads}
use Rattle.chain.specs.declared.Chain.{Chain}
use Rattle.chain.specs.declared.Place.{Place}
use Rattle.chain.specs.Paper.{at_preamble, at_second, at_control, at_address, at_address2, at_address3, at_count, at_null, at_start, at_start_low, at_end, at_end_low, at_data, at_check, no_windows, more}
use Rattle.chain.specs.Rules.{pick, Row, ◌⇒◌, row_of}
use Rattle.chain.specs.Bytes.{Bytes}
use Rattle.chain.specs.Set.{with_awaited, with_place}
use Rattle.chain.specs.Kinds.{size_here}
use Rattle.chain.specs.Window.{with_low, width_of}
use Rattle.awaited.specs.Byte.{checks, number_of, passed_of, advance_of}
use Rattle.machine.specs.Run.{missed_of, memory_of, counted, Run, run, gone_on, went_on, run_of}
use Rattle.machine.proofs.Runs.{run_went, run-ended}
use Rattle.closing.specs.Closing.{with_ff, ends_below, refuses_ff}
use Rattle.closing.proofs.Rows.{end_fits}

-- after the last data byte of a window: null and two bytes of a start if windows remain, else the check byte
abbrev pub least_after : Place → ℕ
least_after p = pick (ltb 1 p.left) 3 1

pub after_most : (p : Place) → least_after p ≤ 3
after_most p = by_test (ltb 1 p.left) (λ q. rw q (omega arith)) (λ q. rw q (omega arith))

abbrev least_rows : Chain → List (Row ℕ)
least_rows c =
    let p = c.place in
    (at_preamble ⇒ 1)
    ∷ (at_second ⇒ 1)
    ∷ (at_control ⇒ pick (checks c) 1 6)
    ∷ (at_address ⇒ 5)
    ∷ (at_address2 ⇒ 4)
    ∷ (at_address3 ⇒ 3)
    ∷ (at_count ⇒ 2)
    ∷ (at_null ⇒ 3)
    ∷ (at_start ⇒ 2)
    ∷ (at_start_low ⇒ pick (ltb (with_ff p.start) (size_here c)) 3 1)
    ∷ (at_end ⇒ 2)
    ∷ (at_end_low ⇒ pick (ends_below p || refuses_ff c) 1 (suc (width_of p.start (with_low p.end 0) + least_after p)))
    ∷ (at_data ⇒ width_of p.next p.end + least_after p)
    ∷ (at_check ⇒ 1)
    ∷ []

unfoldable pub least : Chain → ℕ
least c = row_of c.place.awaited (least_rows c) 0

-- a table whose rows all stand below n has none from n on
abbrev rows_below : {A : Type 0} → ℕ → List (Row A) → Bool
rows_below n [] = true
rows_below n ((k ⇒ x) ∷ rows) = ltb k n && rows_below n rows

pub no_row : {A : Type 0} (n a : ℕ) (rows : List (Row A)) (other : A) → rows_below n rows ≡ true → n ≤ a → row_of a rows other ≡ other
no_row n a [] other h l = refl
no_row n a ((k ⇒ x) ∷ rows) other h l =
    let t : (k < n) × (rows_below n rows ≡ true) = says (search reads) h in
    rw (ne_eqb a k (λ e. omega (arith, t.0, e))) (no_row n a rows other t.1 l)

-- ---- one byte

-- the place p, awaiting a, and the byte b
module _ (c : Chain) (p : Place) (b : ℕ) where
  abbrev at : ℕ → Chain
  at a = with_place c (with_awaited p a)

  record Nearer (a : ℕ) : Type 0 where
    pub goes : number_of (at a) b ≡ more → least (at a) ≤ suc (least (with_place c (advance_of (with_awaited p a) b)))
    pub ends : (number_of (at a) b ≡ more → ⊥) → least (at a) ≤ 1

  -- where one byte is enough
  one : (a : ℕ) → least (at a) ≡ 1 → Nearer a
  one a e = record { goes = λ _. omega (arith, e); ends = λ _. omega (arith, e) }

  -- where no byte ends the run
  never : (a : ℕ) → number_of (at a) b ≡ more → least (at a) ≤ suc (least (with_place c (advance_of (with_awaited p a) b))) → Nearer a
  never a n l = record { goes = λ _. l; ends = λ h. absurd (h n) }

  at_2 : Nearer at_control
  unfolding least number_of advance_of
  at_2 = by_test (checks (at at_control)) (λ q. one at_control (rw q)) (λ q. never at_control (simp (q, and-false)) (rw q (omega arith)))

  at_6 : Nearer at_count
  unfolding least number_of advance_of
  at_6 = never at_count (simp and-false) (by_test (eqb b no_windows) (λ q. rw q (omega arith)) (λ q. rw q (omega arith)))

  at_8 : Nearer at_start
  unfolding least number_of advance_of
  at_8 =
      let d = with_place c (advance_of (with_awaited p at_start) b) in
      never at_start (simp and-false) (by_test (ltb (with_ff d.place.start) (size_here d)) (λ q. rw q (omega arith)) (λ q. rw q (omega arith)))

  -- where 256h + 255 is a start, so is every other with that high byte
  at_9 : b < 256 → Nearer at_start_low
  unfolding least number_of advance_of
  at_9 small =
      let size = size_here (at at_start_low) in
      by_test (ltb (with_ff p.start) size)
      (λ q.
      let l : ltb (with_low p.start b) size ≡ true = lt-ltb (with_low p.start b) size (omega (arith, ltb-true (with_ff p.start) size q)) in
      never at_start_low (simp (l, and-false)) (rw q (omega arith)))
      (λ q. one at_start_low (rw q))

  at_10 : Nearer at_end
  unfolding least number_of advance_of
  at_10 =
      let d = with_place c (advance_of (with_awaited p at_end) b) in
      never at_end (simp and-false) (by_test (ends_below d.place || refuses_ff d) (λ q. rw q (omega arith)) (λ q. rw q (omega arith)))

  -- where 256h is not below start, and 256h + 255 is an end, so is every other with that high byte; 256h is the nearest
  at_11 : b < 256 → Nearer at_end_low
  unfolding least number_of advance_of
  at_11 small =
      let size = size_here (at at_end_low) in
      by_test (ends_below p || refuses_ff (at at_end_low)) (λ q. one at_end_low (rw q))
      (λ q.
      let t : (ends_below p ≡ false) × ((p.start ≤ with_ff p.end) × (with_ff p.end < size)) = says (search reads) q in
      let f = end_fits p t.0 t.1.0 in
      let below : ltb (with_low p.end b) p.start ≡ false = le-ltb (with_low p.end b) p.start (omega (arith, f)) in
      let inside : ltb (with_low p.end b) size ≡ true = lt-ltb (with_low p.end b) size (omega (arith, t.1.1)) in
      never at_end_low (simp (below, inside, and-false)) (rw q (omega arith)))

  at_12 : Nearer at_data
  unfolding least number_of advance_of passed_of
  at_12 =
      never at_data (simp and-false)
      (by_test (leb (p.next + 1) p.end)
      (λ q. rw q (omega (arith, leb-true (p.next + 1) p.end q)))
      (λ q.
      let l = leb-false (p.next + 1) p.end q in
      by_test (ltb 1 p.left) (λ r. rw (q, r) (omega arith)) (λ r. rw (q, r) (omega arith))))

  nearer : b < 256 → p.awaited < 14 → Nearer p.awaited
  unfolding least number_of advance_of
  nearer small =
      below Nearer 14
      (no_case
      or one 0 refl
      or one 1 refl
      or at_2
      or never 3 (simp and-false) (omega arith)
      or never 4 (simp and-false) (omega arith)
      or never 5 (simp and-false) (omega arith)
      or at_6
      or never 7 (simp and-false) (omega arith)
      or at_8
      or at_9 small
      or at_10
      or at_11 small
      or at_12
      or one 13 refl)
      p.awaited

-- a byte that leaves the run open, with k mismatches more, and one that ends it
record Steps (c : Chain) (b k : ℕ) : Type 0 where
  pub goes : number_of c b ≡ more → least c ≤ suc (least (gone_on c k b))
  pub ends : (number_of c b ≡ more → ⊥) → least c ≤ 1

step_needs : (c : Chain) (b k : ℕ) → b < 256 → Steps c b k
unfolding least number_of
step_needs c b k small =
    let a = c.place.awaited in
    by_test (ltb a 14)
    (λ e.
    let n = nearer c (counted c.place 1 k) b small (ltb-true a 14 e) in
    record { goes = n.goes; ends = n.ends })
    (λ e.
    let z : least c ≡ 0 = no_row 14 a (least_rows c) 0 refl (ltb-false a 14 e) in
    record { goes = λ _. omega (arith, z); ends = λ _. omega (arith, z) })

-- ---- a run of them

-- r is what n bytes made of the open run of c
pub record Needs (c : Chain) (n : ℕ) (r : Run) : Type 0 where
  pub goes : r.number ≡ more → least c ≤ n + least r.chain
  pub ends : (r.number ≡ more → ⊥) → least c ≤ n

pub run_needs : (bs : List ℕ) → Bytes bs → (c : Chain) (m : List ℕ) → Needs c (length bs) (run_of (run c m more) bs)
unfolding run_of
run_needs [] small c m = record { goes = λ _. omega arith; ends = λ n. absurd (n refl) }
run_needs (b ∷ bs) small c m =
    by_test (eqb (number_of c b) more)
    (λ e.
    let g = eqb-true (number_of c b) more e in
    let s = (step_needs c b (missed_of c m b) small.0).goes g in
    let f = run_needs bs small.1 (went_on c m b) (memory_of c m b) in
    rw (run_went c m b bs g) (record { goes = λ n. omega (arith, s, f.goes n); ends = λ n. omega (arith, s, f.ends n) }))
    (λ e.
    let g = eqb-false (number_of c b) more e in
    let s = (step_needs c b 0 small.0).ends g in
    rw (run-ended c m b bs g) (record { goes = λ n. absurd (g n); ends = λ _. omega (arith, s) }))
