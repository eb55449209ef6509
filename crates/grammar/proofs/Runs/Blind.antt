-- Numbers, places and bytes taken do not depend on memory: two runs of the same bytes over any two memories differ in cells and in
-- the count of mismatches alone. Assumes nothing.
use Prim.Native.Nat.{ℕ, ◌+◌, ◌-◌, ◌%◌, ◌^◌}
use mathlib.Core.Bool.{Bool, true, false}
use mathlib.Core.Path.{◌≡◌, refl, ap, sym, subst, ◌∙◌}
use mathlib.Core.List.{List, [], ◌∷◌}
use lib.Dec.{eqb, ltb, leb}
use Rattle.chain.specs.declared.Chain.{Chain}
use Rattle.chain.specs.declared.Place.{Place}
use Rattle.chain.specs.Paper.{no_windows, at_null, at_check, more}
use Rattle.chain.specs.Rules.{Row, ◌⇒◌, row_of, pick}
use Rattle.chain.specs.Set.{with_check, with_awaited, with_left, with_mismatches, with_place}
use Rattle.chain.proofs.ByCases.{by_test}
use Rattle.awaited.specs.Byte.{passed_of, advance_rows, advance_of, number_of}
use Rattle.machine.proofs.Frame.{advance_frame}
use Rattle.machine.specs.Run.{registers_of, missed_of, counted, Run, run, went_on, step_of, on_byte, run_of}

-- the same chain with j mismatches
abbrev pub still : Chain → ℕ → Chain
still c j = with_place c (with_mismatches c.place j)

-- ---- the place goes the same way, whatever the sort of run

-- the same place in a run of the sort k, with j mismatches
abbrev pub sorted : Place → ℕ → ℕ → Place
sorted p k j = with_mismatches (with_check p k) j

module _ (k j : ℕ) where
  sorted-pick : (t : Bool) (x y x' y' : Place) → x' ≡ sorted x k j → y' ≡ sorted y k j → pick t x' y' ≡ sorted (pick t x y) k j
  sorted-pick true x y x' y' f g = f
  sorted-pick false x y x' y' f g = g

  -- the same table, row by row
  abbrev Sorts : List (Row Place) → List (Row Place) → Type 0
  Sorts [] [] = Unit {0}
  Sorts [] (x ∷ rows) = ⊥
  Sorts ((n ⇒ q) ∷ rows) [] = ⊥
  Sorts ((n ⇒ q) ∷ rows) ((n' ⇒ q') ∷ rows') = ((n' ≡ n) × (q' ≡ sorted q k j)) × Sorts rows rows'

  rows-sorted : (a : ℕ) (p : Place) (rows rows' : List (Row Place)) → Sorts rows rows'
      → row_of a rows' (sorted p k j) ≡ sorted (row_of a rows p) k j
  rows-sorted a p [] [] s = refl
  rows-sorted a p [] (x ∷ rows') s = absurd s
  rows-sorted a p ((n ⇒ q) ∷ rows) [] s = absurd s
  rows-sorted a p ((n ⇒ q) ∷ rows) ((n' ⇒ q') ∷ rows') s =
      rw s.0.0
      (sorted-pick (eqb a n) q (row_of a rows p) q' (row_of a rows' (sorted p k j)) s.0.1 (rows-sorted a p rows rows' s.1))

  passed_sorted : (p : Place) (n : ℕ) → passed_of (sorted p k j) n ≡ sorted (passed_of p n) k j
  unfolding passed_of
  passed_sorted p n =
      by_test (leb (p.next + n) p.end) (λ e. rw e refl)
      (λ e. rw e (by_test (ltb 1 p.left) (λ f. rw f refl) (λ f. rw f refl)))

  count_sorted : (p : Place) (b : ℕ)
      → pick (eqb b no_windows) (with_awaited (sorted p k j) at_check) (with_awaited (with_left (sorted p k j) (255 - b)) at_null)
      ≡ sorted (pick (eqb b no_windows) (with_awaited p at_check) (with_awaited (with_left p (255 - b)) at_null)) k j
  count_sorted p b = by_test (eqb b no_windows) (λ e. rw e refl) (λ e. rw e refl)

  pub advance_sorted : (p : Place) (b : ℕ) → advance_of (sorted p k j) b ≡ sorted (advance_of p b) k j
  unfolding advance_of
  advance_sorted p b =
      rows-sorted p.awaited p (advance_rows p b) (advance_rows (sorted p k j) b)
      ((refl, refl), ((refl, refl), ((refl, refl), ((refl, refl), ((refl, refl), ((refl, refl), ((refl, count_sorted p b), ((refl, refl), ((refl, refl), ((refl, refl), ((refl, refl), ((refl, refl), ((refl, passed_sorted p 1), ((refl, refl), tt))))))))))))))

-- with other mismatches alone
advance_still : (p : Place) (b j : ℕ) → advance_of (with_mismatches p j) b ≡ with_mismatches (advance_of p b) j
advance_still p b j =
    advance_sorted p.check j p b ∙ ap (λ (k : ℕ). sorted (advance_of p b) k j) (sym (advance_frame p b).check)

-- ---- the run goes the same way

-- two runs alike: the same number, the same chain but for its mismatches
pub record Alike (x y : Run) : Type 0 where
  pub number : y.number ≡ x.number
  pub chain : y.chain ≡ still x.chain y.chain.place.mismatches

number-still : (c : Chain) (b j : ℕ) → number_of (still c j) b ≡ number_of c b
unfolding number_of
number-still c b j = refl

registers-still : (c : Chain) (b j : ℕ) → registers_of (still c j) b ≡ registers_of c b
unfolding registers_of
registers-still c b j = refl

-- one byte more, at a state with j mismatches: the place has some other count
place_still : (p : Place) (b j k l : ℕ)
    → advance_of (counted (with_mismatches p j) 1 l) b ≡ with_mismatches (advance_of (counted p 1 k) b) ((j + l) % 2 ^ 32)
place_still p b j k l = advance_still (counted p 1 k) b ((j + l) % 2 ^ 32)

module _ (c : Chain) (m n : List ℕ) (b j : ℕ) where
  pub went_still : went_on (still c j) n b ≡ still (went_on c m b) ((j + missed_of (still c j) n b) % 2 ^ 32)
  went_still = rw (registers-still c b j, place_still c.place b j (missed_of c m b) (missed_of (still c j) n b))

  step_alike : Alike (step_of c m b) (step_of (still c j) n b)
  unfolding step_of
  step_alike =
      by_test (eqb (number_of c b) more)
      (λ e. rw (number-still c b j, e, went_still) (record { number = refl; chain = refl }))
      (λ e. rw (number-still c b j, e) (record { number = refl; chain = refl }))

byte_alike : (r s : Run) (b : ℕ) → Alike r s → Alike (on_byte r b) (on_byte s b)
byte_alike r s b a =
    by_test (eqb r.number more)
    (λ e. rw (a.number, e)
    (subst (λ (d : Chain). Alike (step_of r.chain r.memory b) (step_of d s.memory b)) (sym a.chain)
    (step_alike r.chain r.memory s.memory b s.chain.place.mismatches)))
    (λ e. rw (a.number, e) (record { number = refl; chain = a.chain }))

run_alike : (bs : List ℕ) (r s : Run) → Alike r s → Alike (run_of r bs) (run_of s bs)
unfolding run_of
run_alike [] r s a = a
run_alike (b ∷ bs) r s a = run_alike bs (on_byte r b) (on_byte s b) (byte_alike r s b a)

-- the same chain and bytes over any two memories: the same number, registers, place and bytes taken
pub blind : (bs : List ℕ) (c : Chain) (m n : List ℕ) → Alike (run_of (run c m more) bs) (run_of (run c n more) bs)
blind bs c m n = run_alike bs (run c m more) (run c n more) (record { number = refl; chain = refl })
