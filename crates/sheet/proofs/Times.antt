-- How often cells are stored into: over all cells no more than there are stores, and as many where each store is to a cell. Assumes nothing.
use Prim.Native.Nat.{ℕ, zero, suc, ◌+◌, ◌≤◌, ◌<◌}
use mathlib.Core.Bool.{Bool, true, false}
use mathlib.Core.Path.{◌≡◌, refl, ap, ◌∙◌}
use mathlib.Core.List.{List, [], ◌∷◌}
use native.Mathlib.Omega.{arith}
use lib.Dec.{eqb, leb}
use lib.ListN.{length, get_or, set, length-set}
use lib.Seq.{get_or-set_other}
use borrow.Author.Tests.{eq-eqb, ne_eqb, le-leb}
use Rattle.chain.proofs.ByCases.{by_eq}
use Rattle.grammar.specs.Stores.{Put, put_into}
use Rattle.sheet.specs.Count.{one_if, sum_from, times_in, cells_stored}
use Rattle.sheet.proofs.Sums.{sum_of, sum_nothing, sum-le, sum-zero}

one-le : (b : Bool) → one_if b ≤ 1
one-le true = omega arith
one-le false = omega arith

-- ---- one store

-- a cell is one of the cells from i on, or none of them
one_outside : (k i n : ℕ) → k < i → sum_from (λ (j : ℕ). one_if (eqb k j)) i n ≡ 0
one_outside k i n h = sum-zero (λ (j : ℕ). one_if (eqb k j)) i n (λ j p q. ap one_if (ne_eqb k j (λ e. omega arith)))

one_inside : (k i n : ℕ) → i ≤ k → k < i + n → sum_from (λ (j : ℕ). one_if (eqb k j)) i n ≡ 1
unfolding sum_from
one_inside k i zero p q = absurd (omega arith)
one_inside k i (suc n) p q =
    by_eq k i
    (λ e. omega (arith, ap one_if (eq-eqb k i e), one_outside k (i + 1) n (omega arith)))
    (λ e. omega (arith, ap one_if (ne_eqb k i e), one_inside k (i + 1) n (omega arith) (omega arith)))

one_at_most : (k i n : ℕ) → sum_from (λ (j : ℕ). one_if (eqb k j)) i n ≤ 1
unfolding sum_from
one_at_most k i zero = omega arith
one_at_most k i (suc n) =
    by_eq k i
    (λ e. omega (arith, one-le (eqb k i), one_outside k (i + 1) n (omega arith)))
    (λ e. omega (arith, ap one_if (ne_eqb k i e), one_at_most k (i + 1) n))

-- ---- all stores

pub times_at_most : (ps : List Put) (i n : ℕ) → sum_from (λ (j : ℕ). times_in j ps) i n ≤ length ps
unfolding times_in
times_at_most [] i n = omega (arith, sum_nothing i n)
times_at_most (p ∷ ps) i n =
    omega (
      arith,
      sum_of (λ (j : ℕ). one_if (eqb p.cell j)) (λ (j : ℕ). times_in j ps) i n,
      one_at_most p.cell i n,
      times_at_most ps i n,
    )

-- each store is to a cell of those below size
abbrev pub Inside : ℕ → List Put → Type 0
Inside size [] = Unit {0}
Inside size (p ∷ ps) = (p.cell < size) × Inside size ps

pub times_in-all : (size : ℕ) (ps : List Put) → Inside size ps → sum_from (λ (j : ℕ). times_in j ps) 0 size ≡ length ps
unfolding times_in
times_in-all size [] h = sum_nothing 0 size
times_in-all size (p ∷ ps) h =
    omega (
      arith,
      sum_of (λ (j : ℕ). one_if (eqb p.cell j)) (λ (j : ℕ). times_in j ps) 0 size,
      one_inside p.cell 0 size (omega arith) (omega (arith, h.0)),
      times_in-all size ps h.1,
    )

-- a cell past the device is never stored into
pub times_outside : (size : ℕ) (ps : List Put) → Inside size ps → (i : ℕ) → size ≤ i → times_in i ps ≡ 0
unfolding times_in
times_outside size [] h i g = refl
times_outside size (p ∷ ps) h i g =
    omega (arith, ap one_if (ne_eqb p.cell i (λ e. omega (arith, h.0))), times_outside size ps h.1 i g)

-- ---- cells stored into k times or more

-- once and twice are two stores
both_times : (t : ℕ) → one_if (leb 1 t) + one_if (leb 2 t) ≤ t
both_times zero = omega arith
both_times (suc zero) = omega arith
both_times (suc (suc t)) = omega (arith, one-le (leb 1 (suc (suc t))), one-le (leb 2 (suc (suc t))))

twice_once : (t : ℕ) → one_if (leb 2 t) ≤ one_if (leb 1 t)
twice_once zero = omega arith
twice_once (suc t) = omega (arith, one-le (leb 2 (suc t)), ap one_if (le-leb 1 (suc t) (omega arith)))

module _ (size : ℕ) (ps : List Put) where
  -- each distinct cell takes a store, and each cell stored into again one more
  pub cells-and_again : cells_stored size 1 ps + cells_stored size 2 ps ≤ length ps
  cells-and_again =
      let f : ℕ → ℕ = λ (i : ℕ). one_if (leb 1 (times_in i ps)) in
      let g : ℕ → ℕ = λ (i : ℕ). one_if (leb 2 (times_in i ps)) in
      omega (
        arith,
        sum_of f g 0 size,
        sum-le (λ (i : ℕ). f i + g i) (λ (i : ℕ). times_in i ps) 0 size (λ j p q. both_times (times_in j ps)),
        times_at_most ps 0 size,
      )

  pub again_among : cells_stored size 2 ps ≤ cells_stored size 1 ps
  again_among =
      sum-le (λ (i : ℕ). one_if (leb 2 (times_in i ps))) (λ (i : ℕ). one_if (leb 1 (times_in i ps))) 0 size (λ j p q. twice_once (times_in j ps))

-- ---- what is left of memory

-- a cell that is never stored into keeps its byte
pub never_stored : (ps : List Put) (m : List ℕ) (i : ℕ) → times_in i ps ≡ 0 → get_or (put_into ps m) i 0 ≡ get_or m i 0
unfolding times_in
never_stored [] m i h = refl
never_stored (p ∷ ps) m i h =
    by_eq p.cell i
    (λ e. absurd (one-not (eq-eqb p.cell i e)))
    (λ e.
    never_stored ps (set m p.cell p.byte) i (omega (arith, h))
    ∙ get_or-set_other m p.cell i p.byte 0 (λ (x : i ≡ p.cell). e (omega (arith, x))))
  where
    one-not : eqb p.cell i ≡ true → ⊥
    one-not e = omega (arith, h, ap one_if e)

-- memory is as large as it was
pub put-length : (ps : List Put) (m : List ℕ) → length (put_into ps m) ≡ length m
put-length [] m = refl
put-length (p ∷ ps) m = put-length ps (set m p.cell p.byte) ∙ length-set m p.cell p.byte
