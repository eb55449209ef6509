-- Cells are counted once each: as many as a list has that names every cell stored into k times or more, none of them twice, and no other. Assumes nothing.
use Prim.Native.Nat.{ℕ, suc, ◌≤◌, ◌<◌}
use mathlib.Core.Bool.{true, false}
use mathlib.Core.Logic.{◌⊎◌, inl, inr}
use mathlib.Core.Path.{◌≡◌, refl, ap, sym, ◌∙◌}
use mathlib.Core.List.{List, [], ◌∷◌}
use native.Mathlib.Omega.{arith}
use lib.Dec.{leb, ltb}
use lib.ListN.{length}
use borrow.Author.Tests.{eq-eqb, ne_eqb, leb-true, leb-false, ltb-true, ltb-false}
use Rattle.chain.specs.Paper.{first_mode, two_preambles}
use Rattle.chain.specs.Rules.{from}
use Rattle.chain.specs.Bytes.{Bytes}
use Rattle.chain.proofs.ByCases.{by_test}
use Rattle.grammar.specs.Stores.{Put}
use Rattle.sheet.specs.Count.{one_if, times_in, cells_stored}
use Rattle.sheet.specs.Stream.{Device, bytes_of_stream, started, stores_of}
use Rattle.sheet.proofs.Sums.{sum_ext}
use Rattle.sheet.proofs.Times.{Inside, times_in-all, times_outside}
use Rattle.sheet.proofs.Inside.{stores_inside}
use Rattle.sheet.proofs.Bounds.{fed-bytes}
use Rattle.sheet.proofs.Left.{Idle, started_feeds, started-kinds, started-registers}

abbrev pub In : ℕ → List ℕ → Type 0
In i [] = ⊥
In i (x ∷ xs) = (i ≡ x) ⊎ In i xs

abbrev pub NoneTwice : List ℕ → Type 0
NoneTwice [] = Unit {0}
NoneTwice (x ∷ xs) = (In x xs → ⊥) × NoneTwice xs

-- xs names the cells that are stored into k times or more, each once
pub record Names (k : ℕ) (ps : List Put) (xs : List ℕ) : Type 0 where
  pub once : NoneTwice xs
  pub named : (i : ℕ) → k ≤ times_in i ps → In i xs
  pub no_other : (i : ℕ) → In i xs → k ≤ times_in i ps

-- ---- a list of cells as stores into them

abbrev stores_into : List ℕ → List Put
stores_into [] = []
stores_into (x ∷ xs) = record { cell = x; byte = 0 } ∷ stores_into xs

into_length : (xs : List ℕ) → length (stores_into xs) ≡ length xs
into_length [] = refl
into_length (x ∷ xs) = ap suc (into_length xs)

into_inside : (size : ℕ) (xs : List ℕ) → ((i : ℕ) → In i xs → i < size) → Inside size (stores_into xs)
into_inside size [] h = tt
into_inside size (x ∷ xs) h = (h x (inl refl), into_inside size xs (λ i g. h i (inr g)))

never_in : (i : ℕ) (xs : List ℕ) → (In i xs → ⊥) → times_in i (stores_into xs) ≡ 0
unfolding times_in
never_in i [] h = refl
never_in i (x ∷ xs) h =
    omega (arith, ap one_if (ne_eqb x i (λ e. h (inl (sym e)))), never_in i xs (λ g. h (inr g)))

once_in : (i : ℕ) (xs : List ℕ) → NoneTwice xs → In i xs → times_in i (stores_into xs) ≡ 1
unfolding times_in
once_in i [] o h = absurd h
once_in i (x ∷ xs) o (inl e) =
    omega (arith, ap one_if (eq-eqb x i (sym e)), never_in i xs (λ g. o.0 (first g e)))
  where
    first : In i xs → i ≡ x → In x xs
    first g e = rw (← e) g
once_in i (x ∷ xs) o (inr g) =
    omega (arith, ap one_if (ne_eqb x i (λ e. o.0 (there e))), once_in i xs o.1 g)
  where
    there : x ≡ i → In x xs
    there e = rw e g

-- ---- the count

pub distinct : (size k : ℕ) (ps : List Put) (xs : List ℕ) → Inside size ps → 1 ≤ k → Names k ps xs → cells_stored size k ps ≡ length xs
distinct size k ps xs i some n =
    sum_ext (λ (j : ℕ). one_if (leb k (times_in j ps))) (λ (j : ℕ). times_in j (stores_into xs)) 0 size (λ j p q. each j)
    ∙ times_in-all size (stores_into xs) (into_inside size xs inside)
    ∙ into_length xs
  where
    each : (j : ℕ) → one_if (leb k (times_in j ps)) ≡ times_in j (stores_into xs)
    each j =
        by_test (leb k (times_in j ps))
        (λ e. rw e (sym (once_in j xs n.once (n.named j (leb-true k (times_in j ps) e)))))
        (λ e. rw e (sym (never_in j xs (λ g. absurd (below j e (n.no_other j g))))))
      where
        below : (j : ℕ) → leb k (times_in j ps) ≡ false → k ≤ times_in j ps → ⊥
        below j e h = omega (arith, leb-false k (times_in j ps) e)

    inside : (j : ℕ) → In j xs → j < size
    inside j g =
        by_test (ltb j size) (λ e. ltb-true j size e)
        (λ e. absurd (outside j (times_outside size ps i j (ltb-false j size e)) (n.no_other j g)))
      where
        outside : (j : ℕ) → times_in j ps ≡ 0 → k ≤ times_in j ps → ⊥
        outside j e h = omega arith

-- of a stream, and so of its row: 1 are the distinct cells, 2 those stored into more than once
pub stream-distinct : (d : Device) (mode : ℕ) (s : List ℕ) → Idle d → from first_mode two_preambles mode ≡ true → Bytes s
    → (k : ℕ) → 1 ≤ k → (xs : List ℕ) → Names k (stores_of d mode s) xs → cells_stored (length d.memory) k (stores_of d mode s) ≡ length xs
unfolding stores_of
stream-distinct d mode s i m u k some xs n =
    distinct (length d.memory) k (stores_of d mode s) xs
    (stores_inside (bytes_of_stream mode s) (started d mode) d.memory (fed-bytes mode s u) (started-kinds d mode i m) (started-registers d mode i m)
    (started_feeds d mode i m)) some n
