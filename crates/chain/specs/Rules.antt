-- How a call's number is found: its refusals are one list, in document 01's order, and the first that holds gives the number. And tables by
-- awaited byte. Assumes nothing.
use Rattle.std.specs.Prelude.{ℕ, Bool, true, false, not, ◌&&◌, ◌||◌, List, [], ◌∷◌, eqb, leb}

abbrev pub pick : {A : Type 0} → Bool → A → A → A
pick true a b = a
pick false a b = b

-- a condition and the number that it gives
pub data Rule : Type 0 where
  ◌gives◌ : Bool → ℕ → Rule

infix 25 ◌gives◌
-- the number of the first rule whose condition holds, n where none does
abbrev pub first_of : List Rule → ℕ → ℕ
first_of [] n = n
first_of ((holds gives m) ∷ rules) n = pick holds m (first_of rules n)

-- a row of a table by awaited byte
pub data Row (A : Type 0) : Type 0 where
  ◌⇒◌ : ℕ → A → Row A

infix 25 ◌⇒◌
-- what the table has for the awaited byte a, and other where it has no such row
abbrev pub row_of : {A : Type 0} → ℕ → List (Row A) → A → A
row_of a [] other = other
row_of a ((n ⇒ x) ∷ rows) other = pick (eqb a n) x (row_of a rows other)

-- all of them hold
abbrev pub all_from : Bool → List Bool → Bool
all_from held [] = held
all_from held (b ∷ bs) = all_from (held && b) bs

abbrev pub all_of : List Bool → Bool
all_of [] = true
all_of (b ∷ bs) = all_from b bs

infix 28 ◌implies◌
abbrev pub ◌implies◌ : Bool → Bool → Bool
a implies b = not a || b

-- x is between a and b, or one of them
abbrev pub from : ℕ → ℕ → ℕ → Bool
from a b x = leb a x && leb x b
