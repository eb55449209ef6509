-- In how many places two lists differ, as far as the shorter goes. Assumes nothing.
use Rattle.std.specs.Prelude.{ℕ, ◌+◌, Bool, true, false, List, [], ◌∷◌, eqb}

abbrev pub one_unless : Bool → ℕ
one_unless true = 0
one_unless false = 1

-- 1 where two numbers differ
abbrev pub unlike_of : ℕ → ℕ → ℕ
unlike_of x y = one_unless (eqb x y)

unfoldable pub differs : List ℕ → List ℕ → ℕ
differs [] ys = 0
differs (x ∷ xs) [] = 0
differs (x ∷ xs) (y ∷ ys) = unlike_of x y + differs xs ys
