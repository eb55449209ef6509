-- Lines of text: a letter, and numbers in decimal with a space before each. Assumes nothing.
use Rattle.std.specs.Prelude.{ℕ, zero, suc, ◌+◌, ◌/◌, ◌%◌, List, [], ◌∷◌, ◌++◌, ltb}
use Rattle.chain.specs.Rules.{pick}

-- ASCII
abbrev pub letter_A : ℕ
letter_A = 65

abbrev pub letter_L : ℕ
letter_L = 76

abbrev pub letter_W : ℕ
letter_W = 87

abbrev pub digit_0 : ℕ
digit_0 = 48

abbrev pub space : ℕ
space = 32

abbrev pub line_feed : ℕ
line_feed = 10

-- a number in decimal: from 10 on the digits of its tenth, then its last digit. No number has more digits than one more than itself
unfoldable pub digits_within : ℕ → ℕ → List ℕ
digits_within zero n = []
digits_within (suc most) n = pick (ltb n 10) [] (digits_within most (n / 10)) ++ (digit_0 + n % 10) ∷ []

unfoldable pub decimal_of : ℕ → List ℕ
decimal_of n = digits_within (suc n) n

-- the rest of a line after its letter
unfoldable pub numbers_of : List ℕ → List ℕ
numbers_of [] = line_feed ∷ []
numbers_of (n ∷ ns) = space ∷ decimal_of n ++ numbers_of ns

abbrev pub line_of : ℕ → List ℕ → List ℕ
line_of letter ns = letter ∷ numbers_of ns
