-- What is counted over a device's cells: how often each is stored into, and the bits that differ in two memories. Assumes nothing.
use Rattle.std.specs.Prelude.{ℕ, zero, suc, ◌+◌, Bool, List, [], ◌∷◌, eqb, leb, get_or}
use Rattle.std.specs.Int.Bits.{bit_xor}
use Rattle.std.specs.Int.Count.{ones}
use Rattle.chain.specs.Rules.{pick}
use Rattle.grammar.specs.Stores.{Put}

abbrev pub one_if : Bool → ℕ
one_if b = pick b 1 0

-- f i + f (i + 1) + …, n of them
unfoldable pub sum_from : (ℕ → ℕ) → ℕ → ℕ → ℕ
sum_from f i zero = 0
sum_from f i (suc n) = f i + sum_from f (i + 1) n

-- over the cells of a device, 0 to size - 1
abbrev pub over_cells : ℕ → (ℕ → ℕ) → ℕ
over_cells size f = sum_from f 0 size

-- how often the cell i is stored into
unfoldable pub times_in : ℕ → List Put → ℕ
times_in i [] = 0
times_in i (p ∷ ps) = one_if (eqb p.cell i) + times_in i ps

-- the cells that are stored into k times or more
abbrev pub cells_stored : ℕ → ℕ → List Put → ℕ
cells_stored size k ps = over_cells size (λ (i : ℕ). one_if (leb k (times_in i ps)))

-- the bits in which the cell i differs before and after: ones of the two bytes' exclusive or
abbrev pub bits_at : List ℕ → List ℕ → ℕ → ℕ
bits_at before after i = ones (bit_xor (get_or before i 0) (get_or after i 0))

abbrev pub bits_over : ℕ → List ℕ → List ℕ → ℕ
bits_over size before after = over_cells size (bits_at before after)
