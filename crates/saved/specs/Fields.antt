-- Bit-packed fields, most significant first. A layout is the list of its fields' widths; bytes are fields of 8 bits. Assumes nothing.
use Rattle.std.specs.Prelude.{ℕ, ◌+◌, ◌*◌, ◌/◌, ◌%◌, ◌^◌, ◌<◌, List, [], ◌∷◌, replicate}

-- the bits of a layout in all
abbrev pub total : List ℕ → ℕ
total [] = 0
total (w ∷ ws) = w + total ws

-- the number that holds the values, each field above all later ones
abbrev pub packed : List ℕ → List ℕ → ℕ
packed (w ∷ ws) (v ∷ vs) = v * 2 ^ total ws + packed ws vs
packed [] vs = 0
packed (w ∷ ws) [] = 0

-- a value for each width, and each value has no more bits than its width
abbrev pub Fit : List ℕ → List ℕ → Type 0
Fit [] [] = Unit {0}
Fit (w ∷ ws) (v ∷ vs) = (v < 2 ^ w) × Fit ws vs
Fit [] (v ∷ vs) = ⊥
Fit (w ∷ ws) [] = ⊥

-- the values that a number holds
abbrev pub fields_of : List ℕ → ℕ → List ℕ
fields_of [] n = []
fields_of (w ∷ ws) n = n / 2 ^ total ws % 2 ^ w ∷ fields_of ws n

-- the bits of one layout's values, cut at the widths of another
abbrev pub recut : List ℕ → List ℕ → List ℕ → List ℕ
recut ws us vs = fields_of us (packed ws vs)

abbrev pub bytes : ℕ → List ℕ
bytes n = replicate n 8
