-- A window of cells: its bounds come as two bytes each, high and low, and it covers start to end inclusive. Assumes nothing.
use Rattle.std.specs.Prelude.{ℕ, ◌+◌, ◌-◌, ◌*◌, ◌/◌, ◌%◌, Bool, not, ◌&&◌, ◌||◌, ltb, leb, List, [], ◌∷◌}
use Rattle.chain.specs.Paper.{done, bad_start, bad_end}
use Rattle.chain.specs.Rules.{pick}

-- a number of two bytes, and its bytes
abbrev pub word : ℕ → ℕ → ℕ
word high low = high * 256 + low

abbrev pub high_byte : ℕ → ℕ
high_byte x = x / 256

abbrev pub low_byte : ℕ → ℕ
low_byte x = x % 256

-- x with another low byte: a bound whose high byte came first is kept as a multiple of 256
abbrev pub with_low : ℕ → ℕ → ℕ
with_low x low = word (high_byte x) low

-- start to end inclusive are end - start + 1 cells
abbrev pub width_of : ℕ → ℕ → ℕ
width_of start end = end - start + 1

-- a start not below the device's size
abbrev pub start_outside : ℕ → ℕ → Bool
start_outside size start = not (ltb start size)

-- an end below start, or not below the size
abbrev pub end_outside : ℕ → ℕ → ℕ → Bool
end_outside size start end = ltb end start || not (ltb end size)

-- a window that a device of that size has
abbrev pub fits_of : ℕ → ℕ → ℕ → Bool
fits_of size start end = ltb start size && leb start end && ltb end size

-- what refuses a window: its start, then its end
abbrev pub window_number : ℕ → ℕ → ℕ → ℕ
window_number size start end = pick (start_outside size start) bad_start (pick (end_outside size start end) bad_end done)

-- the five bytes before a window's data: null byte, start, end
abbrev pub framing_of : ℕ → ℕ → List ℕ
framing_of start end = 0 ∷ high_byte start ∷ low_byte start ∷ high_byte end ∷ low_byte end ∷ []
