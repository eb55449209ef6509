-- A slice of bytes as single bits, each byte least significant bit first, and the bytes that start at any bit of it. Assumes nothing.
use Rattle.std.specs.Prelude.{ℕ, zero, suc, ◌+◌, ◌-◌, ◌*◌, ◌/◌, ◌%◌, ◌^◌, List, [], ◌∷◌, get_or, length}
use Rattle.hunt.specs.declared.Bit.{Bit}

-- bit i of a slice is bit i % 8 of its byte i / 8
unfoldable pub bit_at : List ℕ → ℕ → ℕ
bit_at s i = get_or s (i / 8) 0 / 2 ^ (i % 8) % 2

-- the number that n bits from p on make, the first one the least significant
unfoldable pub bits_from : List ℕ → ℕ → ℕ → ℕ
bits_from s p zero = 0
bits_from s p (suc n) = bit_at s p + 2 * bits_from s (p + 1) n

-- the byte that starts at p
unfoldable pub byte_at : List ℕ → ℕ → ℕ
byte_at s p = bits_from s p 8

-- n bytes one after another, the first starting at p
unfoldable pub bytes_from : List ℕ → ℕ → ℕ → List ℕ
bytes_from s p zero = []
bytes_from s p (suc n) = byte_at s p ∷ bytes_from s (p + 8) n

-- how many whole bytes start at p, one after another: a last part byte is no whole one
unfoldable pub whole_from : List ℕ → ℕ → ℕ
whole_from s p = (8 * length s - p) / 8

-- and how many bits are left after the last of them
unfoldable pub left_from : List ℕ → ℕ → ℕ
left_from s p = (8 * length s - p) % 8

-- where a bit stands that is told by its byte and its place in it, modulo 8
abbrev pub index_of : Bit → ℕ
index_of at = 8 * at.byte + at.bit % 8
