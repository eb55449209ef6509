-- The last position of the hunt, by computation. Assumes nothing.
use mathlib.Core.Path.{◌≡◌, refl}
use mathlib.Core.List.{[], ◌∷◌, ◌++◌}
use lib.ListN.{replicate}
use Rattle.chain.specs.Paper.{preamble, no_preamble}
use Rattle.hunt.specs.Bits.{bit_at, bits_from, byte_at, bytes_from, whole_from, left_from}
use Rattle.hunt.specs.Hunt.{begins_at, first_from, found_at, hunted_bytes, hunt_number, hunt_of}

-- 64 is the last position: one bit later there is none
pub last_found : found_at (replicate 8 0 ++ (preamble ∷ [])) ≡ 64
unfolding bit_at bits_from byte_at begins_at first_from found_at
last_found = refl

pub past_last : hunt_of (replicate 8 0 ++ (0x64 ∷ 0x01 ∷ [])) 9 ≡ record { number = no_preamble; p = 0; left = 0; length = 0 }
unfolding bit_at bits_from byte_at bytes_from whole_from left_from begins_at first_from found_at hunted_bytes hunt_number hunt_of
past_last = refl
