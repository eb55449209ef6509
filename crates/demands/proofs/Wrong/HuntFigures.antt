-- Wrong figures of the hunt, each shut out on document 01's 64 01: the preamble begins at 1, and seven bits are left. Assumes nothing.
use Prim.Native.Nat.{ℕ}
use mathlib.Core.Path.{◌≡◌, refl}
use mathlib.Core.List.{List, [], ◌∷◌}
use native.Mathlib.Omega.{arith}
use Rattle.hunt.specs.Bits.{bit_at, bits_from, byte_at, bytes_from, whole_from, left_from}
use Rattle.hunt.specs.Hunt.{begins_at, first_from, found_at, hunted_bytes, hunt_number, hunt_of}
use Rattle.demands.specs.WherePreamble.{SaysWhere}
use Rattle.demands.specs.Wrong.{left_before, counts_from_one, told_refused}

abbrev sent : List ℕ
sent = 0x64 ∷ 0x01 ∷ []

-- one bit left: 16 bits would be 1 + 8 + 1
pub left_before_out : SaysWhere left_before → ⊥
unfolding bit_at bits_from byte_at bytes_from whole_from left_from begins_at first_from found_at hunted_bytes hunt_number hunt_of
left_before_out d = let e : ◌≡◌ {A = ℕ} 16 10 = (d.found sent (0 ∷ []) refl).bits in omega (arith, e)

-- the preamble at 2: 16 bits would be 2 + 8 + 7
pub from_one_out : SaysWhere counts_from_one → ⊥
unfolding bit_at bits_from byte_at bytes_from whole_from left_from begins_at first_from found_at hunted_bytes hunt_number hunt_of
from_one_out d = let e : ◌≡◌ {A = ℕ} 16 17 = (d.found sent (0 ∷ []) refl).bits in omega (arith, e)

-- no room for a byte, and yet a position
pub told_refused_out : SaysWhere told_refused → ⊥
unfolding bit_at bits_from byte_at bytes_from whole_from left_from begins_at first_from found_at hunted_bytes hunt_number hunt_of
told_refused_out d = let e : ◌≡◌ {A = ℕ} 1 0 = (d.refused sent [] (λ z. omega (arith, z))).p in omega (arith, e)
