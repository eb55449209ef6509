-- What is hunted out of a slice: how many bytes, and all of the rest where it begins at a whole byte. Assumes nothing.
use mathlib.Core.Path.{◌≡◌, ap, ◌∙◌}
use mathlib.Core.List.{List}
use Prim.Native.Nat.{ℕ, ◌+◌, ◌-◌, ◌*◌, ◌/◌, ◌^◌, ◌<◌}
use native.Mathlib.Omega.{arith}
use lib.ListN.{length, get_or, drop}
use Rattle.hunt.specs.Bits.{bytes_from, whole_from, left_from}
use Rattle.hunt.specs.Hunt.{nowhere, found_at, hunted_bytes}
use Rattle.hunt.proofs.Found.{found_fits}
use Rattle.hunt.proofs.Bytes.{length-bytes, bytes_rest}

module _ (s : List ℕ) where
  -- as many as whole bytes start at p
  pub hunted_length : length (hunted_bytes s) ≡ whole_from s (found_at s)
  unfolding hunted_bytes
  hunted_length = length-bytes s (found_at s) (whole_from s (found_at s))

  -- the bits before them, theirs and those left are all bits of the slice, and less than eight are left
  pub hunted_bits : found_at s < nowhere
      → (8 * length s ≡ found_at s + 8 * length (hunted_bytes s) + left_from s (found_at s)) × (left_from s (found_at s) < 8)
  unfolding whole_from left_from
  hunted_bits h = (omega (arith, hunted_length, found_fits s h), omega arith)

  -- found at byte q, they are all bytes from there on
  pub hunted_rest : ((i : ℕ) → get_or s i 0 < 2 ^ 8) → (q : ℕ) → found_at s ≡ 8 * q → found_at s < nowhere → hunted_bytes s ≡ drop q s
  unfolding hunted_bytes whole_from
  hunted_rest bytes q e h =
      let fits = found_fits s h in
      ap (λ (p : ℕ). bytes_from s p ((8 * length s - found_at s) / 8)) e ∙ bytes_rest s bytes q ((8 * length s - found_at s) / 8) (omega arith)
