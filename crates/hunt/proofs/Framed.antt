-- A stream as modes 3 and 4 have it, 00 B2 and any bytes: found at 8, and hunted out from the preamble on. Assumes nothing.
use mathlib.Core.Path.{◌≡◌, refl, ◌∙◌}
use mathlib.Core.List.{List, ◌∷◌}
use Prim.Native.Nat.{ℕ, zero, suc, ◌^◌, ◌<◌}
use native.Mathlib.Omega.{arith}
use lib.ListN.{length, take, get_or}
use Rattle.chain.specs.Paper.{preamble}
use Rattle.hunt.specs.Bits.{bit_at, bits_from, byte_at}
use Rattle.hunt.specs.Hunt.{found_at, hunted_bytes, hunt_of, hunt_out}
use Rattle.hunt.proofs.Found.{begins_in, begins-not, first_hit, first_miss}
use Rattle.hunt.proofs.Answers.{number-done, done-front}
use Rattle.hunt.proofs.HuntedOut.{hunted_rest}

module _ (xs : List ℕ) where
  pub framed_at : found_at (0 ∷ preamble ∷ xs) ≡ 8
  unfolding found_at byte_at bits_from bit_at
  framed_at =
      let s : List ℕ = 0 ∷ preamble ∷ xs in
      first_miss s 64 0 (begins-not s 0 refl)
      ∙ first_miss s 63 1 (begins-not s 1 refl)
      ∙ first_miss s 62 2 (begins-not s 2 refl)
      ∙ first_miss s 61 3 (begins-not s 3 refl)
      ∙ first_miss s 60 4 (begins-not s 4 refl)
      ∙ first_miss s 59 5 (begins-not s 5 refl)
      ∙ first_miss s 58 6 (begins-not s 6 refl)
      ∙ first_miss s 57 7 (begins-not s 7 refl)
      ∙ first_hit s 56 8 (begins_in s 8 (omega arith))

  pub framed-bytes : ((i : ℕ) → get_or xs i 0 < 2 ^ 8) → hunted_bytes (0 ∷ preamble ∷ xs) ≡ preamble ∷ xs
  framed-bytes bytes = hunted_rest (0 ∷ preamble ∷ xs) below 1 framed_at (omega (arith, framed_at))
    where
      below : (i : ℕ) → get_or (0 ∷ preamble ∷ xs) i 0 < 2 ^ 8
      below zero = omega arith
      below (suc zero) = omega arith
      below (suc (suc i)) = bytes i

  -- and the call on it, lent room for all of it
  pub framed-front : ((i : ℕ) → get_or xs i 0 < 2 ^ 8) → (out : List ℕ) → length xs < length out
      → take (hunt_of (0 ∷ preamble ∷ xs) (length out)).length (hunt_out (0 ∷ preamble ∷ xs) out) ≡ preamble ∷ xs
  framed-front bytes out l =
      let e = framed-bytes bytes in
      done-front (0 ∷ preamble ∷ xs) out (number-done (0 ∷ preamble ∷ xs) out (omega (arith, framed_at)) (rw e l)) ∙ e
