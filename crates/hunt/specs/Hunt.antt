-- The serial bit hunt: where the preamble begins, the bytes from there on, and what the call answers and leaves. Assumes nothing.
use Rattle.std.specs.Prelude.{ℕ, zero, suc, ◌+◌, ◌*◌, Bool, ◌&&◌, ◌≡◌, List, [], ◌∷◌, length, eqb, ltb, leb}
use Rattle.chain.specs.Paper.{preamble, done, no_preamble, too_short}
use Rattle.chain.specs.Rules.{pick, Rule, ◌gives◌, first_of}
use Rattle.chain.specs.Output.{on_done, length_of, output_of}
use Rattle.hunt.specs.declared.Hunted.{Hunted}
use Rattle.hunt.specs.Bits.{byte_at, bytes_from, whole_from, left_from}

-- eight bits of the slice stand at p and make the preamble
unfoldable pub begins_at : List ℕ → ℕ → Bool
begins_at s p = leb (p + 8) (8 * length s) && eqb (byte_at s p) preamble

-- the first of the n positions from p on where they do, or p + n where there is none
unfoldable pub first_from : List ℕ → ℕ → ℕ → ℕ
first_from s zero p = p
first_from s (suc n) p = pick (begins_at s p) p (first_from s n (p + 1))

-- the hunt takes the positions 0 to 64; this one says that there is none
abbrev pub nowhere : ℕ
nowhere = 65

-- the position p, 0 to 64, or nowhere
unfoldable pub found_at : List ℕ → ℕ
found_at s = first_from s nowhere 0

-- the whole bytes that start at p
unfoldable pub hunted_bytes : List ℕ → List ℕ
hunted_bytes s = bytes_from s (found_at s) (whole_from s (found_at s))

-- 5, then 15: room is the length of the output
abbrev pub hunt_rules : List ℕ → ℕ → List Rule
hunt_rules s room =
    (eqb (found_at s) nowhere gives no_preamble)
    ∷ (ltb room (length (hunted_bytes s)) gives too_short)
    ∷ []

unfoldable pub hunt_number : List ℕ → ℕ → ℕ
hunt_number s room = first_of (hunt_rules s room) done

-- the answer: on 0 p, the bits left and the length; and the output after the call
unfoldable pub hunt_of : List ℕ → ℕ → Hunted
hunt_of s room =
    record {
      number = hunt_number s room;
      p = on_done (hunt_number s room) (found_at s);
      left = on_done (hunt_number s room) (left_from s (found_at s));
      length = length_of (hunt_number s room) (hunted_bytes s);
    }

unfoldable pub hunt_out : List ℕ → List ℕ → List ℕ
hunt_out s out = output_of (hunt_number s (length out)) (hunted_bytes s) out

-- what a reader may hold the hunt to: r is the answer, out' the output left
pub record Hunt (s out : List ℕ) (r : Hunted) (out' : List ℕ) : Type 0 where
  pub answer : r ≡ hunt_of s (length out)
  pub output : out' ≡ hunt_out s out
