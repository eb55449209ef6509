-- The hunt's three ways to answer: no position, an output too short, the bytes written. Assumes nothing.
use mathlib.Core.Path.{◌≡◌, refl, sym, ap, ap₂, ◌∙◌}
use mathlib.Core.List.{List}
use mathlib.Core.Logic.{◌⊎◌, ⊎_elim}
use Prim.Native.Nat.{ℕ, ◌+◌, ◌-◌, ◌*◌, ◌/◌, ◌%◌, ◌<◌, ◌≤◌}
use native.Mathlib.Omega.{arith}
use borrow.Author.Tests.{eq-eqb, ne_eqb, eqb-false, lt-ltb, le-ltb}
use lib.Dec.{eqb, ltb}
use lib.ListN.{length, take, drop}
use lib.Seq.{sets, take_at}
use Rattle.cells.proofs.Over.{sets-front}
use Rattle.chain.specs.Paper.{done, no_preamble, too_short}
use Rattle.chain.specs.Rules.{pick}
use Rattle.chain.specs.Output.{over}
use Rattle.chain.proofs.ByCases.{by_test}
use Rattle.hunt.specs.declared.Bit.{Bit}
use Rattle.hunt.specs.Bits.{bytes_from, whole_from, left_from, index_of}
use Rattle.hunt.specs.Hunt.{nowhere, found_at, hunted_bytes, hunt_number, hunt_of, hunt_out, Hunt}
use Rattle.hunt.proofs.Found.{found_le, found_fits}
use Rattle.hunt.proofs.Bytes.{length-bytes, whole_is, left_is}

-- the bytes and their number, from the position and the count that the code has
pub hunted-from : (s : List ℕ) (p : ℕ) → p ≡ found_at s → hunted_bytes s ≡ bytes_from s p (length s - (p + 7) / 8)
unfolding hunted_bytes
hunted-from s p e = sym (ap₂ (bytes_from s) e (whole_is s p ∙ ap (whole_from s) e))

pub hunted-count : (s : List ℕ) (p : ℕ) → p ≡ found_at s → length (hunted_bytes s) ≡ length s - (p + 7) / 8
hunted-count s p e = ap length (hunted-from s p e) ∙ length-bytes s p (length s - (p + 7) / 8)

module _ (s out : List ℕ) where
  refused : (n : ℕ) → hunt_number s (length out) ≡ n → (n ≡ done → ⊥) → Hunt s out (record { number = n; p = 0; left = 0; length = 0 }) out
  unfolding hunt_of hunt_out
  refused n e z = record { answer = rw (e, ne_eqb n done z); output = rw (e, ne_eqb n done z) }

  number-found : found_at s < nowhere → hunt_number s (length out) ≡ pick (ltb (length out) (length (hunted_bytes s))) too_short done
  unfolding hunt_number
  number-found h = rw (ne_eqb (found_at s) nowhere (λ e. omega arith))

  pub number-done : found_at s < nowhere → length (hunted_bytes s) ≤ length out → hunt_number s (length out) ≡ done
  number-done h l = number-found h ∙ rw (le-ltb (length out) (length (hunted_bytes s)) l)

  -- accepted, it found a position, and these are its figures
  pub done-found : hunt_number s (length out) ≡ done → found_at s < nowhere
  unfolding hunt_number
  done-found n =
      by_test (eqb (found_at s) nowhere)
      (λ y. let z : no_preamble ≡ done = simp y at n in absurd (omega (arith, z)))
      (λ y. let z = eqb-false (found_at s) nowhere y in omega (arith, found_le s))

  pub done-figures : hunt_number s (length out) ≡ done
      → ((hunt_of s (length out)).p ≡ found_at s) × ((hunt_of s (length out)).left ≡ left_from s (found_at s)) × ((hunt_of s (length out)).length ≡ length (hunted_bytes s))
  unfolding hunt_of
  done-figures n = (rw n, rw n, rw n)

  -- the output, and what stands in the front part that it says it wrote
  pub done-output : hunt_number s (length out) ≡ done → hunt_out s out ≡ over (hunted_bytes s) out
  unfolding hunt_out
  done-output n = rw n

  pub done-front : hunt_number s (length out) ≡ done → take (hunt_of s (length out)).length (hunt_out s out) ≡ hunted_bytes s
  done-front n = rw ((done-figures n).2, done-output n) (take_at (hunted_bytes s) (drop (length (hunted_bytes s)) out) (length (hunted_bytes s)) refl)

  written : found_at s < nowhere → length (hunted_bytes s) ≤ length out
      → Hunt s out (record { number = done; p = found_at s; left = left_from s (found_at s); length = length (hunted_bytes s) }) (over (hunted_bytes s) out)
  unfolding hunt_of hunt_out
  written h l =
      let n = number-done h l in
      record { answer = rw n; output = rw n }

-- what the code answers and leaves, from its own position and count
pub hunt-none : (s out : List ℕ) (p : ℕ) → p ≡ found_at s → nowhere ≤ p → p ≤ nowhere → Hunt s out (record { number = no_preamble; p = 0; left = 0; length = 0 }) out
unfolding hunt_number
hunt-none s out p e g l = refused s out no_preamble (rw (eq-eqb (found_at s) nowhere (omega arith))) (omega arith)

pub found_in : (s : List ℕ) (p : ℕ) → p ≡ found_at s → p < nowhere → p + 8 ≤ 8 * length s
found_in s p e h = omega (arith, found_fits s (omega arith))

module _ (s out : List ℕ) (p : ℕ) (e : p ≡ found_at s) (h : p < nowhere) where
  pub hunt-short : length out < length s - (p + 7) / 8 → Hunt s out (record { number = too_short; p = 0; left = 0; length = 0 }) out
  hunt-short l =
      let short : length out < length (hunted_bytes s) = omega (arith, hunted-count s p e) in
      refused s out too_short (number-found s out (omega arith) ∙ rw (lt-ltb (length out) (length (hunted_bytes s)) short)) (omega arith)

  -- m bytes from the bit at on: as many as there are, since there is room for them
  pub hunt-written : (out' : List ℕ) (m : ℕ) (at : Bit) → index_of at ≡ p → length s - (p + 7) / 8 ≤ length out
      → (m ≤ length out) × (m ≤ whole_from s (index_of at)) × ((m ≡ length out) ⊎ (m ≡ whole_from s (index_of at)))
      → out' ≡ sets out 0 (bytes_from s (index_of at) m)
      → Hunt s out (record { number = done; p = p; left = (8 - p % 8) % 8; length = length s - (p + 7) / 8 }) out'
  hunt-written out' m at g l b w =
      let whole : whole_from s (index_of at) ≡ length s - (p + 7) / 8 = ap (whole_from s) g ∙ sym (whole_is s p) in
      let n : length s - (p + 7) / 8 ≡ length (hunted_bytes s) = sym (hunted-count s p e) in
      let all : m ≡ length s - (p + 7) / 8 = ⊎_elim (λ full. omega arith) (λ all. omega arith) b.2 in
      let left : (8 - p % 8) % 8 ≡ left_from s p = left_is s p (found_in s p e h) in
      let bytes : bytes_from s (index_of at) m ≡ hunted_bytes s = ap₂ (bytes_from s) g all ∙ sym (hunted-from s p e) in
      let r = written s out (omega arith) (omega arith) in
      record {
        answer = rw (left, n, e) r.answer;
        output = w ∙ ap (sets out 0) bytes ∙ sets-front (hunted_bytes s) out (omega arith) ∙ r.output;
      }
