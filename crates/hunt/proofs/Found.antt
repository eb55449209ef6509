-- Where the hunt finds the preamble: at the first position, 0 to 64, where it begins. Assumes nothing.
use mathlib.Core.Path.{◌≡◌, refl, sym, ap, ◌∙◌}
use mathlib.Core.Bool.{Bool, true, false, ◌&&◌, and-false}
use mathlib.Core.List.{List}
use mathlib.Core.Logic.{◌⊎◌, inl, inr, ⊎_elim}
use Rattle.std.specs.Prelude.{Option, Some, None, MatchOption}
use Rattle.std.specs.Option.{unwrap_or}
use Prim.Native.Nat.{ℕ, zero, suc, ◌+◌, ◌*◌, ◌<◌, ◌≤◌}
use native.Mathlib.Nat.{eq-or-lt_of_le}
use native.Mathlib.Omega.{arith}
use borrow.Author.Tests.{le-leb, lt-leb}
use lib.Dec.{leb, eqb}
use lib.ListN.{length}
use Rattle.chain.specs.Paper.{preamble}
use Rattle.chain.specs.Rules.{pick}
use Rattle.chain.proofs.Means.{says, reads}
use Rattle.hunt.specs.Bits.{byte_at}
use Rattle.hunt.specs.Hunt.{begins_at, first_from, nowhere, found_at}
use Rattle.hunt.proofs.Windows.{lt-or_ge}

-- eight bits stand there, or not
pub begins_in : (s : List ℕ) (p : ℕ) → p + 8 ≤ 8 * length s → begins_at s p ≡ eqb (byte_at s p) preamble
unfolding begins_at
begins_in s p h = ap (λ (b : Bool). b && eqb (byte_at s p) preamble) (le-leb _ _ h)

pub begins_out : (s : List ℕ) (p : ℕ) → 8 * length s < p + 8 → begins_at s p ≡ false
unfolding begins_at
begins_out s p h = ap (λ (b : Bool). b && eqb (byte_at s p) preamble) (lt-leb _ _ h)

pub begins-not : (s : List ℕ) (p : ℕ) → eqb (byte_at s p) preamble ≡ false → begins_at s p ≡ false
unfolding begins_at
begins-not s p e = ap (λ (b : Bool). leb (p + 8) (8 * length s) && b) e ∙ and-false (leb (p + 8) (8 * length s))

not-both : {P : Type 0} (b : Bool) → b ≡ true → b ≡ false → P
not-both b t f = absurd (let z : ◌≡◌ {A = ℕ} 0 1 = cc in omega arith)

-- where it begins, eight bits stand
pub begins_fits : (s : List ℕ) (p : ℕ) → begins_at s p ≡ true → p + 8 ≤ 8 * length s
unfolding begins_at
begins_fits s p e =
    let t : (p + 8 ≤ 8 * length s) × (byte_at s p ≡ preamble) = says (search reads) e in t.0

-- one position looked at
pub first_hit : (s : List ℕ) (n p : ℕ) → begins_at s p ≡ true → first_from s (suc n) p ≡ p
unfolding first_from
first_hit s n p e = ap (λ (b : Bool). pick b p (first_from s n (p + 1))) e

pub first_miss : (s : List ℕ) (n p : ℕ) → begins_at s p ≡ false → first_from s (suc n) p ≡ first_from s n (p + 1)
unfolding first_from
first_miss s n p e = ap (λ (b : Bool). pick b p (first_from s n (p + 1))) e

-- what n positions from p on give: none past them; if one of them, the preamble begins there; and it begins at none before
module _ (s : List ℕ) where
  first-le : (n p : ℕ) → first_from s n p ≤ p + n
  unfolding first_from
  first-le zero p = omega arith
  first-le (suc n) p = go (begins_at s p) (first-le n (p + 1))
    where
      go : (b : Bool) → first_from s n (p + 1) ≤ p + 1 + n → pick b p (first_from s n (p + 1)) ≤ p + suc n
      go true l = omega arith
      go false l = omega arith

  first-begins : (n p : ℕ) → first_from s n p < p + n → begins_at s (first_from s n p) ≡ true
  unfolding first_from
  first-begins zero p h = absurd (omega arith)
  first-begins (suc n) p h = go (begins_at s p) refl h (first-begins n (p + 1))
    where
      go : (b : Bool) → begins_at s p ≡ b → pick b p (first_from s n (p + 1)) < p + suc n
          → (first_from s n (p + 1) < p + 1 + n → begins_at s (first_from s n (p + 1)) ≡ true) → begins_at s (pick b p (first_from s n (p + 1))) ≡ true
      go true e l rest = e
      go false e l rest = rest (omega arith)

  first-before : (n p q : ℕ) → p ≤ q → q < first_from s n p → begins_at s q ≡ false
  unfolding first_from
  first-before zero p q g h = absurd (omega arith)
  first-before (suc n) p q g h = go (begins_at s p) refl h (first-before n (p + 1) q)
    where
      go : (b : Bool) → begins_at s p ≡ b → q < pick b p (first_from s n (p + 1))
          → (p + 1 ≤ q → q < first_from s n (p + 1) → begins_at s q ≡ false) → begins_at s q ≡ false
      go true e l rest = absurd (omega arith)
      go false e l rest =
          ⊎_elim
          (λ a. ap (begins_at s) (sym a) ∙ e)
          (λ a. rest (omega arith) l)
          (eq-or-lt_of_le g)

  pub found_le : found_at s ≤ nowhere
  unfolding found_at
  found_le = first-le nowhere 0

  -- where the hunt finds a position, the preamble begins there
  pub found_begins : found_at s < nowhere → begins_at s (found_at s) ≡ true
  unfolding found_at
  found_begins h = first-begins nowhere 0 h

  -- and it begins nowhere before
  pub found_before : (q : ℕ) → q < found_at s → begins_at s q ≡ false
  unfolding found_at
  found_before q h = first-before nowhere 0 q (omega arith) h

  pub found_none : ((q : ℕ) → q < nowhere → begins_at s q ≡ false) → found_at s ≡ nowhere
  found_none none =
      ⊎_elim
      (λ l. not-both (begins_at s (found_at s)) (found_begins l) (none (found_at s) l))
      (λ g. omega (arith, found_le))
      (lt-or_ge (found_at s) nowhere)

  -- a position that is found has its eight bits in the slice
  pub found_fits : found_at s < nowhere → found_at s + 8 ≤ 8 * length s
  found_fits h = begins_fits s (found_at s) (found_begins h)

  -- what a search from 0 on finds
  pub found_by : (r : Option ℕ) → MatchOption r ((k : ℕ) → 0 ≤ k → k < nowhere → begins_at s k ≡ false)
      (λ i. (0 ≤ i) × (i < nowhere) × (begins_at s i ≡ true) × ((k : ℕ) → 0 ≤ k → k < i → begins_at s k ≡ false))
      → MatchOption r (found_at s ≡ nowhere) (λ p. (p ≡ found_at s) × (p < nowhere))
  found_by None none = found_none (λ q l. none q (omega arith) l)
  found_by (Some i) f = (same (lt-or_ge i (found_at s)) (lt-or_ge (found_at s) i), f.1)
    where
      same : (i < found_at s) ⊎ (found_at s ≤ i) → (found_at s < i) ⊎ (i ≤ found_at s) → i ≡ found_at s
      same (inl l) g = not-both (begins_at s i) f.2 (found_before i l)
      same (inr l) (inl g) = not-both (begins_at s (found_at s)) (found_begins (omega (arith, f.1))) (f.3 (found_at s) (omega arith) g)
      same (inr l) (inr g) = omega arith

-- a position in a number, nowhere for none
pub found_or : (s : List ℕ) (r : Option ℕ) → MatchOption r (found_at s ≡ nowhere) (λ p. (p ≡ found_at s) × (p < nowhere))
    → (unwrap_or r nowhere ≡ found_at s) × (unwrap_or r nowhere ≤ nowhere)
found_or s None none = (sym none, omega arith)
found_or s (Some p) f = (f.0, omega (arith, f.1))
