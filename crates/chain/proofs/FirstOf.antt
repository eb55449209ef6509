-- 'The first that holds', for any list of rules: which number is given, and when none is. Assumes nothing.
use Prim.Native.Nat.{ℕ}
use mathlib.Core.Bool.{Bool, true, false, not, ◌&&◌}
use mathlib.Core.Path.{◌≡◌, refl}
use mathlib.Core.List.{List, [], ◌∷◌, ◌++◌}
use borrow.Author.Tests.{eqb-false}
use lib.Dec.{T, eqb}
use Rattle.chain.specs.Rules.{pick, Rule, ◌gives◌, first_of}
use Rattle.chain.proofs.ByCases.{either_way}

-- no rule applies
abbrev pub None : List Rule → Type 0
None [] = Unit {0}
None ((holds gives n) ∷ rules) = (holds ≡ false) × None rules

-- n is the number of no rule: the numbers are numerals, so this computes and `tt` proves it
abbrev pub other : List Rule → ℕ → Bool
other [] n = true
other ((holds gives m) ∷ rules) n = not (eqb m n) && other rules n

pub other_than : (m n : ℕ) (b : Bool) → T (not (eqb m n) && b) → (m ≡ n → ⊥) × T b
other_than m n b = go (eqb m n) (eqb-false m n)
  where
    go : (t : Bool) → (t ≡ false → m ≡ n → ⊥) → T (not t && b) → (m ≡ n → ⊥) × T b
    go true d h = absurd h
    go false d h = (d refl, h)

-- the number left over is given exactly if no rule applies
pub first-none : (rules : List Rule) (n : ℕ) → T (other rules n) → first_of rules n ≡ n → None rules
first-none [] n o h = tt
first-none ((true gives m) ∷ rules) n o h = absurd ((other_than m n (other rules n) o).0 h)
first-none ((false gives m) ∷ rules) n o h = (refl, first-none rules n (other_than m n (other rules n) o).1 h)

pub none_first : (rules : List Rule) (n : ℕ) → None rules → first_of rules n ≡ n
none_first [] n h = refl
none_first ((holds gives m) ∷ rules) n h = rw h.0 (none_first rules n h.1)

-- a number that is no rule's and not the one left over is never given
pub first_never : (rules : List Rule) (n m : ℕ) → (n ≡ m → ⊥) → T (other rules m) → first_of rules n ≡ m → ⊥
first_never [] n m d o h = d h
first_never ((true gives k) ∷ rules) n m d o h = (other_than k m (other rules m) o).0 h
first_never ((false gives k) ∷ rules) n m d o h = first_never rules n m d (other_than k m (other rules m) o).1 h

-- ---- rules after rules

module _ (rest : List Rule) (n : ℕ) where
  -- where none of the first applies the rest decides, and else the rest is not asked
  pub first_passes : (front : List Rule) → None front → first_of (front ++ rest) n ≡ first_of rest n
  first_passes [] h = refl
  first_passes ((holds gives m) ∷ front) h = rw h.0 (first_passes front h.1)

  pub first_gives : (front : List Rule) (d : ℕ) → (first_of front d ≡ d → ⊥) → first_of (front ++ rest) n ≡ first_of front d
  first_gives [] d h = absurd (h refl)
  first_gives ((true gives m) ∷ front) d h = refl
  first_gives ((false gives m) ∷ front) d h = first_gives front d h

-- ---- a rule by its number

-- the condition of the rule that gives n
abbrev pub condition_of : List Rule → ℕ → Bool
condition_of [] n = false
condition_of ((holds gives m) ∷ rules) n = pick (eqb m n) holds (condition_of rules n)

pub none-given : (rules : List Rule) → None rules → (n : ℕ) → condition_of rules n ≡ false
none-given [] h n = refl
none-given ((holds gives m) ∷ rules) h n =
    either_way (λ (t : Bool). t ≡ false) (eqb m n) holds (condition_of rules n) h.0 (none-given rules h.1 n)
