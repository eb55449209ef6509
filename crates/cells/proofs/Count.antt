-- Differing places counted one by one, or in blocks. Assumes nothing.
use Prim.Native.Nat.{ℕ, zero, suc, ◌+◌, ◌<◌, ◌≤◌}
use mathlib.Core.Bool.{Bool, true, false}
use mathlib.Core.Path.{◌≡◌, refl, ap, ◌∙◌}
use mathlib.Core.List.{List, [], ◌∷◌, ◌++◌}
use Rattle.std.proofs.Common.{min, length-append}
use Rattle.std.proofs.lemmas.Bool.{cases_lt}
use mathlib.Core.Logic.{◌⊎◌, inl, inr}
use native.Mathlib.Numerals.{add-one}
use native.Mathlib.Omega.{arith}
use lib.Dec.{eqb}
use lib.ListN.{length, get_or, set, take, drop, drop_of_length-le}
use lib.Seq.{sets, set_out, drop-cons}
use Rattle.cells.specs.Differ.{one_unless, differs}

miss_le : (q : Bool) → one_unless q ≤ 1
miss_le true = omega arith
miss_le false = omega arith

pub differs-le : (xs ys : List ℕ) → differs xs ys ≤ length ys
unfolding differs
differs-le [] ys = omega arith
differs-le (x ∷ xs) [] = omega arith
differs-le (x ∷ xs) (y ∷ ys) = omega (arith, miss_le (eqb x y), differs-le xs ys)

differs_none : (xs : List ℕ) → differs xs [] ≡ 0
unfolding differs
differs_none [] = refl
differs_none (x ∷ xs) = refl

pub differs-end : (xs ys : List ℕ) (i : ℕ) → (length xs ≤ i) ⊎ (length ys ≤ i) → differs (drop i xs) (drop i ys) ≡ 0
unfolding differs
differs-end xs ys i (inl h) = rw (drop_of_length-le xs h)
differs-end xs ys i (inr h) = rw (drop_of_length-le ys h) (differs_none (drop i xs))

-- n places more
pub differs_split : (n : ℕ) (xs ys : List ℕ)
    → differs xs ys ≡ differs (take n xs) (take n ys) + differs (drop n xs) (drop n ys)
unfolding differs
differs_split zero xs ys = omega arith
differs_split (suc n) [] ys = refl
differs_split (suc n) (x ∷ xs) [] = omega (arith, differs-le (drop n xs) [])
differs_split (suc n) (x ∷ xs) (y ∷ ys) = omega (arith, differs_split n xs ys)

-- a copy, one byte further; and past the end of either
pub copy_turn : (d s : List ℕ) (i : ℕ) → i < length s → sets d i (drop i s) ≡ sets (set d i (get_or s i 0)) (i + 1) (drop (i + 1) s)
copy_turn d s i h = rw (add-one, drop-cons s i 0 h)

pub sets_out : (vs l : List ℕ) (i : ℕ) → length l ≤ i → sets l i vs ≡ l
sets_out [] l i h = refl
sets_out (v ∷ vs) l i h = rw (set_out l i v h) (sets_out vs l (suc i) (omega arith))

pub copy_end : (d s : List ℕ) (i : ℕ) → (length d ≤ i) ⊎ (length s ≤ i) → sets d i (drop i s) ≡ d
copy_end d s i (inl h) = sets_out (drop i s) d i h
copy_end d s i (inr h) = rw (drop_of_length-le s h)

pub differs_append : (xs ys us vs : List ℕ) → length xs ≡ length ys → differs (xs ++ us) (ys ++ vs) ≡ differs xs ys + differs us vs
unfolding differs
differs_append [] [] us vs h = omega arith
differs_append [] (y ∷ ys) us vs h = absurd (omega (arith, h))
differs_append (x ∷ xs) [] us vs h = absurd (omega (arith, h))
differs_append (x ∷ xs) (y ∷ ys) us vs h = omega (arith, differs_append xs ys us vs (omega (arith, h)))

-- a block further: of two lists of one length the first blocks and what is left
pub differs_block : (us vs xs ys us' vs' : List ℕ) (n m : ℕ) → n ≡ m → length us ≡ length vs
    → us ≡ xs ++ us' → length xs ≡ min n (length us) → vs ≡ ys ++ vs' → length ys ≡ min m (length vs)
    → record {
      even : length us' ≡ length vs';
      left : length ys + length vs' ≡ length vs;
      few : differs xs ys ≤ length ys;
      both : differs us vs ≡ differs xs ys + differs us' vs';
    }
differs_block us vs xs ys us' vs' n m same even a long b wide =
    let block : length xs ≡ length ys = omega (arith, long, wide, same, even) in
    let la : length us ≡ length xs + length us' = ap length a ∙ length-append xs us' in
    let lb : length vs ≡ length ys + length vs' = ap length b ∙ length-append ys vs' in
    record {
      even = omega (arith, la, lb, block, even);
      left = omega (arith, lb);
      few = differs-le xs ys;
      both = rw (a, b) (differs_append xs ys us' vs' block);
    }

-- as far as the shorter goes is all
pub differs_least : (xs ys : List ℕ) (n : ℕ) → n ≡ min (length xs) (length ys) → differs (take n xs) (take n ys) ≡ differs xs ys
differs_least xs ys n least = omega (arith, differs_split n xs ys, differs-end xs ys n (shorter (cases_lt (length xs) (length ys))))
  where
    shorter : (length xs < length ys) ⊎ (length ys ≤ length xs) → (length xs ≤ n) ⊎ (length ys ≤ n)
    shorter (inl h) = inl (omega (arith, least, h))
    shorter (inr h) = inr (omega (arith, least, h))

pub differs_empty : (xs ys : List ℕ) → length xs ≡ 0 → differs xs ys ≡ 0
unfolding differs
differs_empty [] ys h = refl
differs_empty (x ∷ xs) ys h = absurd (omega (arith, h))
