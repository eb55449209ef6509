-- Window by window: 11 and 12 are those of the first window that is not within the size. Assumes nothing.
use Prim.Native.Nat.{ℕ, zero, suc, ◌≤◌, ◌<◌}
use mathlib.Core.Bool.{Bool, true, false, not, ◌||◌, or-true}
use mathlib.Core.Path.{◌≡◌, refl}
use mathlib.Core.List.{List, [], ◌∷◌}
use mathlib.Core.Logic.{◌⊎◌, inl, inr, ⊎_elim}
use native.Mathlib.Omega.{arith}
use native.Mathlib.Nat.{le_of_suc-le-suc, not-suc-le-zero}
use borrow.Author.Tests.{ltb-true, ltb-false, lt-ltb, le-ltb, not-true, not-false}
use lib.Dec.{ltb}
use lib.ListN.{length, take, get_or}
use Rattle.chain.proofs.ByCases.{by_test}
use Rattle.chain.specs.Paper.{done, bad_start, bad_end}
use Rattle.writer.specs.Write.{windows_number}
use Rattle.writer.proofs.Accepted.{both_false, Within, within-done}

-- window i is there, and all before it are within the size
pub record UpTo (size : ℕ) (ss es : List ℕ) (i : ℕ) : Type 0 where
  pub started : i < length ss
  pub ended : i < length es
  pub before : Within size (take i ss) (take i es)

-- all are within; or one's start is not below the size; or its end is below its start or not below the size
pub data First (size : ℕ) (ss es : List ℕ) : ℕ → Type 0 where
  inside : Within size ss es → First size ss es done
  start : (i : ℕ) → UpTo size ss es i → size ≤ get_or ss i 0 → First size ss es bad_start
  end : (i : ℕ) → UpTo size ss es i → get_or ss i 0 < size → (get_or es i 0 < get_or ss i 0) ⊎ (size ≤ get_or es i 0) → First size ss es bad_end

either_true : (a b : Bool) → (a || b) ≡ true → (a ≡ true) ⊎ (b ≡ true)
either_true true b h = inl refl
either_true false b h = inr h

module _ (size s e : ℕ) (ss es : List ℕ) where
  none : UpTo size (s ∷ ss) (e ∷ es) 0
  none = record { started = omega arith; ended = omega arith; before = tt }

  more : (i : ℕ) → s ≤ e → e < size → UpTo size ss es i → UpTo size (s ∷ ss) (e ∷ es) (suc i)
  more i a b u = record { started = omega (arith, u.started); ended = omega (arith, u.ended); before = (a, b, u.before) }

  less : (i : ℕ) → UpTo size (s ∷ ss) (e ∷ es) (suc i) → UpTo size ss es i
  less i u = record { started = le_of_suc-le-suc u.started; ended = le_of_suc-le-suc u.ended; before = u.before.2 }

  next : (n : ℕ) → s ≤ e → e < size → First size ss es n → First size (s ∷ ss) (e ∷ es) n
  next n a b (inside w) = inside (a, b, w)
  next n a b (start i u h) = start (suc i) (more i a b u) h
  next n a b (end i u h g) = end (suc i) (more i a b u) h g

pub first : (size : ℕ) (ss es : List ℕ) → First size ss es (windows_number size ss es)
unfolding windows_number
first size [] es = inside tt
first size (s ∷ ss) [] = inside tt
first size (s ∷ ss) (e ∷ es) =
    by_test (ltb s size)
    (λ p.
    by_test (ltb e s || not (ltb e size))
    (λ q. simp (p, q)
    (end 0 (none size s e ss es) (ltb-true s size p)
    (⊎_elim (λ t. inl (ltb-true e s t)) (λ t. inr (ltb-false e size (not-true (ltb e size) t))) (either_true (ltb e s) (not (ltb e size)) q))))
    (λ q.
    let t = both_false (ltb e s) (not (ltb e size)) q in
    simp (p, q)
    (next size s e ss es (windows_number size ss es) (ltb-false e s t.0) (ltb-true e size (not-false (ltb e size) t.1)) (first size ss es))))
    (λ p. simp p (start 0 (none size s e ss es) (ltb-false s size p)))

-- and no other number is
skip : (size s e : ℕ) (ss es : List ℕ) (n : ℕ) → (s ≤ e) × (e < size) → windows_number size ss es ≡ n → windows_number size (s ∷ ss) (e ∷ es) ≡ n
unfolding windows_number
skip size s e ss es n w h = simp (lt-ltb s size (omega arith), le-ltb e s w.0, lt-ltb e size w.1) h

start_first : (size : ℕ) (ss es : List ℕ) (i : ℕ) → UpTo size ss es i → size ≤ get_or ss i 0 → windows_number size ss es ≡ bad_start
unfolding windows_number
start_first size [] es i u h = absurd (not-suc-le-zero u.started)
start_first size (s ∷ ss) [] i u h = absurd (not-suc-le-zero u.ended)
start_first size (s ∷ ss) (e ∷ es) zero u h = simp (le-ltb s size h)
start_first size (s ∷ ss) (e ∷ es) (suc i) u h =
    skip size s e ss es bad_start (u.before.0, u.before.1) (start_first size ss es i (less size s e ss es i u) h)

end-first : (size : ℕ) (ss es : List ℕ) (i : ℕ) → UpTo size ss es i → get_or ss i 0 < size → (get_or es i 0 < get_or ss i 0) ⊎ (size ≤ get_or es i 0)
    → windows_number size ss es ≡ bad_end
unfolding windows_number
end-first size [] es i u h g = absurd (not-suc-le-zero u.started)
end-first size (s ∷ ss) [] i u h g = absurd (not-suc-le-zero u.ended)
end-first size (s ∷ ss) (e ∷ es) zero u h (inl g) = simp (lt-ltb s size h, lt-ltb e s g)
end-first size (s ∷ ss) (e ∷ es) zero u h (inr g) = simp (lt-ltb s size h, le-ltb e size g, or-true)
end-first size (s ∷ ss) (e ∷ es) (suc i) u h g =
    skip size s e ss es bad_end (u.before.0, u.before.1) (end-first size ss es i (less size s e ss es i u) h g)

pub first_only_lem : (size : ℕ) (ss es : List ℕ) (n : ℕ) → First size ss es n → windows_number size ss es ≡ n
first_only_lem size ss es n (inside w) = within-done size ss es w
first_only_lem size ss es n (start i u h) = start_first size ss es i u h
first_only_lem size ss es n (end i u h g) = end-first size ss es i u h g
