-- Bytes put into a store: a place holds the last byte sent to it, and a front part put before all of them changes nothing. Assumes nothing.
use Prim.Native.Nat.{ℕ, ◌<◌}
use mathlib.Core.Path.{◌≡◌, refl, ap, sym, ◌∙◌}
use mathlib.Core.List.{List, [], ◌∷◌, ◌++◌}
use native.Mathlib.Omega.{arith}
use lib.Dec.{eqb}
use lib.ListN.{length, get_or, take, drop, length-set, take-append-drop}
use lib.Seq.{get_or-set_same, get_or-set_other, ext_get_or}
use borrow.Author.Tests.{eqb-true, eqb-false}
use Rattle.chain.proofs.ByCases.{by_test}
use Rattle.grammar.specs.Sent.{Sent, Store, Slot, no_slot, index, slot, after, last_to}
use Rattle.grammar.proofs.Walk.{put, put_all}

-- ---- as many places as before

pub length-put : (t : Slot) (b : ℕ) (l : List ℕ) → length (put t b l) ≡ length l
length-put no_slot b l = refl
length-put (index i) b l = length-set l i b

pub length-put_all : (k : Store) (xs : List Sent) (l : List ℕ) → length (put_all k xs l) ≡ length l
length-put_all k [] l = refl
length-put_all k (x ∷ xs) l = length-put_all k xs (put (slot k x.to) x.byte l) ∙ length-put (slot k x.to) x.byte l

-- ---- each place holds the last byte sent to it, or its old value

pub get_or-put : (t : Slot) (b : ℕ) (l : List ℕ) (i : ℕ) → i < length l → get_or (put t b l) i 0 ≡ after t b i (get_or l i 0)
get_or-put no_slot b l i h = refl
get_or-put (index j) b l i h =
    by_test (eqb i j)
    (λ e. rw (e, eqb-true i j e) (get_or-set_same l j b 0 (omega (arith, eqb-true i j e))))
    (λ e. rw e (get_or-set_other l j i b 0 (eqb-false i j e)))

pub get_or-put_all : (k : Store) (xs : List Sent) (l : List ℕ) (i : ℕ) → i < length l → get_or (put_all k xs l) i 0 ≡ last_to k xs i (get_or l i 0)
get_or-put_all k [] l i h = refl
get_or-put_all k (x ∷ xs) l i h =
    get_or-put_all k xs (put (slot k x.to) x.byte l) i (omega (arith, length-put (slot k x.to) x.byte l))
    ∙ ap (last_to k xs i) (get_or-put (slot k x.to) x.byte l i h)

-- ---- putting twice is putting once

-- a place is reached, and what it held is forgotten, or it is missed
pub data Reach (f : ℕ → ℕ) : Type 0 where
  reached : ((x y : ℕ) → f x ≡ f y) → Reach f
  missed : ((x : ℕ) → f x ≡ x) → Reach f

reach_one : (t : Slot) (b i : ℕ) → Reach (after t b i)
reach_one no_slot b i = missed (λ x. refl)
reach_one (index j) b i = by_test (eqb i j) (λ e. reached (λ x y. rw e)) (λ e. missed (λ x. rw e))

reach_both : (f g : ℕ → ℕ) → Reach f → Reach g → Reach (λ x. g (f x))
reach_both f g p (reached q) = reached (λ x y. q (f x) (f y))
reach_both f g (reached p) (missed q) = reached (λ x y. ap g (p x y))
reach_both f g (missed p) (missed q) = missed (λ x. q (f x) ∙ p x)

pub reach : (k : Store) (xs : List Sent) (i : ℕ) → Reach (last_to k xs i)
reach k [] i = missed (λ x. refl)
reach k (x ∷ xs) i =
    reach_both (after (slot k x.to) x.byte i) (last_to k xs i) (reach_one (slot k x.to) x.byte i) (reach k xs i)

reach_twice : (f : ℕ → ℕ) → Reach f → (x : ℕ) → f (f x) ≡ f x
reach_twice f (reached p) x = p (f x) x
reach_twice f (missed p) x = p (f x)

pub put_all_twice : (k : Store) (xs : List Sent) (l : List ℕ) → put_all k xs (put_all k xs l) ≡ put_all k xs l
put_all_twice k xs l =
    let n : length (put_all k xs l) ≡ length l = length-put_all k xs l in
    ext_get_or 0 (put_all k xs (put_all k xs l)) (put_all k xs l) (length-put_all k xs (put_all k xs l))
    (λ i h.
    let g : i < length l = omega (arith, length-put_all k xs (put_all k xs l)) in
    get_or-put_all k xs (put_all k xs l) i (omega arith)
    ∙ ap (last_to k xs i) (get_or-put_all k xs l i g)
    ∙ reach_twice (last_to k xs i) (reach k xs i) (get_or l i 0)
    ∙ sym (get_or-put_all k xs l i g))

pub put_all-append : (k : Store) (xs ys : List Sent) (l : List ℕ) → put_all k (xs ++ ys) l ≡ put_all k ys (put_all k xs l)
put_all-append k [] ys l = refl
put_all-append k (x ∷ xs) ys l = put_all-append k xs ys (put (slot k x.to) x.byte l)

-- a front part put, and then all: all put
pub put_all_again : (k : Store) (n : ℕ) (xs : List Sent) (l : List ℕ) → put_all k xs (put_all k (take n xs) l) ≡ put_all k xs l
put_all_again k n xs l =
    let e : take n xs ++ drop n xs ≡ xs = take-append-drop n xs in
    ap (λ (ys : List Sent). put_all k ys (put_all k (take n xs) l)) (sym e)
    ∙ put_all-append k (take n xs) (drop n xs) (put_all k (take n xs) l)
    ∙ ap (put_all k (drop n xs)) (put_all_twice k (take n xs) l)
    ∙ sym (put_all-append k (take n xs) (drop n xs) l)
    ∙ ap (λ (ys : List Sent). put_all k ys l) e
