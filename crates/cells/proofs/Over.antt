-- Bytes laid over a part of a list: over its front, one after another, over the front of a lent tail. Assumes nothing.
use Prim.Native.Nat.{ℕ, suc, ◌+◌, ◌≤◌}
use mathlib.Core.Path.{◌≡◌, ◌∙◌, ap}
use mathlib.Core.List.{List, [], ◌∷◌, ◌++◌}
use native.Mathlib.Nat.{zero-add}
use native.Mathlib.Omega.{arith}
use lib.ListN.{length, set, take, drop}
use lib.Seq.{sets, sets-eq, take_at}

-- over the front: the bytes, then the rest as it was
pub sets-front : (bs out : List ℕ) → length bs ≤ length out → sets out 0 bs ≡ bs ++ drop (length bs) out
sets-front bs out h = sets-eq bs out 0 (omega arith) ∙ rw zero-add

-- and what stands there then
pub front_is : (bs out : List ℕ) (n : ℕ) → length bs ≡ n → n ≤ length out → take n (sets out 0 bs) ≡ bs
front_is bs out n e h = ap (take n) (sets-front bs out (omega arith)) ∙ take_at bs (drop (length bs) out) n e

-- one after the other is both at once
pub sets-append : (xs ys l : List ℕ) (i : ℕ) → sets l i (xs ++ ys) ≡ sets (sets l i xs) (i + length xs) ys
sets-append [] ys l i =
    let e : i + 0 ≡ i = omega arith in
    rw e
sets-append (x ∷ xs) ys l i =
    let e : i + suc (length xs) ≡ suc i + length xs = omega arith in
    rw e (sets-append xs ys (set l i x) (suc i))
