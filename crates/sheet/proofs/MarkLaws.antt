-- Marks bumped one by one, and a mark counted. Assumes nothing.
use Prim.Native.Nat.{ℕ, suc, ◌+◌, ◌<◌, ◌≤◌}
use mathlib.Core.Bool.{Bool, true, false}
use mathlib.Core.Path.{◌≡◌, refl, sym}
use mathlib.Core.List.{List, [], ◌∷◌, ◌++◌, append_assoc, append-nil}
use native.Mathlib.Numerals.{add-one}
use native.Mathlib.Nat.{add-zero}
use native.Mathlib.Omega.{arith}
use lib.Dec.{ltb}
use Rattle.chain.proofs.ByCases.{by_test}
use lib.ListN.{length, get_or, set, take, drop, drop_of_length-le}
use lib.Seq.{drop-cons, drop-set-lt, take-suc-set, take_all}
use Rattle.std.specs.Int.{from_bool}
use Rattle.sheet.specs.Count.{one_if}
use Rattle.sheet.specs.Steps.{bump, bumped}

-- ---- bumped

pub bumped_turn : (m : List ℕ) (i v : ℕ) → i < length m → v ≡ bump (get_or m i 0)
    → take i m ++ bumped (drop i m) ≡ take (i + 1) (set m i v) ++ bumped (drop (i + 1) (set m i v))
unfolding bumped
bumped_turn m i v h e =
    rw (add-one, take-suc-set m i v h, drop-set-lt (suc i) m i v (omega arith), drop-cons m i 0 h, e)
    (sym (append_assoc (take i m) (bump (get_or m i 0) ∷ []) (bumped (drop (suc i) m))))

pub bumped-done : (m : List ℕ) (i : ℕ) → length m ≤ i → take i m ++ bumped (drop i m) ≡ m
unfolding bumped
bumped-done m i h = rw (drop_of_length-le m h, take_all i m h) (append-nil m)

-- ---- counted

pub one_from : (b : Bool) → from_bool b ≡ one_if b
one_from true = refl
one_from false = refl

pub bump_is : (b : ℕ) → b + from_bool (ltb b 2) ≡ bump b
bump_is b = by_test (ltb b 2) (λ e. rw e) (λ e. rw e (add-zero b))
