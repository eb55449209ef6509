-- Lengths summed, and a row's figures entered in their table. Assumes nothing.
use Prim.Native.Nat.{ℕ, suc, ◌+◌, ◌-◌, ◌*◌, ◌≤◌}
use mathlib.Core.Path.{◌≡◌, refl, sym, ◌∙◌}
use mathlib.Core.List.{List, [], ◌∷◌, ◌++◌, append_assoc}
use native.Mathlib.Omega.{arith}
use borrow.Rule.Slice.PartMut.{put_mid}
use lib.ListN.{length, set, take, drop, take-append-drop, length-set}
use lib.Seq.{sets, take-suc-set, drop-set-lt, drop-cons}
use Rattle.std.specs.List.{sum_by}
use Rattle.std.proofs.lemmas.List.Recursion.{is_sum_by}
use Rattle.sheet.specs.declared.Sheet.{Sheet}
use Rattle.sheet.specs.Sheet.{sum, figures_a_row, figures_of}

-- as the library sums
pub sum_is : (ns : List ℕ) → sum ns ≡ sum_by (λ (n : ℕ). n) ns
sum_is = is_sum_by sum (λ (n : ℕ). n) refl (λ n ns. refl)

-- a part that is written over whole
part_entered : (bs xs : List ℕ) (i : ℕ) → i + length bs ≤ length xs → put_mid i (length bs) xs bs ≡ sets xs i bs
part_entered [] xs i h = take-append-drop i xs
part_entered (b ∷ bs) xs i h =
    sym (sym (part_entered bs (set xs i b) (suc i) (omega (arith, length-set xs i b)))
    ∙ rw (take-suc-set xs i b (omega arith), drop-set-lt (suc i) xs i b (omega arith), drop-cons xs i 0 (omega arith))
    (append_assoc (take i xs) (b ∷ []) (bs ++ drop (length bs) (drop (suc i) xs))))

-- the figures of row i
pub row_entered : (f ys : List ℕ) (i : ℕ) (r : Sheet) → ys ≡ figures_of (r ∷ []) → figures_a_row * (i + 1) ≤ length f
    → put_mid (figures_a_row * i) (figures_a_row * (i + 1) - figures_a_row * i) f ys ≡ sets f (figures_a_row * i) (figures_of (r ∷ []))
row_entered f ys i r e h =
    let w : figures_a_row * (i + 1) - figures_a_row * i ≡ 6 = omega arith in
    rw (e, w) (part_entered (figures_of (r ∷ [])) f (figures_a_row * i) (omega arith))
