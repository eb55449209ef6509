-- Each sum of a sheet is that of its column in the table of figures, where six stand for each row. Assumes nothing.
use Prim.Native.Nat.{ℕ, suc, ◌+◌, ◌*◌, ◌<◌}
use mathlib.Core.Path.{◌≡◌, refl, ap, ◌∙◌}
use mathlib.Core.List.{List, [], ◌∷◌, ◌++◌}
use native.Mathlib.Omega.{arith}
use lib.ListN.{length, get_or, get_or-append}
use Rattle.sheet.specs.declared.Sheet.{Sheet}
use Rattle.sheet.specs.Count.{sum_from}
use Rattle.sheet.specs.Sheet.{sum_of, figures_a_row, figures_of}
use Rattle.sheet.proofs.Sums.{sum_ext, sum_shift}

-- the k-th figure of a row
abbrev pub figure_of : ℕ → Sheet → ℕ
figure_of k r = get_or (figures_of (r ∷ [])) k 0

-- whatever stands behind the rows
module _ (rest : List ℕ) (k : ℕ) (h : k < figures_a_row) where
  abbrev entry : List Sheet → ℕ → ℕ
  entry rs j = get_or (figures_of rs ++ rest) (figures_a_row * j + k) 0

  entry_first : (r : Sheet) (rs : List Sheet) → entry (r ∷ rs) 0 ≡ figure_of k r
  entry_first r rs = ap (λ (i : ℕ). get_or (figures_of (r ∷ rs) ++ rest) i 0) none-on ∙ get_or-append (figures_of (r ∷ [])) (figures_of rs ++ rest) 0 k h
    where
      none-on : 6 * 0 + k ≡ k
      none-on = omega arith

  entry-later : (r : Sheet) (rs : List Sheet) (j : ℕ) → entry (r ∷ rs) (1 + j) ≡ entry rs j
  entry-later r rs j = ap (λ (i : ℕ). get_or (figures_of (r ∷ rs) ++ rest) i 0) (six-on j)
    where
      six-on : (a : ℕ) → 6 * (1 + a) + k ≡ suc (suc (suc (suc (suc (suc (6 * a + k))))))
      six-on a = omega arith

  pub column_sum : (rs : List Sheet) → sum_from (entry rs) 0 (length rs) ≡ sum_of (figure_of k) rs
  unfolding sum_from
  column_sum [] = refl
  column_sum (r ∷ rs) =
      omega (
        arith,
        entry_first r rs,
        sum_shift (entry (r ∷ rs)) 1 (length rs),
        sum_ext (λ (j : ℕ). entry (r ∷ rs) (1 + j)) (entry rs) 0 (length rs) (λ j p q. entry-later r rs j),
        column_sum rs,
      )
