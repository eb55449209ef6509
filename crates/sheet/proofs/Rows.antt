-- Rows of streams one after another: each is that of its stream alone, on the device as the streams before it left it. And the tables that they fill. Assumes
-- nothing.
use Prim.Native.Nat.{ℕ, suc, ◌*◌}
use mathlib.Core.Path.{◌≡◌, refl, ap}
use mathlib.Core.List.{List, [], ◌∷◌, ◌++◌}
use native.Mathlib.Omega.{arith}
use lib.ListN.{length, drop}
use Rattle.sheet.specs.declared.Sheet.{Sheet}
use Rattle.sheet.specs.Stream.{Device, row_of, left_by}
use Rattle.sheet.specs.Sheet.{streams_of, rows_of, left_by_all, numbers_of, figures_of}

pub rows_append : (xs ys : List (List ℕ)) (d : Device) (mode : ℕ) → rows_of d mode (xs ++ ys) ≡ rows_of d mode xs ++ rows_of (left_by_all d mode xs) mode ys
rows_append [] ys d mode = refl
rows_append (x ∷ xs) ys d mode = ap (λ (l : List Sheet). row_of d mode x ∷ l) (rows_append xs ys (left_by d mode x) mode)

pub left-append : (xs ys : List (List ℕ)) (d : Device) (mode : ℕ) → left_by_all d mode (xs ++ ys) ≡ left_by_all (left_by_all d mode xs) mode ys
left-append [] ys d mode = refl
left-append (x ∷ xs) ys d mode = left-append xs ys (left_by d mode x) mode

-- the stream after xs has the row of a stream alone
pub row_after : (xs ys : List (List ℕ)) (s : List ℕ) (d : Device) (mode : ℕ)
    → rows_of d mode (xs ++ s ∷ ys) ≡ rows_of d mode xs ++ row_of (left_by_all d mode xs) mode s ∷ rows_of (left_by_all d mode (xs ++ (s ∷ []))) mode ys
row_after [] ys s d mode = refl
row_after (x ∷ xs) ys s d mode = ap (λ (l : List Sheet). row_of d mode x ∷ l) (row_after xs ys s (left_by d mode x) mode)

-- ---- as many as streams

pub rows-length : (ss : List (List ℕ)) (d : Device) (mode : ℕ) → length (rows_of d mode ss) ≡ length ss
rows-length [] d mode = refl
rows-length (s ∷ ss) d mode = ap suc (rows-length ss (left_by d mode s) mode)

pub streams_length : (ns s : List ℕ) → length (streams_of ns s) ≡ length ns
streams_length [] s = refl
streams_length (n ∷ ns) s = ap suc (streams_length ns (drop n s))

pub numbers_length : (rs : List Sheet) → length (numbers_of rs) ≡ length rs
numbers_length [] = refl
numbers_length (r ∷ rs) = ap suc (numbers_length rs)

pub figures_length : (rs : List Sheet) → length (figures_of rs) ≡ 6 * length rs
figures_length [] = refl
figures_length (r ∷ rs) = omega (arith, figures_length rs)

-- ---- entries of the tables

pub numbers_append : (rs qs : List Sheet) → numbers_of (rs ++ qs) ≡ numbers_of rs ++ numbers_of qs
numbers_append [] qs = refl
numbers_append (r ∷ rs) qs = ap (λ (l : List ℕ). r.number ∷ l) (numbers_append rs qs)

pub figures_append : (rs qs : List Sheet) → figures_of (rs ++ qs) ≡ figures_of rs ++ figures_of qs
figures_append [] qs = refl
figures_append (r ∷ rs) qs =
    ap (λ (l : List ℕ). r.taken ∷ r.«data» ∷ r.cells ∷ r.again ∷ r.bits ∷ r.edges ∷ l) (figures_append rs qs)
