-- The rows of a sheet one by one: whose row each is, and where it stands in the tables. Assumes nothing.
use Prim.Native.Nat.{ℕ, zero, suc, ◌+◌, ◌*◌, ◌<◌}
use mathlib.Core.Path.{◌≡◌, refl, ap, ◌∙◌}
use mathlib.Core.List.{List, [], ◌∷◌, ◌++◌}
use native.Mathlib.Nat.{not-suc-le-zero, le_of_suc-le-suc}
use native.Mathlib.Omega.{arith}
use lib.ListN.{length, get_or, take, drop}
use lib.Seq.{drop-drop}
use Rattle.sheet.specs.declared.Sheet.{Sheet}
use Rattle.sheet.specs.Stream.{Device, left_by, row_of}
use Rattle.sheet.specs.Sheet.{streams_of, rows_of, left_by_all, sum, numbers_of, figures_a_row, figures_of, refused_sheet}
use Rattle.sheet.proofs.Rows.{rows-length, streams_length}
use Rattle.sheet.proofs.Columns.{figure_of}
use Rattle.sheet.proofs.Totals.{EachRow}
use Rattle.demands.specs.SheetTable.{figure_at, Entered}

-- row i
abbrev pub row_in : List Sheet → ℕ → Sheet
row_in rs i = get_or rs i (refused_sheet 0)

pub each_in : (P : Sheet → Type 0) (rs : List Sheet) → EachRow P rs → (i : ℕ) → i < length rs → P (row_in rs i)
each_in P [] e i h = absurd (not-suc-le-zero h)
each_in P (r ∷ rs) e zero h = e.0
each_in P (r ∷ rs) e (suc i) h = each_in P rs e.1 i (le_of_suc-le-suc h)

-- ---- whose row it is

pub rows_many : (d : Device) (mode : ℕ) (ns s : List ℕ) → length (rows_of d mode (streams_of ns s)) ≡ length ns
rows_many d mode ns s = rows-length (streams_of ns s) d mode ∙ streams_length ns s

pub row_is : (d : Device) (mode : ℕ) (ns s : List ℕ) (i : ℕ) → i < length ns
    → row_in (rows_of d mode (streams_of ns s)) i ≡ row_of (left_by_all d mode (streams_of (take i ns) s)) mode (take (get_or ns i 0) (drop (sum (take i ns)) s))
row_is d mode [] s i h = absurd (not-suc-le-zero h)
row_is d mode (n ∷ ns) s zero h = refl
row_is d mode (n ∷ ns) s (suc i) h =
    row_is (left_by d mode (take n s)) mode ns (drop n s) i (le_of_suc-le-suc h)
    ∙ ap (λ (t : List ℕ). row_of (left_by_all d mode (streams_of (take (suc i) (n ∷ ns)) s)) mode (take (get_or ns i 0) t)) (drop-drop (sum (take i ns)) n s)

-- ---- where it stands, whatever stands behind the rows

past_row : (a b c d e f : ℕ) (xs : List ℕ) (i j : ℕ) → get_or (a ∷ b ∷ c ∷ d ∷ e ∷ f ∷ xs) (figures_a_row * suc i + j) 0 ≡ get_or xs (figures_a_row * i + j) 0
past_row a b c d e f xs i j =
    let q : figures_a_row * suc i + j ≡ suc (suc (suc (suc (suc (suc (figures_a_row * i + j)))))) = omega arith in rw q

pub entered : (ns fs : List ℕ) (rs : List Sheet) (i : ℕ) → i < length rs → Entered (row_in rs i) i (numbers_of rs ++ ns) (figures_of rs ++ fs)
entered ns fs [] i h = absurd (not-suc-le-zero h)
entered ns fs (r ∷ rs) zero h = record { number = refl; taken = refl; «data» = refl; cells = refl; again = refl; bits = refl; edges = refl }
entered ns fs (r ∷ rs) (suc i) h =
    let g = entered ns fs rs i (le_of_suc-le-suc h) in
    let past = past_row r.taken r.«data» r.cells r.again r.bits r.edges (figures_of rs ++ fs) i in
    record {
      number = g.number;
      taken = past 0 ∙ g.taken;
      «data» = past 1 ∙ g.«data»;
      cells = past 2 ∙ g.cells;
      again = past 3 ∙ g.again;
      bits = past 4 ∙ g.bits;
      edges = past 5 ∙ g.edges;
    }

-- figure j of it
pub figure_entered : (r : Sheet) (i : ℕ) (numbers figures : List ℕ) → Entered r i numbers figures → (j : ℕ) → j < figures_a_row
    → figure_at figures j i ≡ figure_of j r
figure_entered r i numbers figures e zero h = e.taken
figure_entered r i numbers figures e (suc zero) h = e.«data»
figure_entered r i numbers figures e (suc (suc zero)) h = e.cells
figure_entered r i numbers figures e (suc (suc (suc zero))) h = e.again
figure_entered r i numbers figures e (suc (suc (suc (suc zero)))) h = e.bits
figure_entered r i numbers figures e (suc (suc (suc (suc (suc zero))))) h = e.edges
figure_entered r i numbers figures e (suc (suc (suc (suc (suc (suc j)))))) h = absurd (omega (arith, h))
