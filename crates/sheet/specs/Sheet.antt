-- The load sheet: a row for each stream, the sums of the rows, what is refused, and what the call answers and leaves. Assumes nothing.
use Rattle.std.specs.Prelude.{ℕ, ◌+◌, ◌*◌, not, ◌||◌, ◌≡◌, List, [], ◌∷◌, eqb, ltb, length, take, drop}
use Rattle.chain.specs.Paper.{first_mode, two_preambles, most_streams, most_bytes, done, bad_chain, bad_mode, too_short, bad_lengths}
use Rattle.chain.specs.Rules.{pick, Rule, ◌gives◌, first_of, from}
use Rattle.chain.specs.Kinds.{size_of}
use Rattle.chain.specs.Output.{output_of}
use Rattle.sheet.specs.declared.Sheet.{Sheet}
use Rattle.sheet.specs.Stream.{Device, reset_device, left_by, row_of}

-- the streams lie one after another in one slice
abbrev pub streams_of : List ℕ → List ℕ → List (List ℕ)
streams_of [] s = []
streams_of (n ∷ ns) s = take n s ∷ streams_of ns (drop n s)

-- each is loaded into the device as those before it left it
abbrev pub rows_of : Device → ℕ → List (List ℕ) → List Sheet
rows_of d mode [] = []
rows_of d mode (s ∷ ss) = row_of d mode s ∷ rows_of (left_by d mode s) mode ss

abbrev pub left_by_all : Device → ℕ → List (List ℕ) → Device
left_by_all d mode [] = d
left_by_all d mode (s ∷ ss) = left_by_all (left_by d mode s) mode ss

-- ---- sums

abbrev pub sum : List ℕ → ℕ
sum [] = 0
sum (n ∷ ns) = n + sum ns

-- the sum of a column
abbrev pub sum_of : (Sheet → ℕ) → List Sheet → ℕ
sum_of figure [] = 0
sum_of figure (r ∷ rs) = figure r + sum_of figure rs

abbrev pub sums_of : List Sheet → Sheet
sums_of rs =
    record {
      number = done;
      taken = sum_of (λ (r : Sheet). r.taken) rs;
      «data» = sum_of (λ (r : Sheet). r.«data») rs;
      cells = sum_of (λ (r : Sheet). r.cells) rs;
      again = sum_of (λ (r : Sheet). r.again) rs;
      bits = sum_of (λ (r : Sheet). r.bits) rs;
      edges = sum_of (λ (r : Sheet). r.edges) rs;
    }

-- ---- tables

-- one number a row
abbrev pub numbers_of : List Sheet → List ℕ
numbers_of [] = []
numbers_of (r ∷ rs) = r.number ∷ numbers_of rs

-- six figures a row, row after row
abbrev pub figures_a_row : ℕ
figures_a_row = 6

abbrev pub figures_of : List Sheet → List ℕ
figures_of [] = []
figures_of (r ∷ rs) = r.taken ∷ r.«data» ∷ r.cells ∷ r.again ∷ r.bits ∷ r.edges ∷ figures_of rs

-- ---- the call

-- 23 where there are too many lengths, they do not sum to the slice, or it is too long; then 1, 2, 15
abbrev pub sheet_rules : ℕ → ℕ → List ℕ → List ℕ → ℕ → ℕ → List Rule
sheet_rules kind mode s lengths numbers figures =
    (ltb most_streams (length lengths) || not (eqb (sum lengths) (length s)) || ltb most_bytes (length s) gives bad_lengths)
    ∷ (eqb (size_of kind) 0 gives bad_chain)
    ∷ (not (from first_mode two_preambles mode) gives bad_mode)
    ∷ (ltb numbers (length lengths) || ltb figures (figures_a_row * length lengths) gives too_short)
    ∷ []

unfoldable pub sheet_number : ℕ → ℕ → List ℕ → List ℕ → ℕ → ℕ → ℕ
sheet_number kind mode s lengths numbers figures = first_of (sheet_rules kind mode s lengths numbers figures) done

abbrev pub refused_sheet : ℕ → Sheet
refused_sheet n = record { number = n; taken = 0; «data» = 0; cells = 0; again = 0; bits = 0; edges = 0 }

-- the rows of one reset device
unfoldable pub sheet_rows : ℕ → ℕ → List ℕ → List ℕ → List Sheet
sheet_rows kind mode s lengths = rows_of (reset_device kind) mode (streams_of lengths s)

unfoldable pub sheet_of : ℕ → ℕ → List ℕ → List ℕ → ℕ → Sheet
sheet_of kind mode s lengths n = pick (eqb n done) (sums_of (sheet_rows kind mode s lengths)) (refused_sheet n)

-- what a reader may hold the call to: r is the answer, numbers' and figures' the tables left
pub record LoadSheet (kind mode : ℕ) (s lengths numbers figures : List ℕ) (r : Sheet) (numbers' figures' : List ℕ) : Type 0 where
  pub answer : r ≡ sheet_of kind mode s lengths (sheet_number kind mode s lengths (length numbers) (length figures))
  pub numbers_left : numbers'
      ≡ output_of (sheet_number kind mode s lengths (length numbers) (length figures)) (numbers_of (sheet_rows kind mode s lengths)) numbers
  pub figures_left : figures'
      ≡ output_of (sheet_number kind mode s lengths (length numbers) (length figures)) (figures_of (sheet_rows kind mode s lengths)) figures
