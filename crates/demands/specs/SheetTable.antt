-- Document 02, wish 10, for demand 1: the numbers of a load sheet, each exactly when, and what it leaves with each, as predicates over a loader. Assumes nothing.
use Rattle.std.specs.Prelude.{ℕ, ◌+◌, ◌*◌, ◌<◌, ◌⊎◌, ◌≢◌, ◌≡◌, List, [], ◌∷◌, length, get_or, take, drop}
use Rattle.chain.specs.Paper.{most_streams, most_bytes, done, bad_chain, bad_mode, too_short, bad_lengths}
use Rattle.chain.specs.WellFormed.{Known}
use Rattle.chain.specs.Table.{Claim, ◌when◌, Table, NoMode}
use Rattle.sheet.specs.declared.Sheet.{Sheet}
use Rattle.sheet.specs.Count.{sum_from}
use Rattle.sheet.specs.Stream.{Device, reset_device, row_of}
use Rattle.sheet.specs.Sheet.{streams_of, left_by_all, sum, figures_a_row, LoadSheet}
use Rattle.demands.specs.Loader.{Loader, AfterSheet}

-- the sheet keeps its promise
abbrev pub KeepsSheet : Loader → Type 0
KeepsSheet l =
    (kind mode : ℕ) (s lengths numbers figures : List ℕ)
    → let a = l.sheet kind mode s lengths numbers figures in
    LoadSheet kind mode s lengths numbers figures a.sums a.numbers a.figures

-- ---- the numbers

-- '23, first, when there are over 65,536 lengths, they do not sum to the slice, or it is over 67,108,864 bytes'
abbrev pub BadLengths : List ℕ → List ℕ → Type 0
BadLengths s lengths = ((most_streams < length lengths) ⊎ (sum lengths ≢ length s)) ⊎ (most_bytes < length s)

-- 'then 1, 2, 15': a table has less than one entry, or than six, for each stream
abbrev pub sheet_table : ℕ → ℕ → List ℕ → List ℕ → List ℕ → List ℕ → List Claim
sheet_table kind mode s lengths numbers figures =
    (bad_lengths when BadLengths s lengths)
    ∷ (bad_chain when (Known kind → ⊥))
    ∷ (bad_mode when NoMode mode)
    ∷ (too_short when ((length numbers < length lengths) ⊎ (length figures < figures_a_row * length lengths)))
    ∷ []

abbrev pub SheetNumbers : Loader → Type 0
SheetNumbers l =
    (kind mode : ℕ) (s lengths numbers figures : List ℕ)
    → Table (l.sheet kind mode s lengths numbers figures).sums.number (sheet_table kind mode s lengths numbers figures) done

-- ---- what is left

-- refused: the sums are 0, and both tables are as lent
pub record SheetRefused (numbers figures : List ℕ) (a : AfterSheet) : Type 0 where
  pub taken : a.sums.taken ≡ 0
  pub «data» : a.sums.«data» ≡ 0
  pub cells : a.sums.cells ≡ 0
  pub again : a.sums.again ≡ 0
  pub bits : a.sums.bits ≡ 0
  pub edges : a.sums.edges ≡ 0
  pub numbers_kept : a.numbers ≡ numbers
  pub figures_kept : a.figures ≡ figures

-- stream i lies behind the lengths before its own, and is loaded into the device as the streams before it left it
abbrev pub stream_at : List ℕ → List ℕ → ℕ → List ℕ
stream_at s lengths i = take (get_or lengths i 0) (drop (sum (take i lengths)) s)

abbrev pub device_at : ℕ → ℕ → List ℕ → List ℕ → ℕ → Device
device_at kind mode s lengths i = left_by_all (reset_device kind) mode (streams_of (take i lengths) s)

abbrev pub row_at : ℕ → ℕ → List ℕ → List ℕ → ℕ → Sheet
row_at kind mode s lengths i = row_of (device_at kind mode s lengths i) mode (stream_at s lengths i)

-- figure j of stream i
abbrev pub figure_at : List ℕ → ℕ → ℕ → ℕ
figure_at figures j i = get_or figures (figures_a_row * i + j) 0

-- a row stands in the tables
pub record Entered (r : Sheet) (i : ℕ) (numbers figures : List ℕ) : Type 0 where
  pub number : get_or numbers i 0 ≡ r.number
  pub taken : figure_at figures 0 i ≡ r.taken
  pub «data» : figure_at figures 1 i ≡ r.«data»
  pub cells : figure_at figures 2 i ≡ r.cells
  pub again : figure_at figures 3 i ≡ r.again
  pub bits : figure_at figures 4 i ≡ r.bits
  pub edges : figure_at figures 5 i ≡ r.edges

-- 'and as sums of these': n rows
pub record Summed (n : ℕ) (a : AfterSheet) : Type 0 where
  pub taken : a.sums.taken ≡ sum_from (figure_at a.figures 0) 0 n
  pub «data» : a.sums.«data» ≡ sum_from (figure_at a.figures 1) 0 n
  pub cells : a.sums.cells ≡ sum_from (figure_at a.figures 2) 0 n
  pub again : a.sums.again ≡ sum_from (figure_at a.figures 3) 0 n
  pub bits : a.sums.bits ≡ sum_from (figure_at a.figures 4) 0 n
  pub edges : a.sums.edges ≡ sum_from (figure_at a.figures 5) 0 n

-- done: the front of the tables has each stream's row, the rest is as lent, and the answer has the sums of the columns
pub record SheetFilled (kind mode : ℕ) (s lengths numbers figures : List ℕ) (a : AfterSheet) : Type 0 where
  pub numbers_many : length a.numbers ≡ length numbers
  pub figures_many : length a.figures ≡ length figures
  pub rows : (i : ℕ) → i < length lengths → Entered (row_at kind mode s lengths i) i a.numbers a.figures
  pub numbers_rest : drop (length lengths) a.numbers ≡ drop (length lengths) numbers
  pub figures_rest : drop (figures_a_row * length lengths) a.figures ≡ drop (figures_a_row * length lengths) figures
  pub columns : Summed (length lengths) a

pub record SheetLeaves (l : Loader) : Type 0 where
  pub refused : (kind mode : ℕ) (s lengths numbers figures : List ℕ) → (l.sheet kind mode s lengths numbers figures).sums.number ≢ done
      → SheetRefused numbers figures (l.sheet kind mode s lengths numbers figures)
  pub filled : (kind mode : ℕ) (s lengths numbers figures : List ℕ) → (l.sheet kind mode s lengths numbers figures).sums.number ≡ done
      → SheetFilled kind mode s lengths numbers figures (l.sheet kind mode s lengths numbers figures)
