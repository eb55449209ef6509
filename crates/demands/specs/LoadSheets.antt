-- Document 02, wish 10: the monthly load sheet, as predicates over a loader. Every row is what the loader's own calls give: hunt, start, slice, and where the
-- stream runs out closing and slice. Assumes nothing.
use Rattle.std.specs.Prelude.{ℕ, ◌+◌, ◌*◌, ◌^◌, ◌≤◌, ◌<◌, Bool, ◌&&◌, ◌≢◌, ◌≡◌, List, [], ◌∷◌, eqb, length, take}
use Rattle.chain.specs.declared.Chain.{Chain}
use Rattle.chain.specs.declared.Made.{Made}
use Rattle.chain.specs.Paper.{serial, writing, done, no_preamble, more}
use Rattle.chain.specs.Rules.{pick}
use Rattle.chain.specs.Kinds.{size_of}
use Rattle.chain.specs.Bytes.{Bytes}
use Rattle.chain.specs.Output.{over}
use Rattle.chain.specs.Calls.{New, Reset}
use Rattle.machine.specs.Calls.{Start, Slice}
use Rattle.closing.specs.Calls.{Closing}
use Rattle.hunt.specs.Hunt.{Hunt}
use Rattle.grammar.specs.Stores.{Put, puts_of}
use Rattle.sheet.specs.declared.Sheet.{Sheet}
use Rattle.sheet.specs.Count.{cells_stored, bits_over}
use Rattle.sheet.specs.Stream.{Device, device}
use Rattle.sheet.specs.Sheet.{streams_of, numbers_of, figures_a_row, figures_of}
use Rattle.demands.specs.Loader.{Loader, AfterSlice, AfterSheet, offered, with_sheet}
use Rattle.demands.specs.SheetTable.{KeepsSheet, figure_at, Summed}
use Rattle.demands.specs.Demand3.{load, closing_at}

-- the sheet keeps its promise, and so do the calls that load a stream by hand
pub record KeepsHand (l : Loader) : Type 0 where
  pub start : (c : Chain) (m : List ℕ) (mode check : ℕ) → Start c m mode check (l.start c m mode check)
  pub slice : (c : Chain) (m s : List ℕ) → Slice c m s (l.slice c m s).fed (l.slice c m s).memory
  pub closing : (c : Chain) (m out : List ℕ) → Closing c m out (l.closing c m out).written (l.closing c m out).out
  pub hunt : (s out : List ℕ) → Hunt s out (l.hunt s out).hunted (l.hunt s out).out
  pub sheet : KeepsSheet l

-- ---- a stream loaded by hand: out is the output lent to hunt and closing

-- the device after it
abbrev pub kept_of : AfterSlice → Device
kept_of a = device a.fed.chain a.memory

-- 'a failed hunt has 5, 24 edges and else zeros'
abbrev pub failed_row : Sheet
failed_row = record { number = 5; taken = 0; «data» = 0; cells = 0; again = 0; bits = 0; edges = 24 }

module _ (l : Loader) (out : List ℕ) (mode : ℕ) where
  -- 'serial streams are hunted first'
  abbrev pub unfound : List ℕ → Bool
  unfound s = serial mode && eqb (l.hunt s out).hunted.number no_preamble

  abbrev pub bytes_in : List ℕ → List ℕ
  bytes_in s = pick (serial mode) (take (l.hunt s out).hunted.length (l.hunt s out).out) s

  -- a write of its bytes
  abbrev pub by_hand : Device → List ℕ → AfterSlice
  by_hand d s = load l mode d.chain d.memory (bytes_in s)

  -- 'a stream that runs out is then closed by closing bytes'
  abbrev pub handed : AfterSlice → AfterSlice
  handed a = pick (eqb a.fed.answer.number more) (l.slice a.fed.chain a.memory (offered (closing_at l a out))) a

  abbrev pub hand_leaves : Device → List ℕ → Device
  hand_leaves d s = pick (unfound s) d (kept_of (handed (by_hand d s)))

  -- what the bytes store, read off the started chain
  abbrev pub hand_stores : Device → List ℕ → List Put
  hand_stores d s = puts_of (l.start d.chain d.memory mode writing).chain (bytes_in s)

  -- 'one per byte in parallel modes, eight per byte in serial ones with p added, then 3 or 24 edges to idle'
  abbrev pub hand_edges : ℕ → List ℕ → ℕ
  hand_edges taken s = pick (serial mode) (8 * taken + (l.hunt s out).hunted.p + 24) (taken + 3)

  -- 'listed with 16', 'a refused one with its number and the figures up to the refused byte'
  abbrev pub hand_row : Device → List ℕ → Sheet
  hand_row d s =
      let a = by_hand d s in
      let ps = hand_stores d s in
      let size = length d.memory in
      record {
        number = a.fed.answer.number;
        taken = a.fed.answer.taken;
        «data» = length ps;
        cells = cells_stored size 1 ps;
        again = cells_stored size 2 ps;
        bits = bits_over size d.memory a.memory;
        edges = hand_edges a.fed.answer.taken s;
      }

  -- 'streams loaded in order into one device'
  abbrev pub hand_rows : Device → List (List ℕ) → List Sheet
  hand_rows d [] = []
  hand_rows d (s ∷ ss) = pick (unfound s) failed_row (hand_row d s) ∷ hand_rows (hand_leaves d s) ss

-- ---- the claims: of every sheet answered 0, with w what it leaves

-- 'one reset device': new's answer for one device of the kind, whatever the unused kinds were, and then reset, over any memory
pub record ResetOf (kind : ℕ) (d : Device) : Type 0 where
  pub unused : List ℕ
  pub memory : List ℕ
  pub made : Made
  pub after : Made
  pub seven : length unused ≡ 7
  pub new : New 1 (kind ∷ unused) memory made
  pub accepted : made.number ≡ done
  pub reset : Reset made.chain memory after d.memory
  pub chain : d.chain ≡ after.chain

-- every entry of both tables: what stands behind the rows is as lent
pub record RowsByHand (l : Loader) (mode : ℕ) (ss : List (List ℕ)) (d : Device) (out numbers figures : List ℕ) (w : AfterSheet) : Type 0 where
  pub numbers_left : w.numbers ≡ over (numbers_of (hand_rows l out mode d ss)) numbers
  pub figures_left : w.figures ≡ over (figures_of (hand_rows l out mode d ss)) figures

-- an output as long as the streams has room for every hunt, and one of three bytes more than there are cells for closing bytes
abbrev pub Alone : Loader → Type 0
Alone l = (kind mode : ℕ) (s lengths numbers figures : List ℕ) → Bytes s → (l.sheet kind mode s lengths numbers figures).sums.number ≡ done
    → (d : Device) → ResetOf kind d → (out : List ℕ) → length s ≤ length out → size_of kind + 3 ≤ length out
    → RowsByHand l mode (streams_of lengths s) d out numbers figures (l.sheet kind mode s lengths numbers figures)

-- 'and as sums of these', with the rows that stand in the table
abbrev pub ColumnSums : Loader → Type 0
ColumnSums l = (kind mode : ℕ) (s lengths numbers figures : List ℕ) → (l.sheet kind mode s lengths numbers figures).sums.number ≡ done
    → Summed (length lengths) (l.sheet kind mode s lengths numbers figures)

-- 'exact totals': no sum passes 32 bits, and no figure; a sheet that is refused has sums 0
pub record Within (n : ℕ) (w : AfterSheet) : Type 0 where
  pub taken : w.sums.taken < 2 ^ 32
  pub «data» : w.sums.«data» < 2 ^ 32
  pub cells : w.sums.cells < 2 ^ 32
  pub again : w.sums.again < 2 ^ 32
  pub bits : w.sums.bits < 2 ^ 32
  pub edges : w.sums.edges < 2 ^ 32
  pub figures : w.sums.number ≡ done → (j k : ℕ) → j < n → k < figures_a_row → figure_at w.figures k j < 2 ^ 32

abbrev pub Within32 : Loader → Type 0
Within32 l = (kind mode : ℕ) (s lengths numbers figures : List ℕ) → Bytes s
    → Within (length lengths) (l.sheet kind mode s lengths numbers figures)

-- the figures of a row among each other: no more data bytes than bytes taken; a cell stored into more than once is one of the distinct ones, and has a data
-- byte more; no more than eight bits a cell
pub record Among (figures : List ℕ) (j : ℕ) : Type 0 where
  pub «data» : figure_at figures 1 j ≤ figure_at figures 0 j
  pub stores : figure_at figures 2 j + figure_at figures 3 j ≤ figure_at figures 1 j
  pub again : figure_at figures 3 j ≤ figure_at figures 2 j
  pub bits : figure_at figures 4 j ≤ 8 * figure_at figures 2 j

abbrev pub FiguresAmong : Loader → Type 0
FiguresAmong l = (kind mode : ℕ) (s lengths numbers figures : List ℕ) → Bytes s → (l.sheet kind mode s lengths numbers figures).sums.number ≡ done
    → (j : ℕ) → j < length lengths → Among (l.sheet kind mode s lengths numbers figures).figures j

-- and that leaves no other sheet: one with the same other calls, of which the first two claims hold, answers and leaves the same
abbrev pub OneSheet : Loader → Type 0
OneSheet l = (f : ℕ → ℕ → List ℕ → List ℕ → List ℕ → List ℕ → AfterSheet) → Alone (with_sheet l f) → ColumnSums (with_sheet l f)
    → (kind mode : ℕ) (s lengths numbers figures : List ℕ) → size_of kind ≢ 0 → Bytes s
    → (l.sheet kind mode s lengths numbers figures).sums.number ≡ done → (f kind mode s lengths numbers figures).sums.number ≡ done
    → f kind mode s lengths numbers figures ≡ l.sheet kind mode s lengths numbers figures
