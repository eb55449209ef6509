-- No figure of a sheet and no sum passes 32 bits, and each sum is that of its column in the table of figures. Assumes nothing.
use Prim.Native.Nat.{ℕ, zero, suc, ◌+◌, ◌*◌, ◌^◌, ◌≤◌, ◌<◌}
use mathlib.Core.Bool.{true}
use mathlib.Core.Logic.{◌≢◌}
use mathlib.Core.Path.{◌≡◌, refl, ap}
use mathlib.Core.List.{List, [], ◌∷◌}
use native.Mathlib.Omega.{arith}
use lib.Dec.{lit<}
use lib.ListN.{length, get_or, take, drop}
use borrow.Author.Tests.{ne_eqb}
use Rattle.chain.specs.Paper.{first_mode, two_preambles, most_streams, most_bytes, done}
use Rattle.chain.specs.Rules.{from}
use Rattle.chain.specs.Kinds.{size_of}
use Rattle.chain.specs.Bytes.{Bytes}
use Rattle.chain.proofs.Bytes.{bytes_take, bytes_drop}
use Rattle.chain.proofs.ByCases.{by_eq}
use Rattle.sheet.specs.declared.Sheet.{Sheet}
use Rattle.sheet.specs.Stream.{Device, reset_device, row_of, left_by}
use Rattle.sheet.specs.Sheet.{streams_of, rows_of, sums_of, figures_of, sheet_number, sheet_rows, sheet_of}
use Rattle.sheet.specs.Steps.{Small}
use Rattle.sheet.proofs.Bounds.{RowBounds, row_bounds}
use Rattle.sheet.proofs.Left.{Idle, left-idle, reset_idle}
use Rattle.sheet.proofs.Rows.{streams_length}
use Rattle.sheet.proofs.Accepted.{accepted}

-- ---- streams of one slice

abbrev pub bytes_in_all : List (List ℕ) → ℕ
bytes_in_all [] = 0
bytes_in_all (s ∷ ss) = length s + bytes_in_all ss

abbrev pub AllBytes : List (List ℕ) → Type 0
AllBytes [] = Unit {0}
AllBytes (s ∷ ss) = Bytes s × AllBytes ss

pub streams_in_all : (ns s : List ℕ) → bytes_in_all (streams_of ns s) ≤ length s
streams_in_all [] s = omega arith
streams_in_all (n ∷ ns) s = omega (arith, taken-and-rest n s, streams_in_all ns (drop n s))
  where
    taken-and-rest : (k : ℕ) (l : List ℕ) → length (take k l) + length (drop k l) ≡ length l
    taken-and-rest zero l = omega arith
    taken-and-rest (suc k) [] = refl
    taken-and-rest (suc k) (x ∷ l) = omega (arith, taken-and-rest k l)

pub streams_bytes : (ns s : List ℕ) → Bytes s → AllBytes (streams_of ns s)
streams_bytes [] s u = tt
streams_bytes (n ∷ ns) s u = (bytes_take n s u, streams_bytes ns (drop n s) (bytes_drop n s u))

-- ---- sums of rows

-- what holds of the sums of n rows whose streams have so many bytes in all
pub record SumBounds (bytes n : ℕ) (r : Sheet) : Type 0 where
  pub taken : r.taken ≤ bytes
  pub «data» : r.«data» ≤ r.taken
  pub cells : r.cells + r.again ≤ r.«data»
  pub again : r.again ≤ r.cells
  pub bits : r.bits ≤ 8 * r.cells
  pub edges : r.edges ≤ 8 * bytes + 88 * n

-- and each row is within its own bounds
abbrev pub EachRow : (Sheet → Type 0) → List Sheet → Type 0
EachRow P [] = Unit {0}
EachRow P (r ∷ rs) = P r × EachRow P rs

module _ (mode : ℕ) (m : from first_mode two_preambles mode ≡ true) where
  pub sum_bounds : (ss : List (List ℕ)) (d : Device) → Idle d → AllBytes ss → bytes_in_all ss ≤ most_bytes
      → SumBounds (bytes_in_all ss) (length ss) (sums_of (rows_of d mode ss))
  sum_bounds [] d i u h =
      record { taken = omega arith; «data» = omega arith; cells = omega arith; again = omega arith; bits = omega arith; edges = omega arith }
  sum_bounds (s ∷ ss) d i u h =
      let b = row_bounds d mode s (ap (λ p. p.taken) i.ready.closed) (omega arith) i.bytes u.0 in
      let r = sum_bounds ss (left_by d mode s) (left-idle d mode s i m u.0) u.1 (omega arith) in
      record {
        taken = omega (arith, b.taken, r.taken);
        «data» = omega (arith, b.«data», r.«data»);
        cells = omega (arith, b.cells, r.cells);
        again = omega (arith, b.again, r.again);
        bits = omega (arith, b.bits, r.bits);
        edges = omega (arith, b.edges, r.edges);
      }

  -- what follows of a row from its bounds holds of each
  pub each_row : (P : Sheet → Type 0) → ((s : List ℕ) (r : Sheet) → length s ≤ most_bytes → RowBounds s r → P r)
      → (ss : List (List ℕ)) (d : Device) → Idle d → AllBytes ss → bytes_in_all ss ≤ most_bytes → EachRow P (rows_of d mode ss)
  each_row P f [] d i u h = tt
  each_row P f (s ∷ ss) d i u h = (
    f s (row_of d mode s) (omega arith) (row_bounds d mode s (ap (λ p. p.taken) i.ready.closed) (omega arith) i.bytes u.0),
    each_row P f ss (left_by d mode s) (left-idle d mode s i m u.0) u.1 (omega arith),
  )

row_small : (s : List ℕ) (r : Sheet) → length s ≤ most_bytes → RowBounds s r → Small r
row_small s r h b =
    record {
      taken = omega (arith, b.taken);
      «data» = omega (arith, b.taken, b.«data»);
      cells = omega (arith, b.taken, b.«data», b.cells);
      again = omega (arith, b.taken, b.«data», b.cells);
      bits = omega (arith, b.taken, b.«data», b.cells, b.bits);
      edges = omega (arith, b.edges);
    }

sums_small : (bytes n : ℕ) (r : Sheet) → SumBounds bytes n r → bytes ≤ most_bytes → n ≤ most_streams → Small r
sums_small bytes n r b h g =
    record {
      taken = omega (arith, b.taken);
      «data» = omega (arith, b.taken, b.«data»);
      cells = omega (arith, b.taken, b.«data», b.cells);
      again = omega (arith, b.taken, b.«data», b.cells);
      bits = omega (arith, b.taken, b.«data», b.cells, b.bits);
      edges = omega (arith, b.edges);
    }

-- ---- the sheet

-- a kind and a mode that there are, and a slice and lengths that 23 does not refuse
module _ (kind mode : ℕ) (s lengths : List ℕ) (known : size_of kind ≢ 0) (m : from first_mode two_preambles mode ≡ true) (u : Bytes s)
    (few : length lengths ≤ most_streams) (short : length s ≤ most_bytes) where
  pub sheet_bounds : SumBounds (bytes_in_all (streams_of lengths s)) (length (streams_of lengths s)) (sums_of (sheet_rows kind mode s lengths))
  unfolding sheet_rows
  sheet_bounds =
      sum_bounds mode m (streams_of lengths s) (reset_device kind) (reset_idle kind known) (streams_bytes lengths s u)
      (omega (arith, streams_in_all lengths s))

  pub sheet_small : Small (sums_of (sheet_rows kind mode s lengths))
  sheet_small =
      sums_small (bytes_in_all (streams_of lengths s)) (length (streams_of lengths s)) (sums_of (sheet_rows kind mode s lengths)) sheet_bounds
      (omega (arith, streams_in_all lengths s)) (omega (arith, streams_length lengths s))

  pub sheet_each : (P : Sheet → Type 0) → ((s : List ℕ) (r : Sheet) → length s ≤ most_bytes → RowBounds s r → P r) → EachRow P (sheet_rows kind mode s lengths)
  unfolding sheet_rows
  sheet_each P f =
      each_row mode m P f (streams_of lengths s) (reset_device kind) (reset_idle kind known) (streams_bytes lengths s u)
      (omega (arith, streams_in_all lengths s))

  pub rows_small : EachRow Small (sheet_rows kind mode s lengths)
  rows_small = sheet_each Small row_small

-- ---- the call, whatever it is lent

pub answer_small : (kind mode : ℕ) (s lengths : List ℕ) (numbers figures : ℕ) → Bytes s
    → Small (sheet_of kind mode s lengths (sheet_number kind mode s lengths numbers figures))
unfolding sheet_of
answer_small kind mode s lengths numbers figures u =
    let n : ℕ = sheet_number kind mode s lengths numbers figures in
    by_eq n done
    (λ e.
    let a = accepted kind mode s lengths numbers figures e in
    rw e (sheet_small kind mode s lengths a.known a.mode_known u a.few a.short))
    (λ e. rw (ne_eqb n done e) (record { taken = lit< tt; «data» = lit< tt; cells = lit< tt; again = lit< tt; bits = lit< tt; edges = lit< tt }))

-- an entry of the table
figures_small : (rs : List Sheet) → EachRow Small rs → (i : ℕ) → get_or (figures_of rs) i 0 < 2 ^ 32
figures_small [] h i = lit< tt
figures_small (r ∷ rs) h zero = h.0.taken
figures_small (r ∷ rs) h (suc zero) = h.0.«data»
figures_small (r ∷ rs) h (suc (suc zero)) = h.0.cells
figures_small (r ∷ rs) h (suc (suc (suc zero))) = h.0.again
figures_small (r ∷ rs) h (suc (suc (suc (suc zero)))) = h.0.bits
figures_small (r ∷ rs) h (suc (suc (suc (suc (suc zero))))) = h.0.edges
figures_small (r ∷ rs) h (suc (suc (suc (suc (suc (suc i)))))) = figures_small rs h.1 i

pub entries_small : (kind mode : ℕ) (s lengths : List ℕ) (numbers figures : ℕ) → Bytes s → sheet_number kind mode s lengths numbers figures ≡ done
    → (i : ℕ) → get_or (figures_of (sheet_rows kind mode s lengths)) i 0 < 2 ^ 32
entries_small kind mode s lengths numbers figures u e i =
    let a = accepted kind mode s lengths numbers figures e in
    figures_small (sheet_rows kind mode s lengths) (rows_small kind mode s lengths a.known a.mode_known u a.few a.short) i
