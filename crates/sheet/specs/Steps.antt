-- For the contracts of private helpers alone, no promise cites it: the bytes from a bit position on, a device between streams and with a run open, what a walk
-- over a stream's bytes tells of its stores, and marks for them. Assumes nothing.
use Rattle.std.specs.Prelude.{ℕ, suc, ◌+◌, ◌-◌, ◌*◌, ◌/◌, ◌^◌, ◌≤◌, ◌<◌, min, max, true, ◌&&◌, ◌≡◌, List, [], ◌∷◌, ◌++◌, leb, ltb, length, get_or, set}
use Rattle.std.specs.Int.Bits.{bit_and}
use Rattle.chain.specs.declared.Chain.{Chain}
use Rattle.chain.specs.Paper.{most_bytes, at_null, writing, done}
use Rattle.chain.specs.Rules.{pick}
use Rattle.chain.specs.Set.{closed_place}
use Rattle.chain.specs.Window.{fits_of}
use Rattle.chain.specs.State.{state_number, feed_number}
use Rattle.machine.specs.declared.Answer.{Answer}
use Rattle.grammar.specs.Stores.{Put, puts_of}
use Rattle.hunt.specs.Bits.{byte_at, bytes_from, whole_from}
use Rattle.sheet.specs.declared.Sheet.{Sheet}
use Rattle.sheet.specs.declared.walk.Walked.{Walked}
use Rattle.sheet.specs.Count.{one_if, sum_from, times_in, cells_stored, bits_over}
use Rattle.sheet.specs.Stream.{edges_per_byte, idle_edges}

-- the whole bytes of a stream from bit p on
abbrev pub bytes_after : List ℕ → ℕ → List ℕ
bytes_after s p = bytes_from s p (whole_from s p)

-- n bytes from bit k of byte q on, those from the byte `at` on
abbrev pub rest_at : List ℕ → ℕ → ℕ → ℕ → ℕ → List ℕ
rest_at s q k n at = bytes_from s (8 * (q + at) + k) (n - at)

-- those that a run at c is left from the byte `at` on, and what it stores with them
abbrev pub left_at : List ℕ → ℕ → ℕ → List ℕ
left_at s p at = rest_at s (p / 8) (bit_and p 7) (length s - (p + 7) / 8) at

abbrev pub puts_left : Chain → List ℕ → ℕ → ℕ → List Put
puts_left c s p at = puts_of c (left_at s p at)

-- between two streams: a chain of one device, no run open
pub record Ready (c : Chain) (len : ℕ) : Type 0 where
  pub one : c.count ≡ 1
  pub kinds : length c.kinds ≡ 8
  pub registers : length c.registers ≡ 8
  pub closed : c.place ≡ closed_place
  pub usable : state_number c len ≡ done

-- its run is open, and a write
pub record Writing (c : Chain) (len : ℕ) : Type 0 where
  pub one : c.count ≡ 1
  pub kinds : length c.kinds ≡ 8
  pub registers : length c.registers ≡ 8
  pub write : c.place.check ≡ writing
  pub feeds : feed_number c len ≡ done

-- a window's start or end, whose high byte is byte i
abbrev pub bound_at : List ℕ → ℕ → ℕ → ℕ
bound_at s k i = byte_at s (8 * i + k) * 256 + byte_at s (8 * (i + 1) + k)

-- its null byte, start and end stand at `at`, and the device has it
pub record Header (awaited size : ℕ) (s : List ℕ) (p at start end : ℕ) : Type 0 where
  pub null : awaited ≡ at_null
  pub there : at + 5 ≤ length s - (p + 7) / 8
  pub start_is : start ≡ bound_at s (bit_and p 7) (p / 8 + (at + 1))
  pub end_is : end ≡ bound_at s (bit_and p 7) (p / 8 + (at + 3))
  pub fits : fits_of size start end ≡ true

-- bytes to cells one after another, from the cell i on
abbrev pub puts_at : ℕ → List ℕ → List Put
puts_at i [] = []
puts_at i (b ∷ bs) = record { cell = i; byte = b } ∷ puts_at (suc i) bs

-- of the stores ps the next go to the cells from i to e - 1, one after another, and the rest are left; the run has taken their bytes
pub record Part (ps : List Put) (size at i e at' : ℕ) (rest : List Put) : Type 0 where
  pub bytes : List ℕ
  pub split : ps ≡ puts_at i bytes ++ rest
  pub some : 0 < length bytes
  pub ends : e ≡ i + length bytes
  pub inside : e ≤ size
  pub taken : at + length bytes ≤ at'

-- a cell's mark: 0, 1, or 2 for stored into more than once
abbrev pub bump : ℕ → ℕ
bump m = pick (ltb m 2) (m + 1) m

unfoldable pub marked : List ℕ → List Put → List ℕ
marked marks [] = marks
marked marks (p ∷ ps) = marked (set marks p.cell (bump (get_or marks p.cell 0))) ps

-- the same over a part of the marks, all its cells once
unfoldable pub bumped : List ℕ → List ℕ
bumped [] = []
bumped (m ∷ ms) = bump m ∷ bumped ms

-- how many marks are k or more
unfoldable pub marks_from : List ℕ → ℕ → ℕ → ℕ → ℕ
marks_from marks k i n = sum_from (λ (j : ℕ). one_if (leb k (get_or marks j 0))) i n

-- a walk goes on over the cells from i to e - 1; and at its end, where nothing was stored, low is top
abbrev pub noted_of : Walked → ℕ → ℕ → Walked
noted_of w i e =
    record { stored = w.stored + (e - i); low = min i w.low; top = max w.top e; ordered = w.ordered && leb w.top i }

abbrev pub ended_of : Walked → Walked
ended_of w = record { stored = w.stored; low = min w.low w.top; top = w.top; ordered = w.ordered }

-- what a walk tells of the stores ps: how many, between which cells, and whether each goes above those before it
pub record Walk (ps : List Put) (size : ℕ) (r : Walked) : Type 0 where
  pub stored : r.stored ≡ length ps
  pub few : r.stored ≤ most_bytes
  pub order : r.low ≤ r.top
  pub inside : r.top ≤ size
  pub below : (i : ℕ) → i < r.low → times_in i ps ≡ 0
  pub above : (i : ℕ) → r.top ≤ i → times_in i ps ≡ 0
  pub once : r.ordered ≡ true → (i : ℕ) → times_in i ps ≤ 1

-- the row of a run: p is where its bytes begin, ps what it stores
abbrev pub row_from : ℕ → ℕ → Answer → List Put → List ℕ → List ℕ → Sheet
row_from mode p a ps before after =
    record {
      number = a.number;
      taken = a.taken;
      «data» = length ps;
      cells = cells_stored (length before) 1 ps;
      again = cells_stored (length before) 2 ps;
      bits = bits_over (length before) before after;
      edges = edges_per_byte mode * a.taken + p + idle_edges mode;
    }

-- a row added to the sums so far
abbrev pub plus : Sheet → Sheet → Sheet
plus a b =
    record {
      number = a.number;
      taken = a.taken + b.taken;
      «data» = a.«data» + b.«data»;
      cells = a.cells + b.cells;
      again = a.again + b.again;
      bits = a.bits + b.bits;
      edges = a.edges + b.edges;
    }

-- six figures of 32 bits
pub record Small (r : Sheet) : Type 0 where
  pub taken : r.taken < 2 ^ 32
  pub «data» : r.«data» < 2 ^ 32
  pub cells : r.cells < 2 ^ 32
  pub again : r.again < 2 ^ 32
  pub bits : r.bits < 2 ^ 32
  pub edges : r.edges < 2 ^ 32
