-- How large the figures of one stream can be, whatever its bytes. Assumes nothing.
use Prim.Native.Nat.{ℕ, zero, suc, ◌+◌, ◌*◌, ◌/◌, ◌%◌, ◌^◌, ◌≤◌, ◌<◌}
use mathlib.Core.Bool.{Bool, true, false, ◌&&◌}
use mathlib.Core.Path.{◌≡◌, refl, ap, ◌∙◌}
use mathlib.Core.List.{List, [], ◌∷◌}
use native.Mathlib.Omega.{arith}
use native.Mathlib.Nat.{mod-eq_of_lt, mod-lt, pow-suc}
use lib.Bits.{bit_xor, xor_lt, xor_self}
use lib.Count.{ones, ones-le}
use lib.Dec.{eqb, leb, lit<}
use lib.ListN.{length, get_or}
use borrow.Author.Tests.{eqb-false, leb-false}
use Rattle.chain.specs.declared.Chain.{Chain}
use Rattle.chain.specs.Paper.{serial, most_bytes, writing, done, more}
use Rattle.chain.specs.Rules.{pick}
use Rattle.chain.specs.Set.{with_place}
use Rattle.chain.specs.Bytes.{Bytes}
use Rattle.chain.proofs.Bytes.{bytes-at}
use Rattle.chain.proofs.ByCases.{by_test, either_way}
use Rattle.awaited.specs.Byte.{number_of}
use Rattle.machine.specs.Run.{writes, run, run_of, went_on}
use Rattle.machine.specs.Calls.{start_of, start_number, opened_place}
use Rattle.hunt.specs.Bits.{bit_at, bits_from, byte_at, bytes_from}
use Rattle.hunt.specs.Hunt.{nowhere, found_at, hunted_bytes}
use Rattle.hunt.proofs.Found.{found_le}
use Rattle.hunt.proofs.Answers.{hunted-count}
use Rattle.grammar.specs.Sent.{Target, framing, register, cell, Sent, memory}
use Rattle.grammar.specs.Stores.{Put, walk_of, put_of, puts_in, puts_of}
use Rattle.grammar.proofs.Walk.{run_puts}
use Rattle.grammar.proofs.BytesStay.{bytes_stay}
use Rattle.grammar.proofs.Counts.{taken_walk}
use Rattle.sheet.specs.declared.Sheet.{Sheet}
use Rattle.sheet.specs.Count.{one_if, times_in, cells_stored, bits_at, bits_over}
use Rattle.sheet.specs.Stream.{Device, hunt_fails, bytes_of_stream, started, load_of, stores_of, unfound_row, loaded_row, row_of}
use Rattle.sheet.proofs.Sums.{sum-le_times}
use Rattle.sheet.proofs.Times.{cells-and_again, again_among, never_stored}

-- ---- bytes

bit_small : (s : List ℕ) (p : ℕ) → bit_at s p < 2
unfolding bit_at
bit_small s p = mod-lt (get_or s (p / 8) 0 / 2 ^ (p % 8)) (lit< tt)

bits_small : (s : List ℕ) (p n : ℕ) → bits_from s p n < 2 ^ n
unfolding bits_from
bits_small s p zero = lit< tt
bits_small s p (suc n) = omega (arith, bit_small s p, bits_small s (p + 1) n, pow-suc 2 n)

pub byte_small : (s : List ℕ) (p : ℕ) → byte_at s p < 256
unfolding byte_at
byte_small s p = bits_small s p 8

bytes_from_lem : (s : List ℕ) (n p : ℕ) → Bytes (bytes_from s p n)
unfolding bytes_from
bytes_from_lem s zero p = tt
bytes_from_lem s (suc n) p = (byte_small s p, bytes_from_lem s n (p + 8))

-- what a stream feeds are bytes, and no more than it has
module _ (mode : ℕ) (s : List ℕ) where
  pub fed-bytes : Bytes s → Bytes (bytes_of_stream mode s)
  unfolding hunted_bytes
  fed-bytes u = either_way Bytes (serial mode) (hunted_bytes s) s (bytes_from_lem s _ (found_at s)) u

  pub fed-length : length (bytes_of_stream mode s) ≤ length s
  fed-length =
      either_way (λ (l : List ℕ). length l ≤ length s) (serial mode) (hunted_bytes s) s
      (omega (arith, hunted-count s (found_at s) refl))
      (omega arith)

-- ---- the walk: no more bytes than were fed, no more stores than bytes

walk_short : (bs : List ℕ) (c : Chain) → length (walk_of c bs) ≤ length bs
unfolding walk_of
walk_short [] c = omega arith
walk_short (b ∷ bs) c =
    by_test (eqb (number_of c b) more)
    (λ e. rw e (omega (arith, walk_short bs (went_on c [] b))))
    (λ e. rw e (omega arith))

put-short : (t : Target) (b : ℕ) (ps : List Put) → length (put_of t b ps) ≤ suc (length ps)
put-short framing b ps = omega arith
put-short (register d) b ps = omega arith
put-short (cell i) b ps = omega arith

puts_short : (xs : List Sent) → length (puts_in xs) ≤ length xs
puts_short [] = omega arith
puts_short (x ∷ xs) = omega (arith, put-short x.to x.byte (puts_in xs), puts_short xs)

stores_short : (c : Chain) (bs : List ℕ) → length (puts_of c bs) ≤ length (walk_of c bs)
stores_short c bs =
    by_test (writes c) (λ w. rw w (puts_short (walk_of c bs))) (λ w. rw w (omega arith))

-- ---- memory that a run leaves

module _ (c : Chain) (m bs : List ℕ) where
  -- bytes, where it held bytes and bytes are fed
  pub memory_bytes : Bytes bs → Bytes m → Bytes (run_of (run c m more) bs).memory
  memory_bytes u v =
      by_test (writes c) (λ w. bytes_stay memory bs c m w u v)
      (λ w. rw (run_puts bs c m, w) v)

  -- a cell that is not stored into differs in no bit, another one in eight at most
  bits_of_cell : Bytes bs → Bytes m → (i : ℕ) → bits_at m (run_of (run c m more) bs).memory i ≤ 8 * one_if (leb 1 (times_in i (puts_of c bs)))
  bits_of_cell u v i =
      by_test (leb 1 (times_in i (puts_of c bs)))
      (λ e.
      let x : ℕ = get_or m i 0 in
      let y : ℕ = get_or (run_of (run c m more) bs).memory i 0 in
      rw e (ones-le 8 (bit_xor x y) (xor_lt 8 x y (bytes-at m v i) (bytes-at (run_of (run c m more) bs).memory (memory_bytes u v) i))))
      (λ e.
      let z : times_in i (puts_of c bs) ≡ 0 = omega (arith, leb-false 1 (times_in i (puts_of c bs)) e) in
      let k : get_or (run_of (run c m more) bs).memory i 0 ≡ get_or m i 0 =
      ap (λ (l : List ℕ). get_or l i 0) (run_puts bs c m) ∙ never_stored (puts_of c bs) m i z in
      omega (arith, ap ones (ap (bit_xor (get_or m i 0)) k ∙ xor_self (get_or m i 0)) ∙ none))
    where
      none : ones 0 ≡ 0
      none = unfold ones in refl

  pub bits_at_most : Bytes bs → Bytes m → (size : ℕ) → bits_over size m (run_of (run c m more) bs).memory ≤ 8 * cells_stored size 1 (puts_of c bs)
  bits_at_most u v size =
      sum-le_times 8 (bits_at m (run_of (run c m more) bs).memory) (λ (i : ℕ). one_if (leb 1 (times_in i (puts_of c bs)))) 0 size
      (λ j p q. bits_of_cell u v j)

-- ---- a row

-- a chain between two streams has no byte counted; nor has one whose run was just started
start-counts : (d : Device) (mode : ℕ) → d.chain.place.taken ≡ 0 → (started d mode).place.taken ≡ 0
unfolding start_of
start-counts d mode z =
    either_way (λ (c : Chain). c.place.taken ≡ 0) (eqb (start_number d.chain (length d.memory) mode) done)
    (with_place d.chain (opened_place mode writing)) d.chain refl z

-- what holds of every row: its stream has at most 67,108,864 bytes
pub record RowBounds (s : List ℕ) (r : Sheet) : Type 0 where
  pub taken : r.taken ≤ length s
  pub «data» : r.«data» ≤ r.taken
  pub cells : r.cells + r.again ≤ r.«data»
  pub again : r.again ≤ r.cells
  pub bits : r.bits ≤ 8 * r.cells
  pub edges : r.edges ≤ 8 * length s + 88

-- clock edges
edges_at_most : (b : Bool) (taken n p : ℕ) → taken ≤ n → p ≤ nowhere → (b && eqb p nowhere ≡ false)
    → pick b 8 1 * taken + pick b p 0 + pick b 24 3 ≤ 8 * n + 88
edges_at_most true taken n p h g e = omega (arith, eqb-false p nowhere e)
edges_at_most false taken n p h g e = omega arith

idle-at_most : (b : Bool) (n : ℕ) → pick b 24 3 ≤ 8 * n + 88
idle-at_most true n = omega arith
idle-at_most false n = omega arith

module _ (d : Device) (mode : ℕ) (s : List ℕ) (z : d.chain.place.taken ≡ 0) (n : length s ≤ most_bytes) where
  abbrev bytes : List ℕ
  bytes = bytes_of_stream mode s

  walked : (load_of d mode s).chain.place.taken ≡ length (walk_of (started d mode) bytes)
  unfolding load_of
  walked =
      taken_walk bytes (started d mode) d.memory (start-counts d mode z)
      ∙ mod-eq_of_lt (omega (arith, walk_short bytes (started d mode), fed-length mode s))

  loaded_bounds : hunt_fails mode s ≡ false → Bytes d.memory → Bytes s → RowBounds s (loaded_row d mode s)
  unfolding load_of stores_of
  loaded_bounds f v u =
      let w = walk_short bytes (started d mode) in
      let l = fed-length mode s in
      record {
        taken = omega (arith, walked, w, l);
        «data» = omega (arith, walked, stores_short (started d mode) bytes);
        cells = cells-and_again (length d.memory) (puts_of (started d mode) bytes);
        again = again_among (length d.memory) (puts_of (started d mode) bytes);
        bits = bits_at_most (started d mode) d.memory bytes (fed-bytes mode s u) v (length d.memory);
        edges = edges_at_most (serial mode) (load_of d mode s).chain.place.taken (length s) (found_at s) (omega (arith, walked, w, l)) (found_le s) f;
      }

  -- the hunt fails
  unfound_bounds : RowBounds s (unfound_row mode)
  unfound_bounds =
      record {
        taken = omega arith;
        «data» = omega arith;
        cells = omega arith;
        again = omega arith;
        bits = omega arith;
        edges = idle-at_most (serial mode) (length s);
      }

  pub row_bounds : Bytes d.memory → Bytes s → RowBounds s (row_of d mode s)
  unfolding row_of
  row_bounds v u =
      by_test (hunt_fails mode s) (λ e. rw e unfound_bounds) (λ e. rw e (loaded_bounds e v u))
