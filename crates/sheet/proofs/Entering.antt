-- The rows of a sheet entered one after another: the sums and the tables so far, with the rows that are still to come, are those of the whole. Assumes nothing.
use Prim.Native.Nat.{ℕ, suc, ◌+◌, ◌-◌, ◌*◌, ◌<◌, ◌≤◌}
use mathlib.Core.Bool.{true}
use mathlib.Core.Path.{◌≡◌, refl, sym, ap, ◌∙◌}
use mathlib.Core.List.{List, [], ◌∷◌}
use native.Mathlib.Nat.{zero-add, add_assoc}
use native.Mathlib.Numerals.{add-one}
use native.Mathlib.Omega.{arith}
use lib.ListN.{length, get_or, set, take, drop, length-drop}
use lib.Seq.{sets, drop-cons, drop-drop, length-take-le}
use Rattle.chain.specs.declared.Chain.{Chain}
use Rattle.chain.specs.declared.Place.{Place}
use Rattle.chain.specs.Paper.{first_mode, two_preambles, most_streams, most_bytes, done}
use Rattle.chain.specs.Rules.{from}
use Rattle.chain.specs.Bytes.{Bytes}
use Rattle.chain.proofs.Bytes.{bytes_take, bytes_drop}
use Rattle.sheet.specs.declared.Sheet.{Sheet}
use Rattle.sheet.specs.Stream.{Device, device, left_by, row_of}
use Rattle.sheet.specs.Sheet.{streams_of, rows_of, sum, sums_of, numbers_of, figures_a_row, figures_of, refused_sheet}
use Rattle.sheet.specs.Steps.{plus, Small}
use Rattle.sheet.proofs.Bounds.{RowBounds, row_bounds}
use Rattle.sheet.proofs.Left.{Idle, left-idle, left-size}

-- ---- sums

plus-zeros : (r : Sheet) → r.number ≡ done → plus (refused_sheet done) r ≡ r
plus-zeros r e =
    rw (zero-add r.taken, zero-add r.«data», zero-add r.cells, zero-add r.again, zero-add r.bits, zero-add r.edges, ← e)

plus_row : (a r : Sheet) (rs : List Sheet) → plus a (sums_of (r ∷ rs)) ≡ plus (plus a r) (sums_of rs)
plus_row a r rs =
    let b : Sheet = sums_of rs in
    rw (
      add_assoc a.taken r.taken b.taken,
      add_assoc a.«data» r.«data» b.«data»,
      add_assoc a.cells r.cells b.cells,
      add_assoc a.again r.again b.again,
      add_assoc a.bits r.bits b.bits,
      add_assoc a.edges r.edges b.edges,
    )

-- sums of the rows of so many streams, of so many bytes in all
pub record Few (at i : ℕ) (r : Sheet) : Type 0 where
  pub taken : r.taken ≤ at
  pub «data» : r.«data» ≤ at
  pub cells : r.cells ≤ at
  pub again : r.again ≤ at
  pub bits : r.bits ≤ 8 * at
  pub edges : r.edges ≤ 8 * at + 88 * i

few_zeros : Few 0 0 (refused_sheet done)
few_zeros =
    record { taken = omega arith; «data» = omega arith; cells = omega arith; again = omega arith; bits = omega arith; edges = omega arith }

few_row : (at i : ℕ) (a r : Sheet) (s : List ℕ) → Few at i a → RowBounds s r → Few (at + length s) (i + 1) (plus a r)
few_row at i a r s f b =
    let t = b.taken in
    let d = b.«data» in
    let c = b.cells in
    let g = b.again in
    record {
      taken = omega (arith, f.taken, t);
      «data» = omega (arith, f.«data», t, d);
      cells = omega (arith, f.cells, t, d, c);
      again = omega (arith, f.again, t, d, c);
      bits = omega (arith, f.bits, t, d, c, b.bits);
      edges = omega (arith, f.edges, b.edges);
    }

few_small : (at i : ℕ) (a : Sheet) → Few at i a → at ≤ most_bytes → i ≤ most_streams → Small a
few_small at i a f h g =
    record {
      taken = omega (arith, f.taken);
      «data» = omega (arith, f.«data»);
      cells = omega (arith, f.cells);
      again = omega (arith, f.again);
      bits = omega (arith, f.bits);
      edges = omega (arith, f.edges);
    }

-- ---- tables

six-more : (f : List ℕ) (i : ℕ) (r : Sheet) (rs : List Sheet)
    → sets f (figures_a_row * i) (figures_of (r ∷ rs)) ≡ sets (sets f (figures_a_row * i) (figures_of (r ∷ []))) (figures_a_row * (i + 1)) (figures_of rs)
six-more f i r rs =
    let e : figures_a_row * (i + 1) ≡ suc (suc (suc (suc (suc (suc (figures_a_row * i)))))) = omega arith in
    rw e

-- ---- the rows

module _ (mode : ℕ) (ss ls : List ℕ) (d₀ : Device) (n₀ f₀ : List ℕ) where
  -- those from stream i on, whose first byte stands at `at`
  abbrev rest : Device → ℕ → ℕ → List Sheet
  rest d at i = rows_of d mode (streams_of (drop i ls) (drop at ss))

  abbrev all : List Sheet
  all = rows_of d₀ mode (streams_of ls ss)

  -- i streams are entered: the device as they left it, the tables, the sums
  pub record Entering (d : Device) (n f : List ℕ) (sums : Sheet) (at i : ℕ) : Type 0 where
    pub count : i ≤ length ls
    pub lengths : at + sum (drop i ls) ≡ length ss
    pub idle : Idle d
    pub cells : length d.memory ≡ length d₀.memory
    pub sums_are : sums_of all ≡ plus sums (sums_of (rest d at i))
    pub numbers_are : sets n₀ 0 (numbers_of all) ≡ sets n i (numbers_of (rest d at i))
    pub figures_are : sets f₀ 0 (figures_of all) ≡ sets f (figures_a_row * i) (figures_of (rest d at i))
    pub few_are : Few at i sums

  pub entering_begins : Idle d₀ → sum ls ≡ length ss → Entering d₀ n₀ f₀ (refused_sheet done) 0 0
  entering_begins h e =
      record {
        count = omega arith;
        lengths = omega (arith, e);
        idle = h;
        cells = refl;
        sums_are = sym (plus-zeros (sums_of all) refl);
        numbers_are = refl;
        figures_are = refl;
        few_are = few_zeros;
      }

  module _ (d : Device) (n f : List ℕ) (sums : Sheet) (at i : ℕ) (x : Entering d n f sums at i) (h : i < length ls) (m : from first_mode two_preambles mode ≡ true)
      (small : length ss ≤ most_bytes) (few : length ls ≤ most_streams) (u : Bytes ss) where
    abbrev k : ℕ
    k = get_or ls i 0

    -- the next stream, as it is lent
    abbrev s : List ℕ
    s = take (at + k - at) (drop at ss)

    next : drop i ls ≡ k ∷ drop (i + 1) ls
    next = rw (add-one i) (drop-cons ls i 0 h)

    pub next_fits : at + k ≤ length ss
    next_fits = omega (arith, x.lengths, ap sum next)

    stream_is : s ≡ take k (drop at ss)
    stream_is =
        let e : at + k - at ≡ k = omega arith in
        rw e

    length-s : length s ≡ k
    length-s =
        let e : at + k - at ≡ k = omega arith in
        rw e (length-take-le k (drop at ss) (omega (arith, length-drop at ss, next_fits)))

    pub stream_few : length s ≤ most_bytes
    stream_few = omega (arith, length-s, next_fits, small)

    stream-bytes : Bytes s
    stream-bytes = bytes_take (at + k - at) (drop at ss) (bytes_drop at ss u)

    abbrev r : Sheet
    r = row_of d mode s

    rest_is : rest d at i ≡ r ∷ rest (left_by d mode s) (at + k) (i + 1)
    rest_is = rw (next, stream_is, drop-drop k at ss)

    bounds : RowBounds s r
    bounds = row_bounds d mode s (ap (λ (p : Place). p.taken) x.idle.ready.closed) stream_few x.idle.bytes stream-bytes

    few_next : Few (at + k) (i + 1) (plus sums r)
    few_next = rw length-s at (few_row at i sums r s x.few_are bounds)

    pub next_small : Small (plus sums r)
    next_small = few_small (at + k) (i + 1) (plus sums r) few_next (omega (arith, next_fits, small)) (omega (arith, h, few))

    pub entering_turn : (f' : List ℕ) → f' ≡ sets f (figures_a_row * i) (figures_of (r ∷ []))
        → Entering (left_by d mode s) (set n i r.number) f' (plus sums r) (at + k) (i + 1)
    entering_turn f' e =
        record {
          count = omega (arith, h);
          lengths = omega (arith, x.lengths, ap sum next);
          idle = left-idle d mode s x.idle m stream-bytes;
          cells = left-size d mode s x.idle m stream-bytes ∙ x.cells;
          sums_are = x.sums_are ∙ ap (λ (rs : List Sheet). plus sums (sums_of rs)) rest_is ∙ plus_row sums r (rest (left_by d mode s) (at + k) (i + 1));
          numbers_are = x.numbers_are ∙ ap (λ (rs : List Sheet). sets n i (numbers_of rs)) rest_is
              ∙ ap (λ (j : ℕ). sets (set n i r.number) j (numbers_of (rest (left_by d mode s) (at + k) (i + 1)))) (sym (add-one i));
          figures_are = x.figures_are ∙ ap (λ (rs : List Sheet). sets f (figures_a_row * i) (figures_of rs)) rest_is
              ∙ six-more f i r (rest (left_by d mode s) (at + k) (i + 1))
              ∙ ap (λ (g : List ℕ). sets g (figures_a_row * (i + 1)) (figures_of (rest (left_by d mode s) (at + k) (i + 1)))) (sym e);
          few_are = few_next;
        }

  -- as the code has it
  pub entered : (e : Device) {c : Chain} {mem : List ℕ} (r : Sheet) {q : Sheet} (n f : List ℕ) (sums : Sheet) {sums' : Sheet} (at i j : ℕ)
      → Entering e (set n j r.number) f (plus sums r) at i
      → c ≡ e.chain → mem ≡ e.memory → q ≡ r → sums' ≡ plus sums q → Entering (device c mem) (set n j q.number) f sums' at i
  entered e r n f sums at i j x h g k l = rw (h, g, l, k) x
