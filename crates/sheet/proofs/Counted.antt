-- The figures of a stream that are counted between the lowest and the highest cell that it stores into: cells by order or by marks, bits by memory. Assumes
-- nothing.
use Prim.Native.Nat.{ℕ, zero, suc, min, ◌+◌, ◌-◌, ◌*◌, ◌<◌, ◌≤◌}
use mathlib.Core.Bool.{true}
use mathlib.Core.Path.{◌≡◌, refl, sym, ap, ap₂, ◌∙◌}
use mathlib.Core.List.{List, [], ◌∷◌, ◌++◌}
use native.Mathlib.Nat.{zero-add}
use native.Mathlib.Omega.{arith}
use borrow.Author.Tests.{eqb-true, eqb-false, eq-eqb, leb-true, leb-false, le-leb, lt-leb}
use borrow.Rule.Slice.PartMut.{put_mid, Post-is, put_same}
use lib.Bits.{bit_xor, xor_self}
use lib.Count.{ones}
use lib.Dec.{eqb, leb}
use lib.ListN.{length, get_or, set, take, drop, replicate, length-take, length-drop, length-replicate, length-set, get_or-replicate, get_or-append}
use lib.Seq.{get_or-take, get_or-drop, get_or-append-add, get_or-set_same, get_or-set_other, ext_get_or, length-take-le}
use Rattle.chain.proofs.ByCases.{by_test}
use Rattle.machine.specs.declared.Answer.{Answer}
use Rattle.grammar.specs.Stores.{Put, put_into}
use Rattle.sheet.specs.declared.walk.Walked.{Walked}
use Rattle.sheet.specs.Count.{one_if, sum_from, times_in, cells_stored, bits_at, bits_over}
use Rattle.sheet.specs.Stream.{edges_per_byte, idle_edges}
use Rattle.sheet.specs.Steps.{bump, marked, marks_from, Walk, row_from}
use Rattle.sheet.proofs.Noted.{length_marked}
use Rattle.sheet.proofs.Sums.{sum_ext, sum-zero, sum_parts, sum_shift}
use Rattle.sheet.proofs.Times.{Inside, times_in-all, never_stored}

-- ---- sums between two cells

-- what is 0 outside them is counted between them
pub middle_only : (f : ℕ → ℕ) (low top n : ℕ) → low ≤ top → top ≤ n → ((i : ℕ) → i < low → f i ≡ 0) → ((i : ℕ) → top ≤ i → f i ≡ 0)
    → sum_from f 0 n ≡ sum_from f low (top - low)
middle_only f low top n h g below above =
    let e : n ≡ low + (top - low + (n - top)) = omega arith in
    let a : 0 + low ≡ low = omega arith in
    let b : low + (top - low) ≡ top = omega arith in
    let x = sum_parts f 0 low (top - low + (n - top)) in
    let y = sum_parts f low (top - low) (n - top) in
    let z : sum_from f 0 low ≡ 0 = sum-zero f 0 low (λ i p q. below i (omega arith)) in
    let w : sum_from f top (n - top) ≡ 0 = sum-zero f top (n - top) (λ i p q. above i p) in
    ap (sum_from f 0) e ∙ x ∙ rw (a, y, b, z, w) (omega arith)

-- an entry of a part
pub part_entry : (xs : List ℕ) (low n j : ℕ) → j < n → get_or (take n (drop low xs)) j 0 ≡ get_or xs (low + j) 0
part_entry xs low n j h = get_or-take n (drop low xs) j 0 h ∙ get_or-drop low xs j 0

pub part_small : (xs : List ℕ) (low top : ℕ) {n : ℕ} → length xs ≤ n → length (take (top - low) (drop low xs)) ≤ n
part_small xs low top {n} h = omega (arith, length-take (top - low) (drop low xs), length-drop low xs)

pub part_length : (xs ys : List ℕ) (low top : ℕ) → length xs ≡ length ys → length (take (top - low) (drop low xs)) ≡ length (take (top - low) (drop low ys))
part_length xs ys low top e =
    length-take (top - low) (drop low xs) ∙ ap (λ (n : ℕ). min (top - low) n) (length-drop low xs ∙ ap (λ (n : ℕ). n - low) e ∙ sym (length-drop low ys))
    ∙ sym (length-take (top - low) (drop low ys))

-- ---- cells in order

inside-from : (n : ℕ) (ps : List Put) → ((i : ℕ) → n ≤ i → times_in i ps ≡ 0) → Inside n ps
unfolding times_in
inside-from n [] h = tt
inside-from n (p ∷ ps) h = (
  by_test (leb n p.cell)
      (λ e. let q : n ≤ p.cell = leb-true n p.cell e in
      absurd (omega (arith, h p.cell q, ap one_if (eq-eqb p.cell p.cell refl))))
      (λ e. leb-false n p.cell e),
  inside-from n ps (λ i q. omega (arith, h i q)),
)

one_of_lem : (t : ℕ) → t ≤ 1 → one_if (leb 1 t) ≡ t
one_of_lem zero h = refl
one_of_lem (suc zero) h = refl
one_of_lem (suc (suc t)) h = absurd (omega arith)

none_of : (t : ℕ) → t ≤ 1 → one_if (leb 2 t) ≡ 0
none_of t h = ap one_if (lt-leb 2 t (omega arith))

module _ (ps : List Put) (n : ℕ) (w : Walked) (x : Walk ps n w) where
  above-all : (i : ℕ) → n ≤ i → times_in i ps ≡ 0
  above-all i h = x.above i (omega (arith, x.inside))

  pub ordered_cells : w.ordered ≡ true → w.stored ≡ cells_stored n 1 ps
  ordered_cells o =
      x.stored ∙ sym (times_in-all n ps (inside-from n ps above-all))
      ∙ sum_ext (λ (j : ℕ). times_in j ps) (λ (j : ℕ). one_if (leb 1 (times_in j ps))) 0 n (λ j p q. sym (one_of_lem (times_in j ps) (x.once o j)))

  pub ordered_again : w.ordered ≡ true → 0 ≡ cells_stored n 2 ps
  ordered_again o = sym (sum-zero (λ (j : ℕ). one_if (leb 2 (times_in j ps))) 0 n (λ j p q. none_of (times_in j ps) (x.once o j)))

  -- those stored into k times or more lie between low and top
  pub cells-between : (k : ℕ) → 0 < k → cells_stored n k ps ≡ sum_from (λ (j : ℕ). one_if (leb k (times_in j ps))) w.low (w.top - w.low)
  cells-between k h =
      middle_only (λ (j : ℕ). one_if (leb k (times_in j ps))) w.low w.top n x.order x.inside
      (λ i p. rw (x.below i p) (ap one_if (lt-leb k 0 h))) (λ i p. rw (x.above i p) (ap one_if (lt-leb k 0 h)))

-- ---- cells by marks

-- a mark after t stores
bumps : ℕ → ℕ → ℕ
bumps zero m = m
bumps (suc t) m = bumps t (bump m)

marked_cell : (ps : List Put) (m : List ℕ) (j : ℕ) → j < length m → get_or (marked m ps) j 0 ≡ bumps (times_in j ps) (get_or m j 0)
unfolding marked times_in bumps
marked_cell [] m j h = refl
marked_cell (p ∷ ps) m j h =
    let v = bump (get_or m p.cell 0) in
    marked_cell ps (set m p.cell v) j (omega (arith, length-set m p.cell v))
    ∙ by_test (eqb p.cell j)
    (λ e. let q : p.cell ≡ j = eqb-true p.cell j e in
    let o : 1 + times_in j ps ≡ suc (times_in j ps) = omega arith in
    rw (e, o, q, get_or-set_same m j (bump (get_or m j 0)) 0 h))
    (λ e. rw (e, zero-add (times_in j ps), get_or-set_other m p.cell j v 0 (λ q. eqb-false p.cell j e (sym q))))

two_stays : (t : ℕ) → bumps t 2 ≡ 2
unfolding bumps
two_stays zero = refl
two_stays (suc t) = two_stays t

marks_tell : (k t : ℕ) → k ≤ 2 → leb k (bumps t 0) ≡ leb k t
unfolding bumps
marks_tell k zero h = refl
marks_tell k (suc zero) h = refl
marks_tell k (suc (suc t)) h = rw (two_stays t, le-leb k 2 h, le-leb k (suc (suc t)) (omega arith))

-- from marks that are 0 between low and top
pub marks_count : (ps : List Put) (m : List ℕ) (low top k : ℕ) → k ≤ 2 → low ≤ top → top ≤ length m
    → ((j : ℕ) → low ≤ j → j < top → get_or m j 0 ≡ 0)
    → marks_from (take (top - low) (drop low (marked m ps))) k 0 (length (take (top - low) (drop low (marked m ps))))
    ≡ sum_from (λ (j : ℕ). one_if (leb k (times_in j ps))) low (top - low)
unfolding marks_from
marks_count ps m low top k h g l z =
    let part = take (top - low) (drop low (marked m ps)) in
    let e : length part ≡ top - low = length-take-le (top - low) (drop low (marked m ps)) (omega (arith, length-drop low (marked m ps), length_marked ps m)) in
    ap (sum_from (λ (j : ℕ). one_if (leb k (get_or part j 0))) 0) e
    ∙ sum_ext (λ (j : ℕ). one_if (leb k (get_or part j 0))) (λ (j : ℕ). one_if (leb k (times_in (low + j) ps))) 0 (top - low)
    (λ j p q.
    ap (λ (x : ℕ). one_if (leb k x))
    (part_entry (marked m ps) low (top - low) j (omega arith) ∙ marked_cell ps m (low + j) (omega arith) ∙ ap (bumps (times_in (low + j) ps)) (z (low + j) (omega arith) (omega arith)))
    ∙ ap one_if (marks_tell k (times_in (low + j) ps) h))
    ∙ sum_shift (λ (j : ℕ). one_if (leb k (times_in j ps))) low (top - low)

-- such marks: cleared between them
pub cleared : (m : List ℕ) (low top j : ℕ) → low ≤ j → j < top → top ≤ length m
    → get_or (put_mid low (top - low) m (replicate (length (take (top - low) (drop low m))) 0)) j 0 ≡ 0
cleared m low top j h g l =
    let zs : List ℕ = replicate (length (take (top - low) (drop low m))) 0 in
    let n : length (take (top - low) (drop low m)) ≡ top - low = length-take-le (top - low) (drop low m) (omega (arith, length-drop low m)) in
    let a : length (take low m) ≡ low = length-take-le low m (omega arith) in
    let e : j ≡ length (take low m) + (j - low) = omega arith in
    ap (λ (i : ℕ). get_or (put_mid low (top - low) m zs) i 0) e
    ∙ get_or-append-add (take low m) (zs ++ drop (top - low) (drop low m)) (j - low) 0
    ∙ get_or-append zs (drop (top - low) (drop low m)) 0 (j - low) (omega (arith, length-replicate {A = ℕ} (length (take (top - low) (drop low m))) 0))
    ∙ get_or-replicate (length (take (top - low) (drop low m))) (j - low) 0 0 (omega arith)

-- ---- bits

module _ (ps : List Put) (old mem : List ℕ) (same : mem ≡ put_into ps old) (size : length mem ≡ length old) (w : Walked)
    (x : Walk ps (length old) w) where
  untouched : (i : ℕ) → times_in i ps ≡ 0 → get_or old i 0 ≡ get_or mem i 0
  untouched i z = sym (ap (λ (m : List ℕ). get_or m i 0) same ∙ never_stored ps old i z)

  no_bits : (i : ℕ) → times_in i ps ≡ 0 → bits_at old mem i ≡ 0
  unfolding ones
  no_bits i z = ap (λ (v : ℕ). ones (bit_xor (get_or old i 0) v)) (sym (untouched i z)) ∙ ap ones (xor_self (get_or old i 0))

  -- counted between low and top
  pub bits_between : bits_over (length (take (w.top - w.low) (drop w.low mem))) (take (w.top - w.low) (drop w.low old)) (take (w.top - w.low) (drop w.low mem))
      ≡ bits_over (length old) old mem
  bits_between =
      let n : length (take (w.top - w.low) (drop w.low mem)) ≡ w.top - w.low =
      length-take-le (w.top - w.low) (drop w.low mem) (omega (arith, length-drop w.low mem, x.inside, size)) in
      ap (sum_from (bits_at (take (w.top - w.low) (drop w.low old)) (take (w.top - w.low) (drop w.low mem))) 0) n
      ∙ sum_ext (bits_at (take (w.top - w.low) (drop w.low old)) (take (w.top - w.low) (drop w.low mem))) (λ (j : ℕ). bits_at old mem (w.low + j)) 0 (w.top - w.low)
      (λ j p q. ap₂ (λ (a b : ℕ). ones (bit_xor a b)) (part_entry old w.low (w.top - w.low) j (omega arith)) (part_entry mem w.low (w.top - w.low) j (omega arith)))
      ∙ sum_shift (bits_at old mem) w.low (w.top - w.low)
      ∙ sym (middle_only (bits_at old mem) w.low w.top (length old) x.order x.inside (λ i h. no_bits i (x.below i h)) (λ i h. no_bits i (x.above i h)))

  -- and what lies outside is the same before and after
  pub settled : put_mid w.low (w.top - w.low) old (take (w.top - w.low) (drop w.low mem)) ≡ mem
  settled =
      let front : take w.low old ≡ take w.low mem =
      ext_get_or 0 (take w.low old) (take w.low mem)
      (length-take-le w.low old (omega (arith, x.order, x.inside)) ∙ sym (length-take-le w.low mem (omega (arith, x.order, x.inside, size))))
      (λ i h. let l : i < w.low = omega (arith, length-take-le w.low old (omega (arith, x.order, x.inside))) in
      get_or-take w.low old i 0 l ∙ untouched i (x.below i l) ∙ sym (get_or-take w.low mem i 0 l)) in
      let back : drop w.top old ≡ drop w.top mem =
      ext_get_or 0 (drop w.top old) (drop w.top mem) (length-drop w.top old ∙ ap (λ (k : ℕ). k - w.top) (sym size) ∙ sym (length-drop w.top mem))
      (λ i h. get_or-drop w.top old i 0 ∙ untouched (w.top + i) (x.above (w.top + i) (omega arith)) ∙ sym (get_or-drop w.top mem i 0)) in
      ap₂ (λ (a b : List ℕ). a ++ (take (w.top - w.low) (drop w.low mem) ++ b)) front (Post-is w.low w.top old x.order ∙ back ∙ sym (Post-is w.low w.top mem x.order))
      ∙ put_same w.low (w.top - w.low) mem

-- ---- the row

pub row_made : (mode p : ℕ) (a : Answer) (ps : List Put) (before after : List ℕ) {d ce ag bi ed : ℕ} → d ≡ length ps → ce ≡ cells_stored (length before) 1 ps
    → ag ≡ cells_stored (length before) 2 ps → bi ≡ bits_over (length before) before after → ed ≡ edges_per_byte mode * a.taken + p + idle_edges mode
    → record { number = a.number; taken = a.taken; «data» = d; cells = ce; again = ag; bits = bi; edges = ed } ≡ row_from mode p a ps before after
row_made mode p a ps before after e f g h i = rw (e, f, g, h, i)
