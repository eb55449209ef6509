-- Data bytes one by one are one block. Assumes nothing.
use Rattle.std.proofs.Common.{◌≡◌, ℕ, suc, ◌+◌, ◌-◌, ◌%◌, ◌^◌, ◌<◌, ◌≤◌, Bool, true, false, eqb, List, [], ◌∷◌, length, get_or, take, drop, set, sym, refl, ap, ◌∙◌, append_assoc, append-nil, not-suc-le-zero, arith, length-drop, drop_of_length-le, length-take-le, drop-cons, eq-eqb, eqb-true, le-leb}
use mathlib.Core.Bool.{and-false}
use native.Mathlib.Nat.{mod-add-mod}
use lib.Seq.{sets, sets-eq}
use borrow.Rule.Slice.PartMut.{put_mid, Post-is, put_same}
use Rattle.cells.specs.Differ.{unlike_of, differs}
use Rattle.chain.specs.declared.Chain.{Chain}
use Rattle.chain.specs.declared.Place.{Place}
use Rattle.chain.specs.Paper.{at_data, writing, checking, more}
use Rattle.chain.specs.Rules.{pick}
use Rattle.chain.specs.Set.{with_next, with_place}
use Rattle.awaited.specs.Byte.{number_of, passed_of, advance_of}
use Rattle.machine.specs.Run.{address_of, memory_of, registers_of, missed_of, counted, Run, run, step_of, run_of}
use Rattle.machine.specs.Block.{unlike_at, misses_of, laid_of}

-- the chain after the data bytes bs, whose first goes to the cell i
abbrev pub block_of : Chain → List ℕ → ℕ → List ℕ → Chain
block_of c m i bs =
    with_place c (passed_of (counted c.place (length bs) (misses_of c.place.check m i bs)) (length bs))

-- ---- one data byte is a block of one

module _ (c : Chain) (b : ℕ) (e : c.place.awaited ≡ at_data) where
  pub data_number : number_of c b ≡ more
  unfolding number_of
  data_number = simp (e, and-false)

  data_registers : registers_of c b ≡ c.registers
  unfolding registers_of
  data_registers = rw e

  data_memory : (m : List ℕ) → memory_of c m b ≡ laid_of c.place.check m (address_of c) (b ∷ [])
  unfolding memory_of laid_of
  data_memory m = rw e

  data_missed : (m : List ℕ) → missed_of c m b ≡ misses_of c.place.check m (address_of c) (b ∷ [])
  unfolding missed_of misses_of unlike_at address_of
  data_missed m = rw e (by (eqb c.place.check checking) (unlike_of (get_or m (address_of c) 0) b))
    where
      by : (q : Bool) (x : ℕ) → pick q x 0 ≡ pick q (x + 0) 0
      by true x = omega arith
      by false x = refl

  data_place : (k : ℕ) → advance_of (counted c.place 1 k) b ≡ passed_of (counted c.place 1 k) 1
  unfolding advance_of
  data_place k = rw e

  pub data_step : (m : List ℕ)
      → step_of c m b ≡ run (block_of c m (address_of c) (b ∷ [])) (laid_of c.place.check m (address_of c) (b ∷ [])) more
  unfolding step_of
  data_step m = rw (data_number, data_memory m, data_registers, data_missed m, data_place (misses_of c.place.check m (address_of c) (b ∷ [])))

-- ---- a block and one byte before it are a block

-- n data bytes further in its window, k of them mismatches
abbrev inside : Place → ℕ → Place
inside p k = with_next (counted p 1 k) (p.next + 1)

passed_add : (p : Place) (n k l : ℕ) → passed_of (counted (inside p k) n l) n ≡ passed_of (counted p (suc n) (k + l)) (suc n)
unfolding passed_of
passed_add p n k l =
    let e : p.next + suc n ≡ p.next + 1 + n = omega arith in
    let t : (p.taken + suc n) % 2 ^ 32 ≡ (p.taken + 1 + n) % 2 ^ 32 = ap (λ (x : ℕ). x % 2 ^ 32) (later p.taken n) in
    let u : (p.mismatches + (k + l)) % 2 ^ 32 ≡ (p.mismatches + k + l) % 2 ^ 32 = ap (λ (x : ℕ). x % 2 ^ 32) (apart p.mismatches k l) in
    rw (mod-add-mod (p.taken + 1) (2 ^ 32) n, mod-add-mod (p.mismatches + k) (2 ^ 32) l, e, t, u)
  where
    later : (a n : ℕ) → a + suc n ≡ a + 1 + n
    later a n = omega arith

    apart : (a k l : ℕ) → a + (k + l) ≡ a + k + l
    apart a k l = omega arith

-- with a write and a check apart
misses_by : (q w : Bool) (m : List ℕ) (i b : ℕ) (bs : List ℕ) → (q ≡ true → w ≡ false)
    → pick q (unlike_of (get_or m i 0) b + 0) 0 + pick q (unlike_at (pick w (set m i b) m) (suc i) bs) 0
    ≡ pick q (unlike_of (get_or m i 0) b + unlike_at m (suc i) bs) 0
misses_by true w m i b bs h = rw (h refl) (omega arith)
misses_by false w m i b bs h = refl

laid_by : (w : Bool) (m : List ℕ) (i b : ℕ) (bs : List ℕ)
    → pick w (sets (pick w (set m i b) m) (suc i) bs) (pick w (set m i b) m) ≡ pick w (sets m i (b ∷ bs)) m
laid_by true m i b bs = refl
laid_by false m i b bs = refl

module _ (q : ℕ) (m : List ℕ) (i b : ℕ) (bs : List ℕ) where
  misses_cons : misses_of q m i (b ∷ []) + misses_of q (laid_of q m i (b ∷ [])) (suc i) bs ≡ misses_of q m i (b ∷ bs)
  unfolding misses_of laid_of unlike_at
  misses_cons = misses_by (eqb q checking) (eqb q writing) m i b bs (apart q)
    where
      apart : (q : ℕ) → eqb q checking ≡ true → eqb q writing ≡ false
      apart q h = ap (λ (x : ℕ). eqb x writing) (eqb-true q checking h)

  laid_cons : laid_of q (laid_of q m i (b ∷ [])) (suc i) bs ≡ laid_of q m i (b ∷ bs)
  unfolding laid_of
  laid_cons = laid_by (eqb q writing) m i b bs

-- the chain after the byte b, where it does not end its window
abbrev within : Chain → List ℕ → ℕ → Chain
within c m b = with_place c (inside c.place (misses_of c.place.check m (address_of c) (b ∷ [])))

module _ (c : Chain) (m : List ℕ) (b : ℕ) where
  block_one : c.place.next < c.place.end → block_of c m (address_of c) (b ∷ []) ≡ within c m b
  unfolding passed_of
  block_one h = rw (le-leb (c.place.next + 1) c.place.end (omega arith))

  address-one : address_of (within c m b) ≡ suc (address_of c)
  unfolding address_of
  address-one = omega arith

  block-cons : (bs : List ℕ)
      → block_of (within c m b) (laid_of c.place.check m (address_of c) (b ∷ [])) (suc (address_of c)) bs ≡ block_of c m (address_of c) (b ∷ bs)
  block-cons bs =
      ap (λ (p : Place). with_place c p)
      (passed_add c.place (length bs) (misses_of c.place.check m (address_of c) (b ∷ [])) (misses_of c.place.check (laid_of c.place.check m (address_of c) (b ∷ [])) (suc (address_of c)) bs)
      ∙ ap (λ (k : ℕ). passed_of (counted c.place (suc (length bs)) k) (suc (length bs))) (misses_cons c.place.check m (address_of c) b bs))

-- data bytes, no more than the window awaits, are one block stored, or one block counted
pub block : (bs : List ℕ) (c : Chain) (m : List ℕ) → c.place.awaited ≡ at_data
    → 0 < length bs → length bs ≤ c.place.end - c.place.next + 1
    → run_of (run c m more) bs ≡ run (block_of c m (address_of c) bs) (laid_of c.place.check m (address_of c) bs) more
unfolding run_of
block [] c m e h g = absurd (not-suc-le-zero h)
block (b ∷ []) c m e h g = data_step c b e m
block (b ∷ x ∷ bs) c m e h g =
    ap (λ (r : Run). run_of r (x ∷ bs)) (data_step c b e m)
    ∙ rw (block_one c m b (omega arith))
    (block (x ∷ bs) (within c m b) (laid_of c.place.check m (address_of c) (b ∷ [])) e (omega arith) (omega arith)
    ∙ rw (address-one c m b, block-cons c m b (x ∷ bs), laid_cons c.place.check m (address_of c) b (x ∷ bs)))

-- ---- a block inside memory

-- its mismatches are those of the part
pub unlike_part : (bs m : List ℕ) (i : ℕ) → i + length bs ≤ length m → unlike_at m i bs ≡ differs (take (length bs) (drop i m)) bs
unfolding unlike_at differs
unlike_part [] m i h = omega arith
unlike_part (b ∷ bs) m i h =
    rw (drop-cons m i 0 (omega arith)) (ap (λ (x : ℕ). unlike_of (get_or m i 0) b + x) (unlike_part bs m (suc i) (omega arith)))

-- a part that was lent, back with bs in it, is bs stored
put-sets : (m bs : List ℕ) (i : ℕ) → i + length bs ≤ length m → put_mid i (i + length bs - i) m bs ≡ sets m i bs
put-sets m bs i h =
    rw (Post-is i (i + length bs) m (omega arith)) (sym (sets-eq bs m i h ∙ append_assoc (take i m) bs (drop (i + length bs) m)))

-- a block copied over a part as long is the block
sets-whole : (bs part : List ℕ) → length part ≡ length bs → sets part 0 bs ≡ bs
sets-whole bs part h =
    let z : length part ≤ 0 + length bs = omega arith in
    sets-eq bs part 0 (omega arith) ∙ rw (drop_of_length-le part z) (append-nil bs)

module _ (check : ℕ) (m bs : List ℕ) (i : ℕ) (h : i + length bs ≤ length m) where
  pub lay_check : (r : ℕ) → check ≡ checking → r ≡ differs (take (i + length bs - i) (drop i m)) bs
      → (r ≡ misses_of check m i bs) × (m ≡ laid_of check m i bs)
  unfolding misses_of laid_of
  lay_check r w e =
      let z : i + length bs - i ≡ length bs = omega arith in
      (rw (w, unlike_part bs m i h) (e ∙ rw z), rw w)

  pub lay_write : (ys : List ℕ) → check ≡ writing → ys ≡ sets (take (i + length bs - i) (drop i m)) 0 bs
      → (0 ≡ misses_of check m i bs) × (put_mid i (i + length bs - i) m ys ≡ laid_of check m i bs)
  unfolding misses_of laid_of
  lay_write ys w e =
      let z : i + length bs - i ≡ length bs = omega arith in
      let l : length (take (i + length bs - i) (drop i m)) ≡ length bs =
      rw z (length-take-le (length bs) (drop i m) (omega (arith, length-drop i m))) in
      (rw w, rw (w, e, sets-whole bs (take (i + length bs - i) (drop i m)) l) (put-sets m bs i h))

-- ---- present cells, fed back: nothing changes and nothing is missed

differs-same : (xs : List ℕ) → differs xs xs ≡ 0
unfolding differs
differs-same [] = refl
differs-same (x ∷ xs) = rw (eq-eqb x x refl, differs-same xs)

module _ (m : List ℕ) (i n : ℕ) (h : i + n ≤ length m) where
  part_length : length (take n (drop i m)) ≡ n
  part_length = length-take-le n (drop i m) (omega (arith, length-drop i m))

  pub sets_same : sets m i (take n (drop i m)) ≡ m
  sets_same =
      let l = part_length in
      let z : i + length (take n (drop i m)) - i ≡ n = omega arith in
      sym (put-sets m (take n (drop i m)) i (omega arith)) ∙ rw z (put_same i n m)

  pub misses_same : (q : ℕ) → misses_of q m i (take n (drop i m)) ≡ 0
  unfolding misses_of
  misses_same q =
      let l = part_length in
      rw (unlike_part (take n (drop i m)) m i (omega arith), l, differs-same (take n (drop i m))) (either (eqb q checking))
    where
      either : (r : Bool) → pick {A = ℕ} r 0 0 ≡ 0
      either true = refl
      either false = refl

  pub laid_same : (q : ℕ) → laid_of q m i (take n (drop i m)) ≡ m
  unfolding laid_of
  laid_same q = rw sets_same (either (eqb q writing))
    where
      either : (r : Bool) → pick r m m ≡ m
      either true = refl
      either false = refl
