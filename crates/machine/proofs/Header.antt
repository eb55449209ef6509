-- The five bytes before a window's data, taken at once. Assumes nothing.
use Rattle.std.proofs.Common.{◌≡◌, ℕ, suc, ◌+◌, ◌-◌, ◌*◌, ◌%◌, ◌^◌, ◌<◌, ◌≤◌, Bool, true, false, ◌&&◌, eqb, ltb, leb, List, [], ◌∷◌, length, get_or, take, drop, refl, ap, ◌∙◌, arith, lit<, drop-cons, ltb-true, le-ltb, lt-ltb, leb-true}
use mathlib.Core.Bool.{and-false, false≢true}
use native.Mathlib.Nat.{mod-add-mod, mul-div_left}
use Rattle.chain.specs.declared.Chain.{Chain}
use Rattle.chain.specs.declared.Place.{Place}
use Rattle.chain.specs.Paper.{at_control, at_null, at_start, at_start_low, at_end, at_end_low, at_data, more}
use Rattle.chain.specs.Set.{with_awaited, with_start, with_end, with_next, with_place}
use Rattle.chain.specs.Kinds.{size_at, size_here}
use Rattle.chain.specs.Window.{with_low, fits_of}
use Rattle.awaited.specs.Byte.{number_of, advance_of}
use Rattle.machine.specs.Run.{memory_of, registers_of, missed_of, counted, Run, run, step_of, run_of}
use Rattle.machine.specs.Block.{headed_of}

module _ (c : Chain) (m : List ℕ) where
  -- a byte that is neither data nor control moves the place alone
  plain_step : (p : Place) (b : ℕ) → number_of (with_place c p) b ≡ more → eqb p.awaited at_data ≡ false → eqb p.awaited at_control ≡ false
      → step_of (with_place c p) m b ≡ run (with_place c (advance_of (counted p 1 0) b)) m more
  unfolding step_of memory_of registers_of missed_of
  plain_step p b n d g = rw (n, d, g)

  s7 : (p : Place) (b : ℕ) → step_of (with_place c (with_awaited p at_null)) m b ≡ run (with_place c (with_awaited (counted p 1 0) at_start)) m more
  unfolding number_of advance_of
  s7 p b = plain_step (with_awaited p at_null) b (simp and-false) refl refl

  s8 : (p : Place) (b : ℕ)
      → step_of (with_place c (with_awaited p at_start)) m b ≡ run (with_place c (with_awaited (with_start (counted p 1 0) (b * 256)) at_start_low)) m more
  unfolding number_of advance_of
  s8 p b = plain_step (with_awaited p at_start) b (simp and-false) refl refl

  s9 : (p : Place) (b : ℕ) → with_low p.start b < size_at c p.device
      → step_of (with_place c (with_awaited p at_start_low)) m b ≡ run (with_place c (with_awaited (with_start (counted p 1 0) (with_low p.start b)) at_end)) m more
  unfolding number_of advance_of
  s9 p b h = plain_step (with_awaited p at_start_low) b (simp (and-false, lt-ltb _ _ h)) refl refl

  s10 : (p : Place) (b : ℕ)
      → step_of (with_place c (with_awaited p at_end)) m b ≡ run (with_place c (with_awaited (with_end (counted p 1 0) (b * 256)) at_end_low)) m more
  unfolding number_of advance_of
  s10 p b = plain_step (with_awaited p at_end) b (simp and-false) refl refl

  s11 : (p : Place) (b : ℕ) → p.start ≤ with_low p.end b → with_low p.end b < size_at c p.device
      → step_of (with_place c (with_awaited p at_end_low)) m b
      ≡ run (with_place c (with_awaited (with_next (with_end (counted p 1 0) (with_low p.end b)) p.start) at_data)) m more
  unfolding number_of advance_of
  s11 p b h g = plain_step (with_awaited p at_end_low) b (simp (and-false, lt-ltb _ _ g, le-ltb _ _ h)) refl refl

-- five counts of one are one count of five
five_counts : (t : ℕ) → (((((t + 1) % 2 ^ 32 + 1) % 2 ^ 32 + 1) % 2 ^ 32 + 1) % 2 ^ 32 + 1) % 2 ^ 32 ≡ (t + 5) % 2 ^ 32
five_counts t =
    let e : t + 1 + 1 + 1 + 1 + 1 ≡ t + 5 = omega arith in
    rw (mod-add-mod (t + 1) (2 ^ 32) 1, mod-add-mod (t + 1 + 1) (2 ^ 32) 1, mod-add-mod (t + 1 + 1 + 1) (2 ^ 32) 1, mod-add-mod (t + 1 + 1 + 1 + 1) (2 ^ 32) 1, e)

five_none : (t : ℕ) → (((((t + 0) % 2 ^ 32 + 0) % 2 ^ 32 + 0) % 2 ^ 32 + 0) % 2 ^ 32 + 0) % 2 ^ 32 ≡ (t + 0) % 2 ^ 32
five_none t =
    let e : t + 0 + 0 + 0 + 0 + 0 ≡ t + 0 = omega arith in
    rw (mod-add-mod (t + 0) (2 ^ 32) 0, mod-add-mod (t + 0 + 0) (2 ^ 32) 0, mod-add-mod (t + 0 + 0 + 0) (2 ^ 32) 0, mod-add-mod (t + 0 + 0 + 0 + 0) (2 ^ 32) 0, e)

pair_low : (a b : ℕ) → with_low (a * 256) b ≡ a * 256 + b
pair_low a b = ap (λ (x : ℕ). x * 256 + b) (mul-div_left a (lit< {m = 0} {n = 256} tt))

module _ (c : Chain) (m : List ℕ) (b0 b1 b2 b3 b4 : ℕ) where
  -- null, start and end of a window that fits
  header : (p : Place) → b1 * 256 + b2 < size_at c p.device → b1 * 256 + b2 ≤ b3 * 256 + b4
      → b3 * 256 + b4 < size_at c p.device
      → run_of (run (with_place c (with_awaited p at_null)) m more) (b0 ∷ b1 ∷ b2 ∷ b3 ∷ b4 ∷ [])
      ≡ run (with_place c (headed_of p (b1 * 256 + b2) (b3 * 256 + b4))) m more
  unfolding run_of
  header p h g k =
      let p1 = counted p 1 0 in
      let p2 = with_start (counted p1 1 0) (b1 * 256) in
      let p3 = with_start (counted p2 1 0) (with_low (b1 * 256) b2) in
      let p4 = with_end (counted p3 1 0) (b3 * 256) in
      ap (λ (r : Run). run_of r (b1 ∷ b2 ∷ b3 ∷ b4 ∷ [])) (s7 c m p b0)
      ∙ ap (λ (r : Run). run_of r (b2 ∷ b3 ∷ b4 ∷ [])) (s8 c m p1 b1)
      ∙ ap (λ (r : Run). run_of r (b3 ∷ b4 ∷ [])) (s9 c m p2 b2 (rw (pair_low b1 b2) h))
      ∙ ap (λ (r : Run). run_of r (b4 ∷ [])) (s10 c m p3 b3)
      ∙ s11 c m p4 b4 (rw (pair_low b1 b2, pair_low b3 b4) g) (rw (pair_low b3 b4) k)
      ∙ rw (pair_low b1 b2, pair_low b3 b4, five_counts p.taken, five_none p.mismatches)

  pub header_at : c.place.awaited ≡ at_null → b1 * 256 + b2 < size_here c
      → b1 * 256 + b2 ≤ b3 * 256 + b4 → b3 * 256 + b4 < size_here c
      → run_of (run c m more) (b0 ∷ b1 ∷ b2 ∷ b3 ∷ b4 ∷ []) ≡ run (with_place c (headed_of c.place (b1 * 256 + b2) (b3 * 256 + b4))) m more
  header_at e h g k =
      ap (λ (a : ℕ). run_of (run (with_place c (with_awaited c.place a)) m more) (b0 ∷ b1 ∷ b2 ∷ b3 ∷ b4 ∷ [])) e
      ∙ header c.place h g k

-- five bytes of a slice, as a lent part has them
pub five_part : (s : List ℕ) (i : ℕ) → i + 5 ≤ length s
    → take (i + 5 - i) (drop i s) ≡ get_or s i 0 ∷ get_or s (i + 1) 0 ∷ get_or s (i + 2) 0 ∷ get_or s (i + 3) 0 ∷ get_or s (i + 4) 0 ∷ []
five_part s i h =
    let z : i + 5 - i ≡ 5 = omega arith in
    let e1 : i + 1 ≡ suc i = omega arith in
    let e2 : i + 2 ≡ suc (suc i) = omega arith in
    let e3 : i + 3 ≡ suc (suc (suc i)) = omega arith in
    let e4 : i + 4 ≡ suc (suc (suc (suc i))) = omega arith in
    rw (z, drop-cons s i 0 (omega arith), drop-cons s (suc i) 0 (omega arith), drop-cons s (suc (suc i)) 0 (omega arith), drop-cons s (suc (suc (suc i))) 0 (omega arith), drop-cons s (suc (suc (suc (suc i)))) 0 (omega arith), e1, e2, e3, e4)

all_three : (a b c : Bool) → (a && b && c) ≡ true → (a ≡ true) × (b ≡ true) × (c ≡ true)
all_three true true c h = (refl, refl, h)
all_three true false c h = absurd (false≢true h)
all_three false b c h = absurd (false≢true h)

-- what a window that fits is
pub fits_true : (size start end : ℕ) → fits_of size start end ≡ true → (start < size) × (start ≤ end) × (end < size)
fits_true size start end f =
    let t = all_three (ltb start size) (leb start end) (ltb end size) f in
    (ltb-true start size t.0, leb-true start end t.1, ltb-true end size t.2)

-- five bytes of a slice at its byte i, where the window fits
pub header_part : (c : Chain) (m s : List ℕ) (i start end : ℕ) → i + 5 ≤ length s → c.place.awaited ≡ at_null
    → start ≡ get_or s (i + 1) 0 * 256 + get_or s (i + 2) 0 → end ≡ get_or s (i + 3) 0 * 256 + get_or s (i + 4) 0
    → fits_of (size_here c) start end ≡ true
    → run_of (run c m more) (take (i + 5 - i) (drop i s)) ≡ run (with_place c (headed_of c.place start end)) m more
header_part c m s i start end h e a z f =
    let t = fits_true (size_here c) start end f in
    let x = t.0 in
    let y = t.1 in
    let w = t.2 in
    rw (five_part s i h, a, z)
    (header_at c m (get_or s i 0) (get_or s (i + 1) 0) (get_or s (i + 2) 0) (get_or s (i + 3) 0) (get_or s (i + 4) 0) e (rw a at x) (rw (a, z) at y) (rw z at w))
