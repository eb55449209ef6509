-- The bytes that a counter comes by, one after another: upward as they stand in the EPROM, in mode 2 downward. Assumes nothing.
use Rattle.std.proofs.Common.{◌≡◌, ℕ, zero, suc, ◌+◌, ◌-◌, ◌<◌, ◌≤◌, true, false, eqb, List, length, get_or, take, drop, refl, ap, ◌∙◌, arith, length-drop, length-take, length-take-le, get_or-drop, drop-cons, get_or-take}
use Rattle.chain.specs.Paper.{downward}
use Rattle.chain.specs.Rules.{pick}
use Rattle.chain.proofs.ByCases.{by_test}
use Rattle.eprom.specs.Counter.{counts, last_count, next_of}
use Rattle.eprom.specs.Steps.{down_from, part_of, Stretch, Reads}

-- ---- downward

pub down-length : (e : List ℕ) (at n : ℕ) → length (down_from e at n) ≡ n
unfolding down_from
down-length e at zero = refl
down-length e at (suc n) = ap suc (down-length e (at - 1) n)

pub down-at : (e : List ℕ) (at n i : ℕ) → i < n → get_or (down_from e at n) i 0 ≡ get_or e (at - i) 0
unfolding down_from
down-at e at zero i h = absurd (no h)
  where
    no : i < 0 → ⊥
    no h = omega arith
down-at e at (suc n) zero h =
    let z : at ≡ at - 0 = omega arith in
    ap (λ (x : ℕ). get_or e x 0) z
down-at e at (suc n) (suc i) h =
    let z : at - 1 - i ≡ at - suc i = omega arith in
    down-at e (at - 1) n i (omega arith) ∙ ap (λ (x : ℕ). get_or e x 0) z

next_down : (mode k : ℕ) → eqb mode downward ≡ true → 0 < k → k ≤ last_count → next_of mode k ≡ k - 1
unfolding next_of
next_down mode k d h g = rw d (omega arith)

pub down_reads : (mode : ℕ) (e : List ℕ) (k n : ℕ) → eqb mode downward ≡ true → k < length e → k ≤ last_count → n ≤ k + 1 → Reads mode e k (down_from e k n)
unfolding down_from
down_reads mode e k zero d h g l = tt
down_reads mode e k (suc zero) d h g l = ((h, refl), tt)
down_reads mode e k (suc (suc n)) d h g l =
    let z = next_down mode k d (omega arith) g in
    ((h, refl), rw z (down_reads mode e (k - 1) (suc n) d (omega arith) (omega arith) (omega arith)))

-- ---- upward

next_up : (mode k : ℕ) → eqb mode downward ≡ false → k < last_count → next_of mode k ≡ suc k
unfolding next_of
next_up mode k d h = rw d (omega arith)

pub up_reads : (mode : ℕ) (e : List ℕ) (k n : ℕ) → eqb mode downward ≡ false → k + n ≤ length e → k + n ≤ counts → Reads mode e k (take n (drop k e))
up_reads mode e k zero d h g = tt
up_reads mode e k (suc zero) d h g = rw (drop-cons e k 0 (omega arith)) ((omega arith, refl), tt)
up_reads mode e k (suc (suc n)) d h g =
    let z = next_up mode k d (omega arith) in
    rw (drop-cons e k 0 (omega arith)) ((omega arith, refl), rw z (up_reads mode e (suc k) (suc n) d (omega arith) (omega arith)))

-- ---- either way

module _ (mode : ℕ) (e : List ℕ) (k n : ℕ) where
  pub part_reads : {many : ℕ} → k ≤ last_count → Stretch mode k (length e) many n → Reads mode e k (part_of mode e k n)
  unfolding part_of
  part_reads low r =
      by_test (eqb mode downward)
      (λ d. rw d (down_reads mode e k n d r.there low (r.down d).0))
      (λ d. rw d (up_reads mode e k n d (r.up d).0 (r.up d).1))

  pub part_length : {many : ℕ} → Stretch mode k (length e) many n → length (part_of mode e k n) ≡ n
  unfolding part_of
  part_length r = by_test (eqb mode downward) (λ d. rw d (down-length e k n)) (λ d. rw d (length-take-le n (drop k e) (omega (arith, length-drop k e, (r.up d).0))))

  pub part_most : length (part_of mode e k n) ≤ n
  unfolding part_of
  part_most = by_test (eqb mode downward) (λ d. rw d (omega (arith, down-length e k n))) (λ d. rw d (omega (arith, length-take n (drop k e))))

  -- its second byte is the one after the counter's
  pub part_second : 2 ≤ n → get_or (part_of mode e k n) 1 0 ≡ pick (eqb mode downward) (get_or e (k - 1) 0) (get_or e (k + 1) 0)
  unfolding part_of
  part_second h =
      by_test (eqb mode downward)
      (λ d. rw d (down-at e k n 1 (omega arith)))
      (λ d. rw d (get_or-take n (drop k e) 1 0 (omega arith) ∙ get_or-drop k e 1 0))
