-- What is kept of a block of bytes: as byte by byte, and whatever the counter. Assumes nothing.
use Rattle.std.proofs.Common.{◌≡◌, ℕ, ◌-◌, ◌<◌, ◌≤◌, Bool, true, false, not, ◌&&◌, eqb, leb, List, [], ◌∷◌, sym, refl, ◌∙◌, true≢false, arith, lit<, lit≤, le-ltb, ne_eqb, eqb-true, le-leb, leb-true}
use Rattle.chain.specs.declared.Place.{Place}
use Rattle.chain.specs.Paper.{at_preamble, at_control, at_address, at_address2, at_address3, at_count, at_null, at_check, no_windows}
use Rattle.chain.specs.Rules.{pick, row_of}
use Rattle.chain.proofs.ByCases.{by_test, either_way}
use Rattle.eprom.specs.declared.Fetcher.{Fetcher}
use Rattle.eprom.specs.Kept.{with_counter, not_yet, first, kept_rows, kept_of}
use Rattle.eprom.specs.Steps.{settled, head_of, kept_through, kept_by, after_of}

-- ---- whatever the counter

either_kept : (t : Bool) (x y : Fetcher) (k : ℕ) (u v : Fetcher) → u ≡ with_counter x k → v ≡ with_counter y k → pick t u v ≡ with_counter (pick t x y) k
either_kept true x y k u v e f = e
either_kept false x y k u v e f = f

pub rows_counter : (a : ℕ) (f : Fetcher) (b k : ℕ) → row_of a (kept_rows (with_counter f k) b) (with_counter f k) ≡ with_counter (row_of a (kept_rows f b) f) k
rows_counter a f b k =
    either_kept (eqb a at_preamble) _ _ k _ _ refl
    (either_kept (eqb a at_control) _ _ k _ _ refl
    (either_kept (eqb a at_address) _ _ k _ _ refl
    (either_kept (eqb a at_address2) _ _ k _ _ refl
    (either_kept (eqb a at_address3) _ _ k _ _ refl
    (either_kept (eqb a at_null) _ _ k _ _ refl refl)))))

pub through_counter : (a : ℕ) (f : Fetcher) (bs : List ℕ) (k : ℕ) → kept_through a (with_counter f k) bs ≡ with_counter (kept_through a f bs) k
unfolding kept_through
through_counter a f [] k = refl
through_counter a f (b ∷ bs) k = rw (rows_counter a f b k) (through_counter (after_of a b) (row_of a (kept_rows f b) f) bs k)

-- ---- where nothing more is kept

both_left : (x y : Bool) → (x && y) ≡ true → x ≡ true
both_left true y e = refl
both_left false y e = e

both_right : (x y : Bool) → (x && y) ≡ true → y ≡ true
both_right true y e = e
both_right false y e = absurd (true≢false (sym e))

pub both : (x y : Bool) → (x && y) ≡ true → (x ≡ true) × (y ≡ true)
both x y e = (both_left x y e, both_right x y e)

not_true : (x : Bool) → not x ≡ true → x ≡ false
not_true true e = sym e
not_true false e = refl

-- from the count byte on the null byte alone is kept, once
nothing_row : (a : ℕ) (f : Fetcher) (b : ℕ) → (leb at_count a && not (eqb f.nulled not_yet)) ≡ true → row_of a (kept_rows f b) f ≡ f
nothing_row a f b h =
    let l = leb-true at_count a (both_left (leb at_count a) (not (eqb f.nulled not_yet)) h) in
    let n = not_true (eqb f.nulled not_yet) (both_right (leb at_count a) (not (eqb f.nulled not_yet)) h) in
    rw (
      ne_eqb a at_preamble (λ e. omega arith),
      ne_eqb a at_control (λ e. omega arith),
      ne_eqb a at_address (λ e. omega arith),
      ne_eqb a at_address2 (λ e. omega arith),
      ne_eqb a at_address3 (λ e. omega arith),
      n,
    )
    (same (eqb a at_null))
  where
    same : (t : Bool) → pick t f f ≡ f
    same true = refl
    same false = refl

after_late : (a b : ℕ) → at_count ≤ a → at_count ≤ after_of a b
unfolding after_of
after_late a b h =
    rw (ne_eqb a at_preamble (λ e. omega arith), le-ltb a at_count h)
    (either_way (λ (x : ℕ). at_count ≤ x) (eqb a at_count && not (eqb b no_windows)) at_null at_check (lit≤ tt) (lit≤ tt))

through-settled : (bs : List ℕ) (a : ℕ) (f : Fetcher) → (leb at_count a && not (eqb f.nulled not_yet)) ≡ true → kept_through a f bs ≡ f
unfolding kept_through
through-settled [] a f h = refl
through-settled (b ∷ bs) a f h =
    let l = le-leb at_count (after_of a b) (after_late a b (leb-true at_count a (both_left (leb at_count a) (not (eqb f.nulled not_yet)) h))) in
    let n = both_right (leb at_count a) (not (eqb f.nulled not_yet)) h in
    rw (nothing_row a f b h) (through-settled bs (after_of a b) f (rw (l, n)))

-- behind the null byte
pub through-none : (bs : List ℕ) (a : ℕ) (f : Fetcher) → at_null < a → kept_through a f bs ≡ f
unfolding kept_through after_of
through-none [] a f h = refl
through-none (b ∷ bs) a f h =
    rw (
      ne_eqb a at_preamble (λ e. omega arith),
      ne_eqb a at_control (λ e. omega arith),
      ne_eqb a at_address (λ e. omega arith),
      ne_eqb a at_address2 (λ e. omega arith),
      ne_eqb a at_address3 (λ e. omega arith),
      ne_eqb a at_null (λ e. omega arith),
      ne_eqb a at_count (λ e. omega arith),
      le-ltb a at_count (omega arith),
    )
    (through-none bs at_check f (lit< tt))

-- at the first device what is kept is told by the bytes alone
pub by_through : (p : Place) (f : Fetcher) (bs : List ℕ) → first p ≡ true → kept_by p f bs ≡ kept_through p.awaited f bs
unfolding kept_by settled
by_through p f bs e =
    by_test (leb at_count p.awaited && not (eqb f.nulled not_yet))
    (λ s. rw (e, s) (sym (through-settled bs p.awaited f s)))
    (λ s. rw (e, s))

-- one byte
pub kept_by_lem : (p : Place) (f : Fetcher) (b : ℕ) → kept_of p f b ≡ kept_by p f (b ∷ [])
unfolding kept_of kept_by kept_through settled
kept_by_lem p f b =
    by_test (first p)
    (λ e.
    by_test (leb at_count p.awaited && not (eqb f.nulled not_yet))
    (λ h. rw (e, h) (nothing_row p.awaited f b h))
    (λ h. rw (e, h)))
    (λ e. rw e)

-- where nothing more is kept, a byte leaves all as it is
pub settled-kept : (p : Place) (f : Fetcher) (b : ℕ) → settled p f ≡ true → kept_of p f b ≡ f
unfolding kept_by
settled-kept p f b h = kept_by_lem p f b ∙ rw h

-- ---- before the null byte

-- where two bytes or more are left before it, the count byte is still to come
pub two-left : (a : ℕ) → 2 ≤ head_of a → a < at_count
unfolding head_of
two-left a h =
    by_test (eqb a at_preamble) (λ e. omega (arith, eqb-true a at_preamble e))
    (λ e.
    by_test (leb a at_count) (λ l. few a (leb-true a at_count l) (rw (e, l) at h))
    (λ l. absurd (none (rw (e, l) at h))))
  where
    few : (a : ℕ) → a ≤ at_count → 2 ≤ 7 - a → a < at_count
    few a l h = omega arith

    none : 2 ≤ 1 → ⊥
    none h = omega arith
