-- Sums over cells: put together, taken apart, moved, compared term by term. Assumes nothing.
use Prim.Native.Nat.{ℕ, zero, suc, ◌+◌, ◌-◌, ◌*◌, ◌≤◌, ◌<◌}
use mathlib.Core.Path.{◌≡◌, refl, ap, ◌∙◌}
use native.Mathlib.Omega.{arith}
use native.Mathlib.Nat.{mul-zero, mul-add, zero-add, add-zero, suc-add}
use Rattle.sheet.specs.Count.{sum_from}

-- of a sum, and of a multiple
pub sum_of : (f g : ℕ → ℕ) (i n : ℕ) → sum_from (λ (j : ℕ). f j + g j) i n ≡ sum_from f i n + sum_from g i n
unfolding sum_from
sum_of f g i zero = refl
sum_of f g i (suc n) = omega (arith, sum_of f g (i + 1) n)

pub sum_nothing : (i n : ℕ) → sum_from (λ (j : ℕ). 0) i n ≡ 0
unfolding sum_from
sum_nothing i zero = refl
sum_nothing i (suc n) = omega (arith, sum_nothing (i + 1) n)

-- term by term
pub sum-le : (f g : ℕ → ℕ) (i n : ℕ) → ((j : ℕ) → i ≤ j → j < i + n → f j ≤ g j) → sum_from f i n ≤ sum_from g i n
unfolding sum_from
sum-le f g i zero h = omega arith
sum-le f g i (suc n) h =
    omega (arith, h i (omega arith) (omega arith), sum-le f g (i + 1) n (λ j p q. h j (omega arith) (omega arith)))

pub sum_ext : (f g : ℕ → ℕ) (i n : ℕ) → ((j : ℕ) → i ≤ j → j < i + n → f j ≡ g j) → sum_from f i n ≡ sum_from g i n
unfolding sum_from
sum_ext f g i zero h = refl
sum_ext f g i (suc n) h =
    omega (arith, h i (omega arith) (omega arith), sum_ext f g (i + 1) n (λ j p q. h j (omega arith) (omega arith)))

-- each term is zero
pub sum-zero : (f : ℕ → ℕ) (i n : ℕ) → ((j : ℕ) → i ≤ j → j < i + n → f j ≡ 0) → sum_from f i n ≡ 0
sum-zero f i n h = sum_ext f (λ (j : ℕ). 0) i n h ∙ sum_nothing i n

-- each term is at most k times another
pub sum-le_times : (k : ℕ) (f g : ℕ → ℕ) (i n : ℕ) → ((j : ℕ) → i ≤ j → j < i + n → f j ≤ k * g j) → sum_from f i n ≤ k * sum_from g i n
unfolding sum_from
sum-le_times k f g i zero h = omega (arith, mul-zero k)
sum-le_times k f g i (suc n) h =
    omega (
      arith,
      h i (omega arith) (omega arith),
      sum-le_times k f g (i + 1) n (λ j p q. h j (omega arith) (omega arith)),
      mul-add k (g i) (sum_from g (i + 1) n),
    )

-- the first m and the n after them
pub sum_parts : (f : ℕ → ℕ) (i m n : ℕ) → sum_from f i (m + n) ≡ sum_from f i m + sum_from f (i + m) n
unfolding sum_from
sum_parts f i zero n = rw (zero-add n, add-zero i, zero-add (sum_from f i n))
sum_parts f i (suc m) n =
    rw (suc-add m n) (omega (arith, sum_parts f (i + 1) m n, ap (λ (k : ℕ). sum_from f k n) (over-one i m)))
  where
    over-one : (a b : ℕ) → a + 1 + b ≡ a + suc b
    over-one a b = omega arith

-- counted from another cell
pub sum_moved : (f : ℕ → ℕ) (k i n : ℕ) → sum_from (λ (j : ℕ). f (k + j)) i n ≡ sum_from f (k + i) n
unfolding sum_from
sum_moved f k i zero = refl
sum_moved f k i (suc n) =
    ap (λ (x : ℕ). f (k + i) + x) (sum_moved f k (i + 1) n ∙ ap (λ (x : ℕ). sum_from f x n) (one-over k i))
  where
    one-over : (a b : ℕ) → a + (b + 1) ≡ a + b + 1
    one-over a b = omega arith

pub sum_shift : (f : ℕ → ℕ) (i n : ℕ) → sum_from (λ (j : ℕ). f (i + j)) 0 n ≡ sum_from f i n
sum_shift f i n = sum_moved f i 0 n ∙ ap (λ (x : ℕ). sum_from f x n) (add-zero i)

-- the first of those that are left
pub sum_next : (f : ℕ → ℕ) (i n : ℕ) → i < n → sum_from f i (n - i) ≡ f i + sum_from f (i + 1) (n - (i + 1))
unfolding sum_from
sum_next f i n h =
    let e : n - i ≡ suc (n - (i + 1)) = omega arith in
    rw e

-- those up to e, and those from there on
pub sum_split : (f : ℕ → ℕ) (i e n : ℕ) → i ≤ e → e ≤ n → sum_from f i (n - i) ≡ sum_from f i (e - i) + sum_from f e (n - e)
sum_split f i e n h k =
    let a : n - i ≡ e - i + (n - e) = omega arith in
    let b : i + (e - i) ≡ e = omega arith in
    rw a (sum_parts f i (e - i) (n - e) ∙ ap (λ (x : ℕ). sum_from f i (e - i) + sum_from f x (n - e)) b)

-- none is left
pub sum_none : (f : ℕ → ℕ) (i n : ℕ) → n ≤ i → sum_from f i (n - i) ≡ 0
unfolding sum_from
sum_none f i n h =
    let e : n - i ≡ 0 = omega arith in
    rw e
