-- Bytes laid over a list, and the values of cells one after another. Assumes nothing.
use Prim.Native.Nat.{ℕ, zero, suc, ◌+◌, ◌-◌, ◌≤◌, ◌<◌}
use mathlib.Core.Path.{◌≡◌, refl, sym, ap, ◌∙◌}
use mathlib.Core.List.{List, [], ◌∷◌, ◌++◌, append-nil}
use native.Mathlib.Omega.{arith}
use native.Mathlib.Numerals.{add-one}
use lib.ListN.{length, take, drop, get_or, set, length-set, length-append, length-replicate, replicate, drop_of_length-le, length-drop}
use lib.Seq.{sets, sets-eq, set_out, set-append_left, drop_at, take_all, drop-cons, set_at, length-take-le}
use Rattle.tidy.specs.Spans.{values_of}

-- ---- sets

set_after : (p q : List ℕ) (j v : ℕ) → set (p ++ q) (length p + j) v ≡ p ++ set q j v
set_after [] q j v =
    let e : 0 + j ≡ j = omega arith in
    rw e
set_after (x ∷ p) q j v =
    let e : suc (length p) + j ≡ suc (length p + j) = omega arith in
    rw e (ap (λ (l : List ℕ). x ∷ l) (set_after p q j v))

pub sets-after : (p q : List ℕ) (n j : ℕ) (w : List ℕ) → n ≡ length p + j → sets (p ++ q) n w ≡ p ++ sets q j w
sets-after p q n j [] e = refl
sets-after p q n j (v ∷ w) e =
    rw (e, set_after p q j v) (sets-after p (set q j v) (suc (length p + j)) (suc j) w (omega arith))

pub sets-before : (p q : List ℕ) (n : ℕ) (w : List ℕ) → n + length w ≤ length p → sets (p ++ q) n w ≡ sets p n w ++ q
sets-before p q n [] h = refl
sets-before p q n (v ∷ w) h =
    rw (set-append_left p q n v (omega (arith, h))) (sets-before (set p n v) q (suc n) w (omega (arith, h, length-set p n v)))

pub sets_out : (o : List ℕ) (n : ℕ) (w : List ℕ) → length o ≤ n → sets o n w ≡ o
sets_out o n [] h = refl
sets_out o n (v ∷ w) h = rw (set_out o n v h) (sets_out o (suc n) w (omega arith))

-- what comes back of a tail over whose front something was copied
pub put_back : (a : ℕ) (w o ys : List ℕ) → a ≤ length o → ys ≡ sets (take (length o - a) (drop a o)) 0 w
    → take a o ++ (ys ++ drop (length o - a) (drop a o)) ≡ sets o a w
put_back a w o ys h y =
    let all : take (length o - a) (drop a o) ≡ drop a o = take_all (length o - a) (drop a o) (omega (arith, length-drop a o)) in
    let none : drop (length o - a) (drop a o) ≡ [] = drop_of_length-le (drop a o) {i = length o - a} (omega (arith, length-drop a o)) in
    let l : length (take a o) ≡ a = length-take-le a o h in
    rw (none, append-nil, y, all)
    (sym (sets-after (take a o) (drop a o) a 0 w (omega arith)) ∙ ap (λ (x : List ℕ). sets x a w) (whole a o))
  where
    whole : (a : ℕ) (o : List ℕ) → take a o ++ drop a o ≡ o
    whole zero o = refl
    whole (suc a) [] = refl
    whole (suc a) (x ∷ o) = ap (λ (l : List ℕ). x ∷ l) (whole a o)

-- ---- values

pub values_length : (v : ℕ → ℕ) (n a : ℕ) → length (values_of v n a) ≡ n
values_length v zero a = refl
values_length v (suc n) a = ap suc (values_length v n (suc a))

pub values-append : (v : ℕ → ℕ) (n m a : ℕ) → values_of v (n + m) a ≡ values_of v n a ++ values_of v m (a + n)
values-append v zero m a =
    let e : 0 + m ≡ m = omega arith in
    let f : a + 0 ≡ a = omega arith in
    rw (e, f)
values-append v (suc n) m a =
    let e : suc n + m ≡ suc (n + m) = omega arith in
    let f : a + suc n ≡ suc a + n = omega arith in
    rw (e, f) (ap (λ (l : List ℕ). v a ∷ l) (values-append v n m (suc a)))

pub values_same : (u v : ℕ → ℕ) (n a : ℕ) → ((i : ℕ) → a ≤ i → i < a + n → u i ≡ v i) → values_of u n a ≡ values_of v n a
values_same u v zero a h = refl
values_same u v (suc n) a h =
    rw (h a (omega arith) (omega arith), values_same u v n (suc a) (λ i f g. h i (omega arith) (omega arith)))

pub values-zero : (n a : ℕ) → values_of (λ (i : ℕ). 0) n a ≡ replicate n 0
values-zero zero a = refl
values-zero (suc n) a = ap (λ (l : List ℕ). 0 ∷ l) (values-zero n (suc a))

-- bytes of a list as values
pub values-bytes : (s : List ℕ) (n f : ℕ) (v : ℕ → ℕ) (a : ℕ) → f + n ≤ length s → ((j : ℕ) → j < n → v (a + j) ≡ get_or s (f + j) 0)
    → take n (drop f s) ≡ values_of v n a
values-bytes s zero f v a h e = refl
values-bytes s (suc n) f v a h e =
    let z : a + 0 ≡ a = omega arith in
    let y : f + 0 ≡ f = omega arith in
    let q : v a ≡ get_or s f 0 = rw (z, y) at (e 0 (omega arith)) in
    rw (drop-cons s f 0 (omega arith), q)
    (ap (λ (l : List ℕ). get_or s f 0 ∷ l)
    (values-bytes s n (suc f) v (suc a) (omega arith) (λ j g.
    let k : suc a + j ≡ a + suc j = omega arith in
    let m : suc f + j ≡ f + suc j = omega arith in
    rw (k, m) (e (suc j) (omega arith)))))

-- some of them laid over others
pub values-laid : (u v : ℕ → ℕ) (n m c a : ℕ) → c ≤ a → a + m ≤ c + n → ((i : ℕ) → i < a → u i ≡ v i) → ((i : ℕ) → a + m ≤ i → u i ≡ v i)
    → sets (values_of v n c) (a - c) (values_of u m a) ≡ values_of u n c
values-laid u v n m c a h g f k =
    let p : ℕ = a - c in
    let r : ℕ = n - (p + m) in
    let e : n ≡ p + (m + r) = omega arith in
    let x : c + p ≡ a = omega arith in
    let t : (w : ℕ → ℕ) → values_of w n c ≡ values_of w p c ++ (values_of w m a ++ values_of w r (a + m)) =
    λ w. ap (λ (q : ℕ). values_of w q c) e ∙ values-append w p (m + r) c ∙ rw (x, values-append w m r a) in
    rw (t v, t u, values_same u v p c (λ i _ j. f i (omega arith)), values_same u v r (a + m) (λ i j _. k i (omega arith)))
    (mid (values_of v p c) (values_of v m a) (values_of v r (a + m)) (values_of u m a) p (sym (values_length v p c)) (values_length u m a ∙ sym (values_length v m a)))
  where
    mid : (x y z w : List ℕ) (n : ℕ) → n ≡ length x → length w ≡ length y → sets (x ++ (y ++ z)) n w ≡ x ++ (w ++ z)
    mid x y z w n e l =
        let front : (k : ℕ) → k ≡ length y → w ++ drop k (y ++ z) ≡ w ++ z = λ k h. rw (h, drop_at y z (length y) refl) in
        sets-after x (y ++ z) n 0 w (omega arith)
        ∙ ap (λ (q : List ℕ). x ++ q)
        (sets-eq w (y ++ z) 0 (omega (arith, length-append y z))
        ∙ front (0 + length w) (omega (arith, l)))

-- ---- zeros

pub zeros-more : (i : ℕ) (o : List ℕ) → i < length o → set (replicate i 0 ++ drop i o) i 0 ≡ replicate (i + 1) 0 ++ drop (i + 1) o
zeros-more i o h =
    rw (drop-cons o i 0 h, set_at (replicate i 0) (get_or o i 0) (drop (suc i) o) 0 i (length-replicate i 0), add-one i) (snoc i (drop (suc i) o))
  where
    snoc : (i : ℕ) (l : List ℕ) → replicate i 0 ++ 0 ∷ l ≡ replicate (suc i) 0 ++ l
    snoc zero l = refl
    snoc (suc i) l = ap (λ (x : List ℕ). 0 ∷ x) (snoc i l)
