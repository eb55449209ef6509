-- The tail of an output, lent to a writer that writes its front, and back. Assumes nothing.
use Prim.Native.Nat.{ℕ, suc, ◌+◌, ◌-◌, ◌≤◌, ◌<◌}
use native.Mathlib.Numerals.{add-one}
use mathlib.Core.Path.{◌≡◌, refl, sym, ap, ◌∙◌}
use mathlib.Core.List.{List, [], ◌∷◌, ◌++◌, append-nil, append_assoc}
use native.Mathlib.Omega.{arith}
use lib.ListN.{length, take, drop, get_or, set, length-append, length-drop, drop_of_length-le}
use lib.Seq.{sets, sets-eq, take_all, take_at, drop_at, drop-drop, length-take-le, drop-cons, set_at, append_snoc}
use Rattle.chain.specs.Output.{over}

-- a tail is lent whole
all : (a : ℕ) (o : List ℕ) → take (length o - a) (drop a o) ≡ drop a o
all a o = take_all (length o - a) (drop a o) (omega (arith, length-drop a o))

none : (a : ℕ) (o : List ℕ) → drop (length o - a) (drop a o) ≡ []
none a o = drop_of_length-le (drop a o) {i = length o - a} (omega (arith, length-drop a o))

pub tail-length : (a : ℕ) (o : List ℕ) → length (take (length o - a) (drop a o)) ≡ length o - a
tail-length a o = ap length (all a o) ∙ length-drop a o

-- what comes back of it, its front written
pub back : (a : ℕ) (w o ys : List ℕ) → ys ≡ over w (take (length o - a) (drop a o))
    → take a o ++ (ys ++ drop (length o - a) (drop a o)) ≡ take a o ++ over w (drop a o)
back a w o ys y = rw (none a o, append-nil, y, all a o)

-- a front written, what follows it goes into the tail that it left
pub over-more : (a : ℕ) (w rest o : List ℕ) → a ≤ length o
    → take a o ++ over (w ++ rest) (drop a o)
    ≡ take (a + length w) (take a o ++ over w (drop a o)) ++ over rest (drop (a + length w) (take a o ++ over w (drop a o)))
over-more a w rest o h =
    let l : length (take a o ++ w) ≡ a + length w = length-append (take a o) w ∙ ap (λ (n : ℕ). n + length w) (length-take-le a o h) in
    rw (
      ← append_assoc (take a o) w (drop (length w) (drop a o)),
      take_at (take a o ++ w) (drop (length w) (drop a o)) (a + length w) l,
      drop_at (take a o ++ w) (drop (length w) (drop a o)) (a + length w) l,
      length-append w rest,
      drop-drop (length rest) (length w) (drop a o),
    )
    (simp append_assoc)

pub length_more : (a : ℕ) (w o : List ℕ) → a + length w ≤ length o → length (take a o ++ over w (drop a o)) ≡ length o
length_more a w o h = simp (length-append, length-drop, length-take-le a o (omega arith)) (omega arith)

-- one front, then another into the tail that it left
pub then_over : (a : ℕ) (u w o o₁ ys : List ℕ) → a ≡ length u → o₁ ≡ over u o → ys ≡ over w (take (length o₁ - a) (drop a o₁))
    → take a o₁ ++ (ys ++ drop (length o₁ - a) (drop a o₁)) ≡ over (u ++ w) o
then_over a u w o o₁ ys ea e y =
    back a w o₁ ys y
    ∙ rw (e, ea, take_at u (drop (length u) o) (length u) refl, drop_at u (drop (length u) o) (length u) refl, drop-drop (length w) (length u) o)
    (rw (length-append u w) (sym (append_assoc u w (drop (length u + length w) o))))

-- a copy is a front written
pub copied : (w o : List ℕ) → length w ≤ length o → sets o 0 w ≡ over w o
copied w o h =
    let z : 0 + length w ≡ length w = omega arith in
    rw z at (sets-eq w o 0 (omega arith))

pub length_over : (w o : List ℕ) → length w ≤ length o → length (over w o) ≡ length o
length_over w o h = simp (length-append, length-drop) (omega arith)

pub then_copied : (a : ℕ) (u w o o₁ ys : List ℕ) → a ≡ length u → a + length w ≤ length o → o₁ ≡ over u o
    → ys ≡ sets (take (length o₁ - a) (drop a o₁)) 0 w
    → take a o₁ ++ (ys ++ drop (length o₁ - a) (drop a o₁)) ≡ over (u ++ w) o
then_copied a u w o o₁ ys ea h e y =
    let l : length o₁ ≡ length o = ap length e ∙ length_over u o (omega arith) in
    then_over a u w o o₁ ys ea e (y ∙ copied w (take (length o₁ - a) (drop a o₁)) (omega (arith, tail-length a o₁)))

-- one byte more
pub then_byte : (u o : List ℕ) (n v : ℕ) → n ≡ length u → n < length o → set (over u o) n v ≡ over (u ++ (v ∷ [])) o
then_byte u o n v e h =
    rw (← e, length-append u, ← e, add-one, drop-cons o n 0 h, set_at u (get_or o n 0) (drop (suc n) o) v n (sym e)) (sym (append_snoc u v (drop (suc n) o)))

pub over_is : (u w o : List ℕ) → u ≡ w → over u o ≡ over w o
over_is u w o e = rw e

-- five bytes stored one by one are a front written
pub five_stored : (a b c d e : ℕ) (o : List ℕ) → 5 ≤ length o
    → set (set (set (set (set o 0 a) 1 b) 2 c) 3 d) 4 e ≡ over (a ∷ b ∷ c ∷ d ∷ e ∷ []) o
five_stored a b c d e [] h = absurd (omega arith)
five_stored a b c d e (_ ∷ []) h = absurd (omega arith)
five_stored a b c d e (_ ∷ _ ∷ []) h = absurd (omega arith)
five_stored a b c d e (_ ∷ _ ∷ _ ∷ []) h = absurd (omega arith)
five_stored a b c d e (_ ∷ _ ∷ _ ∷ _ ∷ []) h = absurd (omega arith)
five_stored a b c d e (_ ∷ _ ∷ _ ∷ _ ∷ _ ∷ o) h = refl
