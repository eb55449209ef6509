-- Spans whose starts ascend, joined where they touch: the same cells, ascending with gaps. Assumes nothing.
use Prim.Native.Nat.{ℕ, ◌+◌, ◌-◌, ◌≤◌, ◌<◌}
use mathlib.Core.Bool.{Bool, true, false, ◌||◌}
use mathlib.Core.Path.{◌≡◌, refl, sym, ◌∙◌}
use mathlib.Core.Logic.{◌⊎◌, inl, inr, ⊎_elim}
use mathlib.Core.List.{List, [], ◌∷◌}
use native.Mathlib.Omega.{arith}
use borrow.Author.Tests.{le-leb, ltb-true, ltb-false, leb-true, leb-false}
use lib.Dec.{ltb, leb}
use lib.ListN.{length}
use Rattle.chain.proofs.ByCases.{by_test}
use Rattle.tidy.specs.Spans.{Span, span, has}
use Rattle.tidy.specs.Steps.{join_from, joined, Rising, Ordered, Spaced, Below, spanned, Inside, slot_of}
use Rattle.tidy.proofs.HasCell.{has_yes, has_true, has_false}

pub rising_less : (a b : ℕ) (xs : List Span) → b ≤ a → Rising a xs → Rising b xs
rising_less a b [] h r = tt
rising_less a b (x ∷ xs) h r = (omega (arith, r.0), r.1)

-- by cases: the next span touches, and the two end at n; or it is apart
ways {ℓ} : (P : List Span → Type ℓ) (c x : Span) (xs : List Span)
    → ((n : ℕ) → x.start ≤ c.end + 1 → c.end ≤ n → x.end ≤ n → (n ≤ c.end ⊎ n ≤ x.end) → P (join_from (span c.start n) xs))
    → (c.end + 2 ≤ x.start → P (c ∷ join_from x xs))
    → P (join_from c (x ∷ xs))
unfolding join_from
ways P c x xs f g =
    by_test (leb x.start (c.end + 1))
    (λ e. let t = leb-true x.start (c.end + 1) e in
    by_test (ltb c.end x.end)
    (λ k. let w = ltb-true c.end x.end k in
    rw (e, k) (f x.end t (omega arith) (omega arith) (inr (omega arith))))
    (λ k. let w = ltb-false c.end x.end k in
    rw (e, k) (f c.end t (omega arith) (omega arith) (inl (omega arith)))))
    (λ e. let t = leb-false x.start (c.end + 1) e in
    rw e (g (omega arith)))

join_spaced : (xs : List Span) (c : Span) (a : ℕ) → a ≤ c.start → c.start ≤ c.end → Rising c.start xs → Ordered xs → Spaced a (join_from c xs)
unfolding join_from
join_spaced [] c a h p r o = (h, p, tt)
join_spaced (x ∷ xs) c a h p r o =
    ways (Spaced a) c x xs
    (λ n t u v k. join_spaced xs (span c.start n) a h (omega arith) (rising_less x.start c.start xs r.0 r.1) o.1)
    (λ g. (h, p, join_spaced xs x (c.end + 2) g o.0 r.1 o.1))

or_assoc : (a b d : Bool) → (a || (b || d)) ≡ ((a || b) || d)
or_assoc true b d = refl
or_assoc false b d = refl

-- two spans that touch have together the cells up to the end of both
has_both : (a b d e n i : ℕ) → a ≤ b → d ≤ e → a ≤ d → d ≤ b + 1 → b ≤ n → e ≤ n → (n ≤ b ⊎ n ≤ e) → has a n i ≡ (has a b i || has d e i)
has_both a b d e n i p q h t u v k =
    by_test (has a b i)
    (λ y. let z = has_true a b i y in rw (y, has_yes a n i z.0 (omega (arith, z.1))))
    (λ y. by_test (has d e i)
    (λ w. let z = has_true d e i w in rw (y, w, has_yes a n i (omega (arith, z.0)) (omega (arith, z.1))))
    (λ w. rw (y, w) (by_test (has a n i)
    (λ s. let z = has_true a n i s in
    absurd (⊎_elim
    (λ y₁. omega (arith, z.0))
    (λ y₁. ⊎_elim (λ w₁. omega arith) (λ w₁. ⊎_elim (λ m. omega (arith, z.1)) (λ m. omega (arith, z.1)) k) (has_false d e i w))
    (has_false a b i y)))
    (λ s. s))))

join_has : (xs : List Span) (c : Span) (i : ℕ) → c.start ≤ c.end → Rising c.start xs → Ordered xs
    → spanned (join_from c xs) i ≡ (has c.start c.end i || spanned xs i)
unfolding join_from spanned
join_has [] c i p r o = refl
join_has (x ∷ xs) c i p r o =
    ways (λ l. spanned l i ≡ (has c.start c.end i || (has x.start x.end i || spanned xs i))) c x xs
    (λ n t u v k. join_has xs (span c.start n) i (omega arith) (rising_less x.start c.start xs r.0 r.1) o.1
    ∙ rw (has_both c.start c.end x.start x.end n i p o.0 r.0 t u v k) (sym (or_assoc (has c.start c.end i) (has x.start x.end i) (spanned xs i))))
    (λ g. rw (join_has xs x i o.0 r.1 o.1))

join_below : (xs : List Span) (c : Span) (n : ℕ) → c.end < n → Below n xs → Below n (join_from c xs)
unfolding join_from
join_below [] c n h b = (h, tt)
join_below (x ∷ xs) c n h b =
    ways (Below n) c x xs
    (λ m t u v k. join_below xs (span c.start m) n (⊎_elim (λ w. omega arith) (λ w. omega (arith, b.0)) k) b.1)
    (λ g. (h, join_below xs x n b.0 b.1))

inside-first : (xs : List Span) (c : Span) (a b : ℕ) → c.start ≤ a → b ≤ c.end → Inside (join_from c xs) a b
unfolding join_from
inside-first [] c a b f g = inl (f, g)
inside-first (x ∷ xs) c a b f g =
    ways (λ l. Inside l a b) c x xs (λ n t u v k. inside-first xs (span c.start n) a b f (omega arith)) (λ h. inl (f, g))

inside-other : (xs : List Span) (c : Span) (a b : ℕ) → Rising c.start xs → Inside xs a b → Inside (join_from c xs) a b
unfolding join_from
inside-other [] c a b r h = absurd h
inside-other (x ∷ xs) c a b r h =
    ways (λ l. Inside l a b) c x xs
    (λ n t u v k. ⊎_elim (λ y. inside-first xs (span c.start n) a b (omega (arith, r.0, y.0)) (omega (arith, y.1)))
    (λ y. inside-other xs (span c.start n) a b (rising_less x.start c.start xs r.0 r.1) y) h)
    (λ g. inr (⊎_elim (λ y. inside-first xs x a b y.0 y.1) (λ y. inside-other xs x a b r.1 y) h))

join_fewer : (xs : List Span) (c : Span) → length (join_from c xs) ≤ length xs + 1
unfolding join_from
join_fewer [] c = omega arith
join_fewer (x ∷ xs) c =
    ways (λ l. length l ≤ length (x ∷ xs) + 1) c x xs (λ n t u v k. omega (arith, join_fewer xs (span c.start n))) (λ g. omega (arith, join_fewer xs x))

-- a cell of the first span stands in the first one joined
pub join_slot : (xs : List Span) (c : Span) (a : ℕ) → a ≤ c.end → slot_of (join_from c xs) a ≡ 5 + (a - c.start)
unfolding join_from slot_of
join_slot [] c a h = rw (le-leb a c.end h)
join_slot (x ∷ xs) c a h =
    ways (λ l. slot_of l a ≡ 5 + (a - c.start)) c x xs (λ n t u v k. join_slot xs (span c.start n) a (omega arith)) (λ g. rw (le-leb a c.end h))

-- ---- of a whole list

pub joined_spaced : (xs : List Span) → Rising 0 xs → Ordered xs → Spaced 0 (joined xs)
joined_spaced [] r o = tt
joined_spaced (x ∷ xs) r o = join_spaced xs x 0 (omega arith) o.0 r.1 o.1

pub joined-has : (xs : List Span) (i : ℕ) → Rising 0 xs → Ordered xs → spanned (joined xs) i ≡ spanned xs i
unfolding spanned
joined-has [] i r o = refl
joined-has (x ∷ xs) i r o = join_has xs x i o.0 r.1 o.1

pub joined-below : (xs : List Span) (n : ℕ) → Below n xs → Below n (joined xs)
joined-below [] n b = tt
joined-below (x ∷ xs) n b = join_below xs x n b.0 b.1

pub joined-inside : (xs : List Span) (a b : ℕ) → Rising 0 xs → Inside xs a b → Inside (joined xs) a b
joined-inside [] a b r h = absurd h
joined-inside (x ∷ xs) a b r h = ⊎_elim (λ y. inside-first xs x a b y.0 y.1) (λ y. inside-other xs x a b r.1 y) h

pub joined_fewer : (xs : List Span) → length (joined xs) ≤ length xs
joined_fewer [] = omega arith
joined_fewer (x ∷ xs) = omega (arith, join_fewer xs x)
