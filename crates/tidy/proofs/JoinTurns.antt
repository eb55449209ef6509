-- A turn of the loop that joins windows to spans where they stand, and puts the place of each where its end stood: over lists and numbers alone.
-- Assumes nothing.
use Prim.Native.Nat.{ℕ, ◌+◌, ◌-◌, ◌≤◌, ◌<◌, max}
use mathlib.Core.Bool.{true, false}
use mathlib.Core.Path.{◌≡◌, refl, sym, ap, ◌∙◌}
use mathlib.Core.List.{List, [], ◌∷◌, ◌++◌, append_assoc}
use native.Mathlib.Decide.{ℕ_discrete}
use native.Mathlib.Omega.{arith}
use native.Mathlib.Numerals.{add-one}
use borrow.Author.Tests.{lt-leb, leb-false, ltb-true, ltb-false}
use lib.Dec.{ltb, leb}
use lib.ListN.{length, take, drop, get_or, set, length-set, drop_of_length-le}
use lib.Seq.{take-suc-set, drop-cons, get_or-set_same, get_or-set_other}
use Rattle.chain.proofs.ByCases.{by_test}
use Rattle.chain.specs.Rules.{pick}
use Rattle.chain.specs.Window.{width_of}
use Rattle.chain.specs.declared.window.Window.{Window as Row}
use Rattle.tidy.specs.Spans.{Span, span}
use Rattle.tidy.specs.Steps.{row, no_row, spans_in, key_span, key_spans, join_from, joined, Rising, Ordered, Below, slot_of, Joinable, Joins}
use Rattle.tidy.proofs.Joining.{rising_less, join_slot}
use Rattle.tidy.proofs.Lengths.{in_append, slot-within}

pub none-joined : (xs : List Row) (ends : List ℕ) → length xs ≡ 0 → Joins xs ends 0 xs ends
none-joined [] ends h = record { upto = omega arith; long = refl; spans = refl; placed = λ p g. absurd (omega (arith, g)) }
none-joined (x ∷ xs) ends h = absurd (omega (arith, h))

pub larger : (a b : ℕ) → max a b ≡ pick (ltb a b) b a
larger a b =
    by_test (ltb a b)
    (λ e. let h = ltb-true a b e in rw e (omega arith))
    (λ e. let h = ltb-false a b e in rw e (omega arith))

later : (a b : ℕ) → (a ≤ pick (ltb a b) b a) × (b ≤ pick (ltb a b) b a)
later a b =
    by_test (ltb a b)
    (λ e. let h = ltb-true a b e in rw e (omega arith, omega arith))
    (λ e. let h = ltb-false a b e in rw e (omega arith, omega arith))

module _ (xs₀ : List Row) (ends₀ : List ℕ) where
  -- all spans; those of the windows from i on; the index of the window at p
  abbrev all : List Span
  all = joined (key_spans ends₀ xs₀)

  abbrev left : ℕ → List Span
  left i = key_spans ends₀ (drop i xs₀)

  abbrev index : ℕ → ℕ
  index p = (get_or xs₀ p no_row).end

  -- k spans are done, the one from start to end may still grow and has its first cell at `at`, the windows from i on are to come: their ends still
  -- stand, those before have their places, all but the first
  pub record Turning (xs : List Row) (ends : List ℕ) (start end at k i : ℕ) : Type 0 where
    pub behind : k < i
    pub upto : i ≤ length xs₀
    pub long : length xs ≡ length xs₀
    pub many : length ends ≡ 256
    pub order : start ≤ end
    pub rising : Rising start (left i)
    pub ordered : Ordered (left i)
    pub below : Below 65536 (left i)
    pub keys : (p : ℕ) → i ≤ p → get_or xs p no_row ≡ get_or xs₀ p no_row
    pub kept : (p : ℕ) → i ≤ p → p < length xs₀ → get_or ends (index p) 0 ≡ get_or ends₀ (index p) 0
    pub placed : (p : ℕ) → 0 < p → p < i → get_or ends (index p) 0 ≡ slot_of all (get_or xs₀ p no_row).start
    pub rest : all ≡ spans_in (take k xs) ++ join_from (span start end) (left i)
    pub ahead : (a : ℕ) → start ≤ a → slot_of all a + 5 ≡ at + slot_of (join_from (span start end) (left i)) a

  more : (i : ℕ) → i < length xs₀ → left i ≡ key_span ends₀ (get_or xs₀ i no_row) ∷ left (i + 1)
  more i h = rw (drop-cons xs₀ i no_row h, add-one i)

  module _ (q : Joinable xs₀ ends₀) where
    -- ---- the first window

    module _ (h : 0 < length xs₀) where
      abbrev x₀ : Row
      x₀ = get_or xs₀ 0 no_row

      all_is : all ≡ join_from (key_span ends₀ x₀) (left 1)
      all_is = ap joined (more 0 h)

      first_ordered : Ordered (key_span ends₀ x₀ ∷ left 1)
      first_ordered = rw (more 0 h) at q.ordered

      first_place : 5 ≡ slot_of all x₀.start
      first_place = rw all_is (omega (arith, join_slot (left 1) (key_span ends₀ x₀) x₀.start first_ordered.0))

      pub turning_none : Turning xs₀ ends₀ x₀.start (get_or ends₀ x₀.end 0) 5 0 1
      turning_none =
          let r : Rising 0 (key_span ends₀ x₀ ∷ left 1) = rw (more 0 h) at q.rising in
          let b : Below 65536 (key_span ends₀ x₀ ∷ left 1) = rw (more 0 h) at q.below in
          record {
            behind = omega arith;
            upto = omega arith;
            long = refl;
            many = q.table;
            order = first_ordered.0;
            rising = r.1;
            ordered = first_ordered.1;
            below = b.1;
            keys = λ p g. refl;
            kept = λ p g l. refl;
            placed = λ p g l. absurd (omega arith);
            rest = all_is;
            ahead = λ a g. rw all_is (omega arith);
          }

    -- ---- the next one

    module _ (xs : List Row) (ends : List ℕ) (start end at k i : ℕ) (t : Turning xs ends start end at k i) where
      -- the place of a span is a number of two bytes
      pub turning_at : at ≤ 65535
      turning_at = omega (arith, t.ahead start (omega arith), join_slot (left i) (span start end) start t.order, slot-within all start, q.short)

      module _ (h : i < length xs₀) (x : Row) (e : ℕ) (x-read : x ≡ get_or xs i no_row) (e-read : e ≡ get_or ends x.end 0) where
        abbrev b : ℕ
        b = x.start

        x_is : x ≡ get_or xs₀ i no_row
        x_is = x-read ∙ t.keys i (omega arith)

        index_is : x.end < 256
        index_is = rw x_is (q.known i h)

        e_is : e ≡ get_or ends₀ x.end 0
        e_is = e-read ∙ rw x_is (t.kept i (omega arith) h)

        head : left i ≡ span b e ∷ left (i + 1)
        head = more i h ∙ rw (← x_is, e_is)

        risen : (start ≤ b) × Rising b (left (i + 1))
        risen = rw head at t.rising

        in_order : (b ≤ e) × Ordered (left (i + 1))
        in_order = rw head at t.ordered

        under : (e < 65536) × Below 65536 (left (i + 1))
        under = rw head at t.below

        pub next_start : b < 65536
        next_start = omega (arith, in_order.0, under.0)

        pub next-from : start ≤ b
        next-from = risen.0

        -- a number over the end of this window leaves the others
        kept_more : (v p : ℕ) → i + 1 ≤ p → p < length xs₀ → get_or (set ends x.end v) (index p) 0 ≡ get_or ends₀ (index p) 0
        kept_more v p g l =
            get_or-set_other ends x.end (index p) v 0 (λ z. q.apart i p (omega arith) l (sym (z ∙ ap (λ (y : Row). y.end) x_is)))
            ∙ t.kept p (omega arith) l

        placed_by : (v p : ℕ) → v ≡ slot_of all b → 0 < p → p < i + 1 → Dec (p ≡ i)
            → get_or (set ends x.end v) (index p) 0 ≡ slot_of all (get_or xs₀ p no_row).start
        placed_by v p d f g (yes z) =
            rw z
            (ap (λ (y : Row). get_or (set ends x.end v) y.end 0) (sym x_is)
            ∙ get_or-set_same ends x.end v 0 (omega (arith, index_is, t.many))
            ∙ d
            ∙ ap (λ (y : Row). slot_of all y.start) x_is)
        placed_by v p d f g (no z) =
            get_or-set_other ends x.end (index p) v 0 (λ y. q.apart p i (omega arith) h (y ∙ ap (λ (w : Row). w.end) x_is))
            ∙ t.placed p f (omega arith)

        placed-more : (v p : ℕ) → v ≡ slot_of all b → 0 < p → p < i + 1 → get_or (set ends x.end v) (index p) 0 ≡ slot_of all (get_or xs₀ p no_row).start
        placed-more v p d f g = placed_by v p d f g (ℕ_discrete p i)

        module _ (y : leb b (end + 1) ≡ true) (n : ℕ) (n-is : n ≡ pick (ltb end e) e end) where
          grown : join_from (span start end) (left i) ≡ join_from (span start n) (left (i + 1))
          unfolding join_from
          grown = rw (head, y, n-is)

          place : at + (b - start) ≡ slot_of all b
          place =
              let s : slot_of all b + 5 ≡ at + slot_of (join_from (span start n) (left (i + 1))) b = rw grown at (t.ahead b next-from) in
              let m = join_slot (left (i + 1)) (span start n) b (rw n-is (omega (arith, in_order.0, (later end e).1))) in
              omega arith

          pub touch_place : at + (b - start) < 65536
          touch_place = omega (arith, place, slot-within all b, q.short)

          pub turning_touch : Turning xs (set ends x.end (at + (b - start))) start n at k (i + 1)
          turning_touch =
              record {
                behind = omega (arith, t.behind);
                upto = omega arith;
                long = t.long;
                many = length-set ends x.end (at + (b - start)) ∙ t.many;
                order = rw n-is (omega (arith, t.order, (later end e).0));
                rising = rising_less b start (left (i + 1)) next-from risen.1;
                ordered = in_order.1;
                below = under.1;
                keys = λ p g. t.keys p (omega arith);
                kept = kept_more (at + (b - start));
                placed = λ p f g. placed-more (at + (b - start)) p place f g;
                rest = t.rest ∙ ap (λ (l : List Span). spans_in (take k xs) ++ l) grown;
                ahead = λ a g. t.ahead a g ∙ ap (λ (l : List Span). at + slot_of l a) grown;
              }

        module _ (y : leb b (end + 1) ≡ false) (n : ℕ) (n-is : n ≡ width_of start end) where
          parted : join_from (span start end) (left i) ≡ span start end ∷ join_from (span b e) (left (i + 1))
          unfolding join_from
          parted = rw (head, y)

          next-ahead : (a : ℕ) → b ≤ a → slot_of all a + 5 ≡ at + (5 + n) + slot_of (join_from (span b e) (left (i + 1))) a
          unfolding slot_of
          next-ahead a g =
              let w = leb-false b (end + 1) y in
              t.ahead a (omega (arith, next-from))
              ∙ rw (parted, lt-leb a end (omega arith), n-is) (omega arith)

          place_next : at + (5 + n) ≡ slot_of all b
          place_next =
              let s = next-ahead b (omega arith) in
              let m = join_slot (left (i + 1)) (span b e) b in_order.0 in
              omega arith

          pub apart_place : at + (5 + n) < 65536
          apart_place = omega (arith, place_next, slot-within all b, q.short)

          pub turning_apart : Turning (set xs k (row start end)) (set ends x.end (at + (5 + n))) b e (at + (5 + n)) (k + 1) (i + 1)
          turning_apart =
              record {
                behind = omega (arith, t.behind);
                upto = omega arith;
                long = length-set xs k (row start end) ∙ t.long;
                many = length-set ends x.end (at + (5 + n)) ∙ t.many;
                order = in_order.0;
                rising = risen.1;
                ordered = in_order.1;
                below = under.1;
                keys = λ p g. get_or-set_other xs k p (row start end) no_row (λ z. omega (arith, t.behind)) ∙ t.keys p (omega arith);
                kept = kept_more (at + (5 + n));
                placed = λ p f g. placed-more (at + (5 + n)) p place_next f g;
                rest = t.rest
                    ∙ rw (parted, add-one k, take-suc-set xs k (row start end) (omega (arith, t.behind, t.long)), in_append (take k xs) (row start end ∷ []))
                    (sym (append_assoc (spans_in (take k xs)) (span start end ∷ []) _));
                ahead = next-ahead;
              }

      -- the first one's place comes last
      some : 0 < length xs₀
      some = omega (arith, t.behind, t.upto)

      last_placed : (p : ℕ) → length xs₀ ≤ i → p < length xs₀ → Dec (p ≡ 0) → get_or (set ends (index 0) 5) (index p) 0 ≡ slot_of all (get_or xs₀ p no_row).start
      last_placed p h g (yes z) = rw (z, get_or-set_same ends (index 0) 5 0 (omega (arith, q.known 0 some, t.many))) (first_place some)
      last_placed p h g (no z) =
          get_or-set_other ends (index 0) (index p) 5 0 (λ y. q.apart 0 p (omega arith) g (sym y)) ∙ t.placed p (omega arith) (omega arith)

      pub turning_all : length xs₀ ≤ i → Joins xs₀ ends₀ (k + 1) (set xs k (row start end)) (set ends (index 0) 5)
      unfolding join_from
      turning_all h =
          record {
            upto = omega (arith, t.behind, t.upto);
            long = length-set xs k (row start end) ∙ t.long;
            spans =
                rw (add-one k, take-suc-set xs k (row start end) (omega (arith, t.behind, t.upto, t.long)), in_append (take k xs) (row start end ∷ []))
                (sym (t.rest ∙ rw (drop_of_length-le xs₀ {i = i} h)));
            placed = λ p g. last_placed p h g (ℕ_discrete p 0);
          }
