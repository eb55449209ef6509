-- Windows by start and index: with their ends they are the windows' spans, no index is there twice, and what holds of each in any order holds of the
-- windows in theirs. Assumes nothing.
use Prim.Native.Nat.{ℕ, suc, ◌+◌, ◌≤◌, ◌<◌}
use mathlib.Core.Logic.{◌≢◌}
use mathlib.Core.Path.{◌≡◌, refl, sym, ap, ◌∙◌}
use mathlib.Core.List.{List, [], ◌∷◌}
use native.Mathlib.Omega.{arith}
use borrow.Author.Tests.{eq-eqb, ne_eqb, eqb-true, lt-ltb, ltb-true}
use lib.Dec.{eqb, ltb}
use lib.ListN.{length, get_or}
use Rattle.chain.proofs.ByCases.{by_test}
use Rattle.chain.specs.Rules.{pick}
use Rattle.chain.specs.declared.window.Window.{Window as Row}
use Rattle.grammar.specs.Stream.{Window}
use Rattle.tidy.specs.Spans.{Span}
use Rattle.tidy.specs.InOrder.{total, Same}
use Rattle.tidy.specs.Steps.{row, no_row, bounds_of, keys_of, ends_of, key_spans, slot_of, AtPlaces}
use Rattle.tidy.proofs.Totals.{total-two, total_nothing, total-none}

pub keys_length : (ws : List Window) (i : ℕ) → length (keys_of i ws) ≡ length ws
keys_length [] i = refl
keys_length (w ∷ ws) i = ap suc (keys_length ws (suc i))

pub keys_spans : (ends : List ℕ) (ws : List Window) (i : ℕ) → i + length ws ≤ 256 → ((p : ℕ) → p < length ws → get_or ends (i + p) 0 ≡ get_or (ends_of ws) p 0)
    → key_spans ends (keys_of i ws) ≡ bounds_of ws
keys_spans ends [] i h g = refl
keys_spans ends (w ∷ ws) i h g =
    let z : i + 0 ≡ i = omega arith in
    let e : get_or ends i 0 ≡ w.end = rw z at (g 0 (omega arith)) in
    let r = keys_spans ends ws (suc i) (omega (arith, h))
    (λ p l. let y : suc i + p ≡ i + suc p = omega arith in rw y (g (suc p) (omega (arith, l)))) in
    rw (e, r)

-- ---- how often an index is there

abbrev at_index : ℕ → Row → ℕ
at_index j x = pick (eqb x.end j) 1 0

none_before : (ws : List Window) (i j : ℕ) → i + length ws ≤ 256 → j < i → total (at_index j) (keys_of i ws) ≡ 0
none_before [] i j h g = refl
none_before (w ∷ ws) i j h g =
    rw (ne_eqb i j (λ e. omega arith)) (omega (arith, none_before ws (suc i) j (omega (arith, h)) (omega arith)))

once : (ws : List Window) (i j : ℕ) → i + length ws ≤ 256 → total (at_index j) (keys_of i ws) ≤ 1
once [] i j h = omega arith
once (w ∷ ws) i j h =
    by_test (eqb i j)
    (λ e. let z = eqb-true i j e in rw e (omega (arith, none_before ws (suc i) j (omega (arith, h)) (omega arith))))
    (λ e. rw e (omega (arith, once ws (suc i) j (omega (arith, h)))))

module _ (ws : List Window) (ys : List Row) (few : length ws ≤ 255) (same : Same (keys_of 0 ws) ys) where
  pub indexes_apart : (p q : ℕ) → p < q → q < length ys → (get_or ys p no_row).end ≢ (get_or ys q no_row).end
  indexes_apart p q g h e =
      let j : ℕ = (get_or ys q no_row).end in
      let a : at_index j (get_or ys p no_row) ≡ 1 = rw (eq-eqb (get_or ys p no_row).end j e) in
      let b : at_index j (get_or ys q no_row) ≡ 1 = rw (eq-eqb j j refl) in
      omega (arith, a, b, total-two (at_index j) no_row ys p q g h, same (at_index j), once ws 0 j (omega arith))

-- ---- no index is beyond the table of ends

abbrev beyond : Row → ℕ
beyond x = pick (ltb x.end 256) 0 1

none_beyond : (ws : List Window) (i : ℕ) → i + length ws ≤ 256 → total beyond (keys_of i ws) ≡ 0
none_beyond [] i h = refl
none_beyond (w ∷ ws) i h = rw (lt-ltb i 256 (omega (arith, h))) (omega (arith, none_beyond ws (suc i) (omega (arith, h))))

pub indexes_known : (ws : List Window) (ys : List Row) → length ws ≤ 255 → Same (keys_of 0 ws) ys → (p : ℕ) → p < length ys → (get_or ys p no_row).end < 256
indexes_known ws ys few same p h =
    let z : beyond (get_or ys p no_row) ≡ 0 = total_nothing beyond no_row ys p h (sym (same beyond) ∙ none_beyond ws 0 (omega arith)) in
    by_test (ltb (get_or ys p no_row).end 256)
    (λ e. ltb-true (get_or ys p no_row).end 256 e)
    (λ e. let y : 1 ≡ 0 = rw e at z in absurd (omega arith))

-- ---- each at its place

module _ (places : List ℕ) (spans : List Span) where
  abbrev misplaced : Row → ℕ
  misplaced x = pick (eqb (get_or places x.end 0) (slot_of spans x.start)) 0 1

  well_placed : (x : Row) → misplaced x ≡ 0 → get_or places x.end 0 ≡ slot_of spans x.start
  well_placed x h =
      by_test (eqb (get_or places x.end 0) (slot_of spans x.start))
      (λ e. eqb-true (get_or places x.end 0) (slot_of spans x.start) e)
      (λ e. let z : 1 ≡ 0 = rw e at h in absurd (omega arith))

  each_placed : (ws : List Window) (i : ℕ) → i + length ws ≤ 256 → total misplaced (keys_of i ws) ≡ 0 → AtPlaces places spans i ws
  each_placed [] i h g = tt
  each_placed (w ∷ ws) i h g =
      let e : get_or places i 0 ≡ slot_of spans w.start = well_placed (row w.start i) (omega (arith, g)) in
      (e, each_placed ws (suc i) (omega (arith, h)) (omega (arith, g)))

  pub all_placed : (ws : List Window) (ys : List Row) → length ws ≤ 255 → Same (keys_of 0 ws) ys
      → ((p : ℕ) → p < length ys → get_or places (get_or ys p no_row).end 0 ≡ slot_of spans (get_or ys p no_row).start) → AtPlaces places spans 0 ws
  all_placed ws ys few same h =
      each_placed ws 0 (omega arith)
      (same misplaced
      ∙ total-none misplaced no_row ys
      (λ p g. rw (eq-eqb (get_or places (get_or ys p no_row).end 0) (slot_of spans (get_or ys p no_row).start) (h p g))))
