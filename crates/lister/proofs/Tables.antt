-- The three tables, one window more filled in. Assumes nothing.
use Prim.Native.Nat.{ℕ, ◌+◌, ◌-◌, ◌*◌, ◌≤◌, ◌<◌, ◌^◌}
use mathlib.Core.Path.{◌≡◌, refl, sym, ap, ◌∙◌}
use mathlib.Core.List.{List, [], ◌∷◌, ◌++◌, map}
use native.Mathlib.Omega.{arith}
use native.Mathlib.Numerals.{add-one}
use lib.ListN.{length, set, drop, length-set, length-map}
use lib.Seq.{sets}
use borrow.Author.Tests.{eq-eqb, ne_eqb, eqb-true, eqb-false}
use lib.Dec.{eqb}
use Rattle.cells.proofs.Over.{sets-front}
use Rattle.chain.proofs.ByCases.{by_test}
use Rattle.chain.proofs.PassedUp.{not_done}
use Rattle.chain.specs.Paper.{done}
use Rattle.chain.specs.Kinds.{size_of}
use Rattle.reader.specs.declared.stop.Stopped.{Stopped}
use Rattle.reader.specs.declared.window.WholeWindow.{WholeWindow}
use Rattle.reader.specs.declared.whole.Windows.{Windows}
use Rattle.lister.specs.declared.Listed.{Listed}
use Rattle.std.specs.Prelude.{Err}
use Rattle.reader.specs.Stops.{Stop, stop, stop_of, if_done}
use Rattle.reader.specs.Windows.{ReadWindow, windows_of, whole_of}
use Rattle.reader.specs.Walk.{Next, windows_left}
use Rattle.reader.specs.Stream.{preamble_at, count_at}
use Rattle.lister.specs.Listing.{list_stop, listed_of, listing_of, starts_of, ends_of, offsets_of, listed, listing, refused_as, Lists}
use Rattle.reader.proofs.Windows.{windows-length}
use Rattle.reader.proofs.Walking.{left_none, left_more, next_near, next_past}
use Rattle.lister.proofs.Listings.{list_done, list-below}

-- what is left to write from i on gives the whole table
one_more_lem : (f : ReadWindow → ℕ) (whole now : List ℕ) (i : ℕ) (w : ReadWindow) (ws rest : List ReadWindow) → ws ≡ w ∷ rest
    → whole ≡ sets now i (map f ws) → whole ≡ sets (set now i (f w)) (i + 1) (map f rest)
one_more_lem f whole now i w ws rest e h = h ∙ rw (e, add-one i)

module _ (all : Windows) (p : ℕ) (starts₀ ends₀ offsets₀ : List ℕ) where
  -- i windows are in the tables, and ws are left
  pub record Filling (starts ends offsets : List ℕ) (ws : Windows) (i : ℕ) : Type 0 where
    pub same_size : ws.size ≡ all.size
    pub count : ws.left + i ≡ all.left
    pub past_head : p + 6 ≤ ws.at
    pub near : ws.at ≤ p + 6 + 65540 * i
    pub starts_long : length starts ≡ length starts₀
    pub ends_long : length ends ≡ length ends₀
    pub offsets_long : length offsets ≡ length offsets₀
    pub starts-rest : sets starts₀ 0 (starts_of (windows_left all)) ≡ sets starts i (starts_of (windows_left ws))
    pub ends-rest : sets ends₀ 0 (ends_of (windows_left all)) ≡ sets ends i (ends_of (windows_left ws))
    pub offsets-rest : sets offsets₀ 0 (offsets_of p (windows_left all)) ≡ sets offsets i (offsets_of p (windows_left ws))

  pub filling_none : all.at ≡ p + 6 → Filling starts₀ ends₀ offsets₀ all 0
  filling_none h =
      record {
        same_size = refl;
        count = omega arith;
        past_head = omega arith;
        near = omega arith;
        starts_long = refl;
        ends_long = refl;
        offsets_long = refl;
        starts-rest = refl;
        ends-rest = refl;
        offsets-rest = refl;
      }

  module _ (starts ends offsets : List ℕ) (ws : Windows) (i : ℕ) (f : Filling starts ends offsets ws i) where
    pub filling_more : ws.size ≤ 65535 → (w : WholeWindow) (rest : Windows) → Next ws w rest
        → Filling (set starts i w.bounds.start) (set ends i w.bounds.end) (set offsets i (w.first - p)) rest (i + 1)
    filling_more l w rest x =
        let g = left_more ws w rest x in
        let k = next_near ws w rest x l in
        record {
          same_size = x.same_size ∙ f.same_size;
          count = omega (arith, x.one_less);
          past_head = omega (arith, next_past ws w rest x);
          near = omega arith;
          starts_long = length-set starts i w.bounds.start ∙ f.starts_long;
          ends_long = length-set ends i w.bounds.end ∙ f.ends_long;
          offsets_long = length-set offsets i (w.first - p) ∙ f.offsets_long;
          starts-rest = one_more_lem (λ (v : ReadWindow). v.start) _ starts i (whole_of w) _ _ g f.starts-rest;
          ends-rest = one_more_lem (λ (v : ReadWindow). v.end) _ ends i (whole_of w) _ _ g f.ends-rest;
          offsets-rest = one_more_lem (λ (v : ReadWindow). v.first - p) _ offsets i (whole_of w) _ _ g f.offsets-rest;
        }

    pub filling_all : ws.left ≡ 0 → (starts ≡ sets starts₀ 0 (starts_of (windows_left all)))
        × (ends ≡ sets ends₀ 0 (ends_of (windows_left all))) × (offsets ≡ sets offsets₀ 0 (offsets_of p (windows_left all)))
    filling_all h =
        let e = left_none ws h in
        (sym (f.starts-rest ∙ rw e), sym (f.ends-rest ∙ rw e), sym (f.offsets-rest ∙ rw e))

-- ---- the call: nothing filled in, or all of it

module _ (size : ℕ) (s : List ℕ) (p : ℕ) (e : Stop) where
  listing_none : (e.number ≡ done → ⊥) → listing_of size s p e ≡ []
  unfolding listing_of
  listing_none h = rw (ne_eqb e.number done h)

  pub listing-all : e.number ≡ done → listing_of size s p e ≡ windows_of size s (count_at s p) (p + 6)
  unfolding listing_of
  listing-all h = rw (eq-eqb e.number done h)

module _ (kind mode : ℕ) (s starts ends offsets : List ℕ) (size : ℕ) (sz : size ≡ size_of kind) where
  -- where the reading stops
  abbrev stops : Stop → Type 0
  stops e = e ≡ list_stop size mode s (length starts) (length ends) (length offsets)

  pub lists_none : (e : Stopped) → stops (stop_of (Err e)) → Lists kind mode s starts ends offsets (refused_as e) starts ends offsets
  unfolding listed_of listing_of
  lists_none e ls =
      record {
        answer = simp (← sz, ← ls, not_done);
        starts_left = simp (← sz, ← ls, not_done);
        ends_left = simp (← sz, ← ls, not_done);
        offsets_left = simp (← sz, ← ls, not_done);
      }

  pub refused_small : (e : Stop) → size ≤ 65535 → stops e → e.taken < 2 ^ 32
  refused_small e l ls = rw ls (list-below size mode s (length starts) (length ends) (length offsets) l)

  module _ (p taken : ℕ) (pa : p ≡ preamble_at mode) where
    pub lists_all : stops (stop done taken)
        → Lists kind mode s starts ends offsets (listed_of s p (stop done taken)) (sets starts 0 (starts_of (windows_of size s (count_at s p) (p + 6))))
        (sets ends 0 (ends_of (windows_of size s (count_at s p) (p + 6)))) (sets offsets 0 (offsets_of p (windows_of size s (count_at s p) (p + 6))))
    unfolding listing_of
    lists_all ls =
        record {
          answer = rw (← sz, ← pa, ← ls);
          starts_left = rw (← sz, ← pa, ← ls);
          ends_left = rw (← sz, ← pa, ← ls);
          offsets_left = rw (← sz, ← pa, ← ls);
        }

-- ---- what the promise says of the tables: the windows listed, as many as are answered, and the rest as lent

pub record Left (listing : List ReadWindow) (n p : ℕ) (starts ends offsets starts' ends' offsets' : List ℕ) : Type 0 where
  pub count : length listing ≡ n
  pub starts_are : starts' ≡ starts_of listing ++ drop n starts
  pub ends_are : ends' ≡ ends_of listing ++ drop n ends
  pub offsets_are : offsets' ≡ offsets_of p listing ++ drop n offsets

module _ (kind mode : ℕ) (s starts ends offsets : List ℕ) where
  listing_fits : (length (listing kind mode s starts ends offsets) ≡ if_done (listed kind mode s starts ends offsets) (count_at s (preamble_at mode)))
      × (length (listing kind mode s starts ends offsets) ≤ length starts) × (length (listing kind mode s starts ends offsets) ≤ length ends)
      × (length (listing kind mode s starts ends offsets) ≤ length offsets)
  listing_fits =
      let e : Stop = listed kind mode s starts ends offsets in
      by_test (eqb e.number done)
      (λ y. let z : e.number ≡ done = eqb-true e.number done y in
      let d = list_done (size_of kind) mode s (length starts) (length ends) (length offsets) z in
      let f : length (listing kind mode s starts ends offsets) ≡ count_at s (preamble_at mode) =
      ap length (listing-all (size_of kind) s (preamble_at mode) e z) ∙ windows-length (size_of kind) s (count_at s (preamble_at mode)) (preamble_at mode + 6) d.read.windows in
      rw (y, f) (refl, d.starts_fit, d.ends_fit, d.offsets_fit))
      (λ y. let f = listing_none (size_of kind) s (preamble_at mode) e (eqb-false e.number done y) in
      rw (y, f) (refl, omega arith, omega arith, omega arith))

  pub lists_leave : (r : Listed) (starts' ends' offsets' : List ℕ) → Lists kind mode s starts ends offsets r starts' ends' offsets'
      → Left (listing kind mode s starts ends offsets) r.windows (preamble_at mode) starts ends offsets starts' ends' offsets'
  unfolding listed_of
  lists_leave r starts' ends' offsets' l =
      let f = listing_fits in
      let n : length (listing kind mode s starts ends offsets) ≡ r.windows = f.0 ∙ sym (ap (λ (x : Listed). x.windows) l.answer) in
      record {
        count = n;
        starts_are = l.starts_left ∙ front (λ (w : ReadWindow). w.start) starts f.1 ∙ rw n;
        ends_are = l.ends_left ∙ front (λ (w : ReadWindow). w.end) ends f.2 ∙ rw n;
        offsets_are = l.offsets_left ∙ front (λ (w : ReadWindow). w.first - preamble_at mode) offsets f.3 ∙ rw n;
      }
    where
      front : (g : ReadWindow → ℕ) (old : List ℕ) → length (listing kind mode s starts ends offsets) ≤ length old
          → sets old 0 (map g (listing kind mode s starts ends offsets))
          ≡ map g (listing kind mode s starts ends offsets) ++ drop (length (listing kind mode s starts ends offsets)) old
      front g old h =
          let e : length (map g (listing kind mode s starts ends offsets)) ≡ length (listing kind mode s starts ends offsets) = length-map (listing kind mode s starts ends offsets) g in
          sets-front (map g (listing kind mode s starts ends offsets)) old (omega arith) ∙ rw e
