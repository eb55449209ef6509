-- Turns of the two loops: windows kept one after another with their reaches noted, and null bytes put out. Assumes nothing.
use Prim.Native.Nat.{ℕ, zero, suc, ◌+◌, ◌-◌, ◌*◌, ◌≤◌, ◌<◌}
use mathlib.Core.Path.{◌≡◌, refl, sym, ap, ◌∙◌}
use mathlib.Core.List.{List, [], ◌∷◌, ◌++◌, append_assoc, append-nil}
use native.Mathlib.Omega.{arith}
use borrow.Author.Tests.{eq-eqb, ne_eqb}
use lib.ListN.{length, get_or, set, drop, length-append, length-set, drop_of_length-le}
use lib.Seq.{drop-cons}
use Rattle.chain.specs.Paper.{done}
use Rattle.grammar.specs.Tables.{null_byte}
use Rattle.reader.specs.Windows.{ReadWindow, next_at, window_stop, read_window_of, windows_of}
use Rattle.reader.specs.Stream.{head_length}
use Rattle.reader.proofs.Windows.{is_whole, number_is, windows-more, windows-none, windows-list-none}
use Rattle.salvage.specs.Steps.{Kept, kept_of, reaches_of, end_of, nulls_out}

-- ---- kept

abbrev kept : ℕ → ℕ → ℕ → Kept
kept n k at = record { number = n; windows = k; offset = at }

-- with k windows before them
abbrev ahead : ℕ → Kept → Kept
ahead k r = kept r.number (k + r.windows) r.offset

module _ (size : ℕ) (s : List ℕ) where
  kept-none : (n at : ℕ) → n ≤ 0 → kept_of size s n at ≡ kept done 0 at
  kept-none n at h = rw (windows-none size s n at h, windows-list-none size s n at h)

  list_stop_lem : (n at : ℕ) → 0 < n → ((read_window_of size s at).number ≡ done → ⊥) → windows_of size s n at ≡ []
  unfolding windows_of
  list_stop_lem zero at h z = absurd (omega (arith, h))
  list_stop_lem (suc n) at h z = rw (number_is size s at, ne_eqb (read_window_of size s at).number done z)

  kept-stop : (n at : ℕ) → 0 < n → ((read_window_of size s at).number ≡ done → ⊥) → kept_of size s n at ≡ kept (read_window_of size s at).number 0 at
  kept-stop n at h z = rw (windows-more size s n at h, ne_eqb (read_window_of size s at).number done z, list_stop_lem n at h z)

  list-more : (n at : ℕ) → 0 < n → (read_window_of size s at).number ≡ done
      → windows_of size s n at ≡ read_window_of size s at ∷ windows_of size s (n - 1) (read_window_of size s at).next
  unfolding windows_of
  list-more zero at h z = absurd (omega (arith, h))
  list-more (suc n) at h z =
      let o : suc n - 1 ≡ n = omega arith in
      let d : (window_stop size s at).number ≡ done = number_is size s at ∙ z in
      let x : (read_window_of size s at).next ≡ next_at s at = ap (λ (r : ReadWindow). r.next) (is_whole size s at d).reads in
      rw (eq-eqb (window_stop size s at).number done d, o, x)

  kept_more : (n at : ℕ) → 0 < n → (read_window_of size s at).number ≡ done → kept_of size s n at ≡ ahead 1 (kept_of size s (n - 1) (read_window_of size s at).next)
  kept_more n at h z =
      let y : 1 + length (windows_of size s (n - 1) (read_window_of size s at).next) ≡ suc (length (windows_of size s (n - 1) (read_window_of size s at).next)) = omega arith in
      rw (windows-more size s n at h, eq-eqb (read_window_of size s at).number done z, list-more n at h z, y)

module _ (size : ℕ) (s : List ℕ) (n : ℕ) where
  -- k windows are kept, whose reaches are noted, and the next is awaited at a position
  pub record Keeping (noted : List ℕ) (at k : ℕ) : Type 0 where
    pub inside : k ≤ n
    pub long : length noted ≡ k
    pub rest : kept_of size s n head_length ≡ ahead k (kept_of size s (n - k) at)
    pub reaches : reaches_of (windows_of size s n head_length) ≡ noted ++ reaches_of (windows_of size s (n - k) at)

  pub keeping_none : Keeping [] head_length 0
  keeping_none =
      let e : n - 0 ≡ n = omega arith in
      let z : 0 + length (windows_of size s n head_length) ≡ length (windows_of size s n head_length) = omega arith in
      record { inside = omega arith; long = refl; rest = rw (e, z); reaches = rw e }

  -- both at a return
  abbrev Kept_all : Kept → List ℕ → Type 0
  Kept_all r noted = (r ≡ kept_of size s n head_length) × (noted ≡ reaches_of (windows_of size s n head_length))

  module _ (noted : List ℕ) (at k : ℕ) (f : Keeping noted at k) (r : ReadWindow) (e : r ≡ read_window_of size s at) (h : k < n) where
    pub keeping-stop : (r.number ≡ done → ⊥) → Kept_all (kept r.number (length noted) at) noted
    keeping-stop z =
        let o : k + 0 ≡ length noted = omega (arith, f.long) in
        let w : windows_of size s (n - k) at ≡ [] = list_stop_lem size s (n - k) at (omega arith) (rw e at z) in
        (sym (f.rest ∙ ap (ahead k) (kept-stop size s (n - k) at (omega arith) (rw e at z)) ∙ rw (o, e)), sym (f.reaches ∙ rw (w, append-nil)))

    module _ (z : r.number ≡ done) where
      pub in_order : r.start ≤ r.end
      in_order =
          let w = is_whole size s at (number_is size s at ∙ rw e at z) in
          rw (e, w.reads) w.in_order

      pub keeping-more : Keeping (noted ++ (r.end - r.start) ∷ []) r.next (k + 1)
      keeping-more =
          let o : n - k - 1 ≡ n - (k + 1) = omega arith in
          let g : kept_of size s (n - k) at ≡ ahead 1 (kept_of size s (n - (k + 1)) r.next) = kept_more size s (n - k) at (omega arith) (rw e at z) ∙ rw (o, e) in
          let w : windows_of size s (n - k) at ≡ r ∷ windows_of size s (n - (k + 1)) r.next = list-more size s (n - k) at (omega arith) (rw e at z) ∙ rw (o, e) in
          let x = (kept_of size s (n - (k + 1)) r.next).windows in
          let y : k + (1 + x) ≡ k + 1 + x = omega arith in
          record {
            inside = omega arith;
            long = omega (arith, f.long, length-append noted ((r.end - r.start) ∷ []));
            rest = f.rest ∙ ap (ahead k) g ∙ ap (λ (i : ℕ). kept (kept_of size s (n - (k + 1)) r.next).number i (kept_of size s (n - (k + 1)) r.next).offset) y;
            reaches = f.reaches ∙ rw w (sym (append_assoc noted ((r.end - r.start) ∷ []) (reaches_of (windows_of size s (n - (k + 1)) r.next))));
          }

  pub keeping_all : (noted : List ℕ) (at k : ℕ) → Keeping noted at k → n ≤ k → Kept_all (kept done (length noted) at) noted
  keeping_all noted at k f h =
      let o : k + 0 ≡ length noted = omega (arith, f.long) in
      let w : windows_of size s (n - k) at ≡ [] = windows-list-none size s (n - k) at (omega arith) in
      (sym (f.rest ∙ ap (ahead k) (kept-none size s (n - k) at (omega arith)) ∙ rw o), sym (f.reaches ∙ rw (w, append-nil)))

-- ---- null bytes put out

ends_on : (at : ℕ) (ds : List ℕ) → at ≤ end_of at ds
ends_on at [] = omega arith
ends_on at (d ∷ ds) = let h = ends_on (at + (6 + d)) ds in omega arith

module _ (reaches out₀ : List ℕ) where
  pub record Putting (out : List ℕ) (at i : ℕ) : Type 0 where
    pub upto : i ≤ length reaches
    pub long : length out ≡ length out₀
    pub near : at ≤ 6 + 65541 * i
    pub room : end_of at (drop i reaches) ≤ length out
    pub rest : nulls_out head_length reaches out₀ ≡ nulls_out at (drop i reaches) out

  pub putting_none : end_of head_length reaches ≤ length out₀ → Putting out₀ head_length 0
  putting_none h = record { upto = omega arith; long = refl; near = omega arith; room = h; rest = refl }

  module _ (out : List ℕ) (at i : ℕ) (f : Putting out at i) (h : i < length reaches) where
    next : drop i reaches ≡ get_or reaches i 0 ∷ drop (i + 1) reaches
    next =
        let e : i + 1 ≡ suc i = omega arith in
        rw e (drop-cons reaches i 0 h)

    room_on : at + (6 + get_or reaches i 0) ≤ length out
    room_on =
        let l = ends_on (at + (6 + get_or reaches i 0)) (drop (i + 1) reaches) in
        omega (arith, f.room, ap (end_of at) next)

    pub null_there : at < length out
    null_there = omega (arith, room_on)

    pub step_fits : get_or reaches i 0 < 65536 → length reaches ≤ 255 → at + (6 + get_or reaches i 0) ≤ 16712961
    step_fits d few = omega (arith, f.near)

    pub putting_more : get_or reaches i 0 < 65536 → Putting (set out at null_byte) (at + (6 + get_or reaches i 0)) (i + 1)
    putting_more d =
        let k : length (set out at null_byte) ≡ length out = length-set out at null_byte in
        record {
          upto = omega arith;
          long = k ∙ f.long;
          near = omega (arith, f.near);
          room = omega (arith, f.room, ap (end_of at) next);
          rest = f.rest ∙ ap (λ (ds : List ℕ). nulls_out at ds out) next;
        }

  pub putting_all : (out : List ℕ) (at i : ℕ) → Putting out at i → length reaches ≤ i → out ≡ nulls_out head_length reaches out₀
  putting_all out at i f h = sym (f.rest ∙ ap (λ (ds : List ℕ). nulls_out at ds out) (drop_of_length-le reaches {i = i} h))
