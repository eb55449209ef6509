-- What a window's number tells, how far it reaches, and one window more. Assumes nothing.
use Prim.Native.Nat.{ℕ, zero, suc, ◌+◌, ◌-◌, ◌*◌, ◌≤◌, ◌<◌}
use mathlib.Core.Bool.{Bool, true, false, ◌&&◌, ◌||◌, and-false, true≢false}
use mathlib.Core.Path.{◌≡◌, refl, sym, ap, ◌∙◌}
use mathlib.Core.List.{List, [], ◌∷◌}
use native.Mathlib.Omega.{arith}
use borrow.Author.Tests.{lt-ltb, le-ltb, le-leb, lt-leb, ltb-true, ltb-false, leb-true, leb-false, eqb-true, eqb-false}
use lib.Dec.{eqb, ltb, leb}
use lib.ListN.{length}
use Rattle.std.specs.Prelude.{Err}
use Rattle.chain.proofs.ByCases.{by_test}
use Rattle.chain.proofs.PassedUp.{not_done}
use Rattle.chain.proofs.Means.{Means, says, reads}
use Rattle.chain.specs.Paper.{done, bad_start, bad_end, more}
use Rattle.chain.specs.Rules.{pick}
use Rattle.chain.specs.Window.{start_outside, end_outside, window_number}
use Rattle.chain.specs.declared.refusal.Refusal.{Refusal}
use Rattle.chain.specs.Refusal.{number_of}
use Rattle.reader.specs.declared.stop.Stopped.{Stopped}
use Rattle.reader.specs.declared.window.WholeWindow.{WholeWindow}
use Rattle.reader.specs.Stops.{Stop, stop, stop_of}
use Rattle.reader.specs.Windows.{ReadWindow, start_at, end_at, next_at, window_stop, read_window_of, windows_stop, windows_of, whole_of, read_of}

-- ---- the ways in which one window is read

-- a reading that stops with a number is no window
abbrev pub stopped : ℕ → ℕ → ReadWindow
stopped n t = record { number = n; start = 0; end = 0; first = 0; next = t }

module _ (size : ℕ) (s : List ℕ) (at : ℕ) where
  -- used up before the start's second byte
  pub no_start : length s < at + 3 → stopped more (length s) ≡ read_window_of size s at
  unfolding window_stop read_window_of
  no_start h =
      rw (lt-leb (at + 3) (length s) h, lt-leb (at + 5) (length s) (omega arith), lt-ltb (length s) (next_at s at) (omega arith))

  pub start_bad : at + 3 ≤ length s → size ≤ start_at s at → stopped bad_start (at + 3) ≡ read_window_of size s at
  unfolding window_stop read_window_of
  start_bad h b = rw (le-leb (at + 3) (length s) h, le-ltb (start_at s at) size b)

  module _ (a : start_at s at < size) where
    -- or before the end's
    pub no_end : length s < at + 5 → stopped more (length s) ≡ read_window_of size s at
    unfolding window_stop read_window_of
    no_end h =
        simp (lt-ltb (start_at s at) size a, and-false, lt-leb (at + 5) (length s) h, lt-ltb (length s) (next_at s at) (omega arith))

    pub end_bad : at + 5 ≤ length s → end_outside size (start_at s at) (end_at s at) ≡ true → stopped bad_end (at + 5) ≡ read_window_of size s at
    unfolding window_stop read_window_of
    end_bad h b = simp (lt-ltb (start_at s at) size a, and-false, le-leb (at + 5) (length s) h, b)

    -- or within the data
    pub no_data : end_outside size (start_at s at) (end_at s at) ≡ false → length s < next_at s at → stopped more (length s) ≡ read_window_of size s at
    unfolding window_stop read_window_of
    no_data b h = simp (lt-ltb (start_at s at) size a, and-false, b, lt-ltb (length s) (next_at s at) h)

    pub found_whole : end_outside size (start_at s at) (end_at s at) ≡ false → next_at s at ≤ length s → window_stop size s at ≡ stop done (next_at s at)
    unfolding window_stop
    found_whole b h = simp (lt-ltb (start_at s at) size a, and-false, b, le-ltb (length s) (next_at s at) h)

  pub whole : start_at s at < size → start_at s at ≤ end_at s at → end_at s at < size → next_at s at ≤ length s → window_stop size s at ≡ stop done (next_at s at)
  whole a b e h = found_whole a (rw (le-ltb (end_at s at) (start_at s at) b, lt-ltb (end_at s at) size e)) h

  pub read_whole : window_stop size s at ≡ stop done (next_at s at)
      → read_window_of size s at ≡ record { number = done; start = start_at s at; end = end_at s at; first = at + 5; next = next_at s at }
  unfolding read_window_of
  read_whole e = rw e

-- ---- a window tested, whose start is inside: its end refuses it, or nothing does

module _ (size start end : ℕ) where
  pub tested_bad : (e : Refusal) → start < size → number_of e ≡ window_number size start end → (number_of e ≡ bad_end) × (end_outside size start end ≡ true)
  tested_bad e a h =
      by_test (end_outside size start end)
      (λ y. (h ∙ rw (lt-ltb start size a, y), y))
      (λ y. let z : number_of e ≡ done = h ∙ rw (lt-ltb start size a, y) in absurd (eqb-false (number_of e) done (not_done e) z))

  pub tested_good : start < size → done ≡ window_number size start end → end_outside size start end ≡ false
  tested_good a h =
      by_test (end_outside size start end)
      (λ y. let z : done ≡ bad_end = h ∙ rw (lt-ltb start size a, y) in absurd (omega (arith, z)))
      (λ y. y)

-- ---- by cases

m_excludes : {a b : Bool} {P Q : Type 0} → Means a true P → Means b false Q → Means (a && b) false (P → Q)
m_excludes {a = true} p q = record { says = λ e x. q.says e; said = λ h. q.said (h (p.says refl)) }
m_excludes {a = false} p q = record { says = λ e x. absurd (true≢false (sym (p.said x))); said = λ h. refl }

m-or_else : {a b : Bool} {P Q : Type 0} → Means a false P → Means b true Q → Means (a || b) true (P → Q)
m-or_else {a = true} p q = record { says = λ e x. absurd (true≢false (p.said x)); said = λ h. refl }
m-or_else {a = false} p q = record { says = λ e x. q.says e; said = λ h. q.said (h (p.says refl)) }

module _ (size : ℕ) (s : List ℕ) (at : ℕ) where
  -- the four: a bad start, a bad end, used up, whole
  pub ways {ℓ} : (P : Stop → Type ℓ)
      → (at + 3 ≤ length s → size ≤ start_at s at → P (stop bad_start (at + 3)))
      → (at + 5 ≤ length s → start_at s at < size → (start_at s at ≤ end_at s at → size ≤ end_at s at) → P (stop bad_end (at + 5)))
      → ((at + 3 ≤ length s → start_at s at < size) → (at + 5 ≤ length s → (start_at s at ≤ end_at s at) × (end_at s at < size)) → length s < next_at s at
      → P (stop more (length s)))
      → (start_at s at < size → start_at s at ≤ end_at s at → end_at s at < size → next_at s at ≤ length s → P (stop done (next_at s at)))
      → P (window_stop size s at)
  unfolding window_stop
  ways P p q r w =
      by_test (leb (at + 3) (length s) && start_outside size (start_at s at))
      (λ a. let x : (at + 3 ≤ length s) × (size ≤ start_at s at) = says (search reads) a in
      rw a (p x.0 x.1))
      (λ a. let f : at + 3 ≤ length s → start_at s at < size = says (search (m_excludes, reads)) a in
      by_test (leb (at + 5) (length s) && end_outside size (start_at s at) (end_at s at))
      (λ b. let x : (at + 5 ≤ length s) × (start_at s at ≤ end_at s at → size ≤ end_at s at) = says (search (m-or_else, reads)) b in
      rw (a, b) (q x.0 (f (omega arith)) x.1))
      (λ b. let g : at + 5 ≤ length s → (start_at s at ≤ end_at s at) × (end_at s at < size) = says (search (m_excludes, reads)) b in
      by_test (ltb (length s) (next_at s at))
      (λ d. rw (a, b, d) (r f g (ltb-true (length s) (next_at s at) d)))
      (λ d. let n : next_at s at ≤ length s = ltb-false (length s) (next_at s at) d in
      rw (a, b, d) (w (f (omega arith)) (g (omega arith)).0 (g (omega arith)).1 n))))

  pub next_is : (read_window_of size s at).next ≡ (window_stop size s at).taken
  unfolding read_window_of
  next_is = refl

  pub number_is : (window_stop size s at).number ≡ (read_window_of size s at).number
  unfolding read_window_of
  number_is = refl

  -- no further than its five bytes and the device's size
  pub reach : (window_stop size s at).taken ≤ at + 5 + size
  reach =
      ways (λ e. e.taken ≤ at + 5 + size) (λ h b. omega arith) (λ h a b. omega arith)
      (λ f g h. by_test (leb (at + 5) (length s))
      (λ d. let y = g (leb-true (at + 5) (length s) d) in
      omega (arith, y.0, y.1))
      (λ d. let y = leb-false (at + 5) (length s) d in
      omega arith))
      (λ a b e h. omega arith)

  -- what number 0 tells of a window
  pub record Whole : Type 0 where
    pub start-inside : start_at s at < size
    pub in_order : start_at s at ≤ end_at s at
    pub end-inside : end_at s at < size
    pub all_there : next_at s at ≤ length s
    pub reads : read_window_of size s at ≡ record { number = done; start = start_at s at; end = end_at s at; first = at + 5; next = next_at s at }

  pub is_whole : (window_stop size s at).number ≡ done → Whole
  is_whole h =
      ways (λ e. e ≡ window_stop size s at → e.number ≡ done → Whole) (λ a b e z. absurd (omega (arith, z))) (λ a b d e z. absurd (omega (arith, z)))
      (λ f g a e z. absurd (omega (arith, z)))
      (λ a b d n e z. record { start-inside = a; in_order = b; end-inside = d; all_there = n; reads = read_whole size s at (sym e) })
      refl h

  pub whole-next : Whole → (window_stop size s at).taken ≡ next_at s at
  whole-next h = sym next_is ∙ ap (λ (r : ReadWindow). r.next) h.reads

-- ---- several windows, and the first of them

module _ (size : ℕ) (s : List ℕ) where
  pub windows-more : (n at : ℕ) → 0 < n
      → windows_stop size s n at ≡ pick (eqb (read_window_of size s at).number done) (windows_stop size s (n - 1) (read_window_of size s at).next) (stop (read_window_of size s at).number (read_window_of size s at).next)
  unfolding windows_stop read_window_of
  windows-more zero at h = absurd (omega (arith, h))
  windows-more (suc n) at h =
      let o : suc n - 1 ≡ n = omega arith in
      rw o

  -- the first of them is not whole, or it is and the others are left
  pub windows_ended : (e : Stopped) (n at : ℕ) → 0 < n → read_of (Err e) ≡ read_window_of size s at → stop_of (Err e) ≡ windows_stop size s n at
  windows_ended e n at h is = sym (windows-more n at h ∙ rw (← is, not_done e.refusal))

  pub windows_on : (w : WholeWindow) (n at : ℕ) → 0 < n → whole_of w ≡ read_window_of size s at → windows_stop size s n at ≡ windows_stop size s (n - 1) w.next
  windows_on w n at h is = windows-more n at h ∙ rw (← is)

  pub windows-none : (n at : ℕ) → n ≤ 0 → windows_stop size s n at ≡ stop done at
  unfolding windows_stop
  windows-none zero at h = refl
  windows-none (suc n) at h = absurd (omega (arith, h))

  -- no further than so many windows reach
  pub windows_reach : size ≤ 65535 → (n at : ℕ) → (windows_stop size s n at).taken ≤ at + 65540 * n
  unfolding windows_stop
  windows_reach l zero at = omega arith
  windows_reach l (suc n) at =
      let one = reach size s at in
      by_test (eqb (window_stop size s at).number done)
      (λ e. rw e (let all = windows_reach l n (window_stop size s at).taken in
      omega arith))
      (λ e. rw e (omega arith))

  -- where all of them are whole, so are the first and the others
  pub windows-next : (n at : ℕ) → (windows_stop size s (suc n) at).number ≡ done
      → Whole size s at × (windows_stop size s (suc n) at ≡ windows_stop size s n (next_at s at))
      × (windows_of size s (suc n) at ≡ read_window_of size s at ∷ windows_of size s n (next_at s at))
  unfolding windows_stop windows_of
  windows-next n at z =
      by_test (eqb (window_stop size s at).number done)
      (λ e. let w = is_whole size s at (eqb-true (window_stop size s at).number done e) in
      (w, rw (e, whole-next size s at w), rw e))
      (λ e. absurd (eqb-false (window_stop size s at).number done e (rw e at z)))

  pub windows-first : (n at : ℕ) → 0 < n → (windows_stop size s n at).number ≡ done
      → Whole size s at × (windows_of size s n at ≡ read_window_of size s at ∷ windows_of size s (n - 1) (read_window_of size s at).next)
      × ((windows_stop size s (n - 1) (read_window_of size s at).next).number ≡ done)
  windows-first zero at h z = absurd (omega (arith, h))
  windows-first (suc n) at h z =
      let o : suc n - 1 ≡ n = omega arith in
      let w = windows-next n at z in
      let t : (read_window_of size s at).next ≡ next_at s at = ap (λ (r : ReadWindow). r.next) w.0.reads in
      (w.0, w.2 ∙ ap (λ (ws : List ReadWindow). read_window_of size s at ∷ ws) (rw (o, t)), rw (o, t) (rw w.1 at z))

  pub windows-list-none : (n at : ℕ) → n ≤ 0 → windows_of size s n at ≡ []
  unfolding windows_of
  windows-list-none zero at h = refl
  windows-list-none (suc n) at h = absurd (omega (arith, h))

  -- whole windows lie inside the stream
  pub windows-inside : (n at : ℕ) → at ≤ length s → (windows_stop size s n at).number ≡ done → (windows_stop size s n at).taken ≤ length s
  windows-inside zero at g h = unfold windows_stop in g
  windows-inside (suc n) at g h =
      let w = windows-next n at h in
      rw w.1 (windows-inside n (next_at s at) w.0.all_there (rw w.1 at h))

  -- and one after another
  pub windows_forward : (n at : ℕ) → (windows_stop size s n at).number ≡ done → at ≤ (windows_stop size s n at).taken
  windows_forward zero at h = unfold windows_stop in omega arith
  windows_forward (suc n) at h =
      let w = windows-next n at h in
      rw w.1 (omega (arith, windows_forward n (next_at s at) (rw w.1 at h)))

  -- as many as were announced
  pub windows-length : (n at : ℕ) → (windows_stop size s n at).number ≡ done → length (windows_of size s n at) ≡ n
  windows-length zero at h = unfold windows_of in refl
  windows-length (suc n) at h =
      let w = windows-next n at h in
      rw w.2 (ap suc (windows-length n (next_at s at) (rw w.1 at h)))
