-- What number 0 of a stream tells, and how many bytes are taken at most. Assumes nothing.
use Prim.Native.Nat.{ℕ, ◌+◌, ◌≤◌, ◌<◌}
use mathlib.Core.Bool.{Bool, true, false, not, ◌&&◌, and-false, true≢false}
use mathlib.Core.Path.{◌≡◌, sym, ap, ◌∙◌}
use mathlib.Core.List.{List}
use native.Mathlib.Omega.{arith}
use borrow.Author.Tests.{lt-ltb, ltb-true, ltb-false, leb-true, leb-false, eqb-true, eqb-false}
use lib.Dec.{eqb, ltb, leb}
use Rattle.std.specs.Prelude.{Err}
use lib.ListN.{length, get_or}
use Rattle.chain.proofs.ByCases.{by_test}
use Rattle.chain.specs.Paper.{preamble, postamble, two_preambles, done, no_preamble, bad_check_byte, ends_here, last_device, more, B2}
use Rattle.chain.specs.Rules.{pick}
use Rattle.reader.specs.declared.stop.Stopped.{Stopped}
use Rattle.reader.specs.Stops.{Stop, stop, stop_of, ◌then◌}
use Rattle.reader.specs.Windows.{windows_stop}
use Rattle.reader.specs.Stream.{preamble_at, control_at, count_at, preamble_stop, head_stop, check_stop, stream_stop}
use Rattle.reader.proofs.Stopping.{ended}
use Rattle.reader.proofs.Windows.{windows_reach}

-- ---- rows

module _ (holds : Bool) (n t : ℕ) (e : Stop) where
  -- number 0 passes a row that gives another
  pub passes : (holds ≡ true → n ≡ done → ⊥) → (pick holds (stop n t) e).number ≡ done → (holds ≡ false) × (pick holds (stop n t) e ≡ e) × (e.number ≡ done)
  passes z h =
      by_test holds (λ y. absurd (z y (rw y at h))) (λ y. (y, rw y, rw y at h))

  pub row_below : (k : ℕ) → (holds ≡ true → t ≤ k) → e.taken ≤ k → (pick holds (stop n t) e).taken ≤ k
  row_below k a b = by_test holds (λ y. rw y (a y)) (λ y. rw y b)

module _ (e : Stop) (f : ℕ → Stop) where
  pub then_done : (e then f).number ≡ done → (e.number ≡ done) × ((e then f) ≡ f e.taken) × ((f e.taken).number ≡ done)
  then_done h =
      by_test (eqb e.number done) (λ y. (eqb-true e.number done y, rw y, rw y at h))
      (λ y. absurd (eqb-false e.number done y (rw y at h)))

  pub then_below : (k : ℕ) → e.taken ≤ k → (f e.taken).taken ≤ k → (e then f).taken ≤ k
  then_below k a b = by_test (eqb e.number done) (λ y. rw y b) (λ y. rw y a)

-- ---- the stream

pub preamble-first : (mode : ℕ) → eqb mode two_preambles ≡ false → preamble_at mode ≡ 0
unfolding preamble_at
preamble-first mode e = rw e

pub preamble_second : (mode : ℕ) → eqb mode two_preambles ≡ true → preamble_at mode ≡ 1
unfolding preamble_at
preamble_second mode e = rw e

preamble_small : (mode : ℕ) → preamble_at mode ≤ 1
unfolding preamble_at
preamble_small mode = by_test (eqb mode two_preambles) (λ y. rw y (omega arith)) (λ y. rw y (omega arith))

module _ (mode : ℕ) (s : List ℕ) where
  -- the ways through the preambles: none, a bad one, one and the rest; in mode 6 no second, a bad second, two and the rest
  pub head-none : length s ≡ 0 → head_stop mode s ≡ stop more 0
  unfolding head_stop
  head-none e = simp (e, and-false, lt-ltb 0 (preamble_at mode + 6) (omega arith))

  pub head_bad : 0 < length s → eqb (get_or s 0 0) preamble ≡ false → head_stop mode s ≡ stop no_preamble 1
  unfolding head_stop
  head_bad l e = simp (lt-ltb 0 (length s) l, e)

  module _ (l : 0 < length s) (e : eqb (get_or s 0 0) preamble ≡ true) where
    pub head-one : eqb mode two_preambles ≡ false → head_stop mode s ≡ pick (ltb (length s) 6) (stop more (length s)) (stop done 6)
    unfolding head_stop
    head-one o = simp (lt-ltb 0 (length s) l, e, o, preamble-first mode o)

    module _ (o : eqb mode two_preambles ≡ true) where
      pub head_no_second : length s ≡ 1 → head_stop mode s ≡ stop more 1
      unfolding head_stop
      head_no_second z = simp (z, e, o, preamble_second mode o)

      pub head_bad_second : 1 < length s → eqb (get_or s 1 0) preamble ≡ false → head_stop mode s ≡ stop no_preamble 2
      unfolding head_stop
      head_bad_second k f = simp (lt-ltb 0 (length s) l, e, o, lt-ltb 1 (length s) k, f)

      pub head-two : 1 < length s → eqb (get_or s 1 0) preamble ≡ true → head_stop mode s ≡ pick (ltb (length s) 7) (stop more (length s)) (stop done 7)
      unfolding head_stop
      head-two k f = simp (lt-ltb 0 (length s) l, e, o, lt-ltb 1 (length s) k, f, preamble_second mode o)

  pub head_done : (head_stop mode s).number ≡ done → (head_stop mode s ≡ stop done (preamble_at mode + 6)) × (preamble_at mode + 6 ≤ length s)
  unfolding head_stop
  head_done h =
      let a = passes (ltb 0 (length s) && not (eqb (get_or s 0 0) preamble)) no_preamble 1 _ (λ y z. omega (arith, z)) h in
      let b = passes (eqb mode two_preambles && ltb 1 (length s) && not (eqb (get_or s 1 0) preamble)) no_preamble 2 _ (λ y z. omega (arith, z)) a.2 in
      let d = passes (ltb (length s) (preamble_at mode + 6)) more (length s) (stop done (preamble_at mode + 6)) (λ y z. omega (arith, z)) b.2 in
      (a.1 ∙ b.1 ∙ d.1, ltb-false (length s) (preamble_at mode + 6) d.0)

  head-below : (head_stop mode s).taken ≤ preamble_at mode + 6
  unfolding head_stop
  head-below =
      row_below (ltb 0 (length s) && not (eqb (get_or s 0 0) preamble)) no_preamble 1 _ (preamble_at mode + 6) (λ y. omega arith)
      (row_below (eqb mode two_preambles && ltb 1 (length s) && not (eqb (get_or s 1 0) preamble)) no_preamble 2 _ (preamble_at mode + 6) (λ y. omega arith)
      (row_below (ltb (length s) (preamble_at mode + 6)) more (length s) (stop done (preamble_at mode + 6)) (preamble_at mode + 6)
      (λ y. let l = ltb-true (length s) (preamble_at mode + 6) y in omega arith) (omega arith)))

-- one preamble read: it is there, and what stops there stops the head
pub preamble_there : (s : List ℕ) (at t : ℕ) → preamble_stop s at ≡ stop done t → (at < length s) × (eqb (get_or s at 0) preamble ≡ true)
preamble_there s at t h =
    by_test (leb (length s) at) (λ y. absurd (omega (arith, ap (λ (e : Stop). e.number) (rw y at h))))
    (λ y. by_test (eqb (get_or s at 0) preamble) (λ z. (leb-false (length s) at y, z))
    (λ z. absurd (omega (arith, ap (λ (e : Stop). e.number) (rw (y, z) at h)))))

module _ (mode : ℕ) (s : List ℕ) (e : Stopped) where
  pub head_first : stop_of (Err e) ≡ preamble_stop s 0 → stop_of (Err e) ≡ head_stop mode s
  head_first is =
      is
      ∙ by_test (leb (length s) 0)
      (λ y. let z : length s ≡ 0 = omega (arith, leb-true (length s) 0 y) in rw (head-none mode s z, z))
      (λ y. by_test (eqb (get_or s 0 0) preamble) (λ z. let k : eqb (preamble_stop s 0).number done ≡ false = ended e _ is in absurd (true≢false (rw (y, z) at k)))
      (λ z. rw (y, z, head_bad mode s (leb-false (length s) 0 y) z)))

  pub head_second : 0 < length s → eqb (get_or s 0 0) preamble ≡ true → eqb mode two_preambles ≡ true → stop_of (Err e) ≡ preamble_stop s 1
      → stop_of (Err e) ≡ head_stop mode s
  head_second l f o is =
      is
      ∙ by_test (leb (length s) 1)
      (λ y. let z : length s ≡ 1 = omega (arith, leb-true (length s) 1 y) in rw (head_no_second mode s l f o z, z))
      (λ y. by_test (eqb (get_or s 1 0) preamble) (λ z. let k : eqb (preamble_stop s 1).number done ≡ false = ended e _ is in absurd (true≢false (rw (y, z) at k)))
      (λ z. rw (y, z, head_bad_second mode s l f o (leb-false (length s) 1 y) z)))

check-below : (control : ℕ) (s : List ℕ) (at : ℕ) → (check_stop control s at).taken ≤ at + 1
unfolding check_stop
check-below control s at =
    row_below (leb (length s) at) more (length s) _ (at + 1) (λ y. let l = leb-true (length s) at y in omega arith)
    (row_below (not (eqb (get_or s at 0) postamble) && not (eqb (get_or s at 0) preamble)) bad_check_byte (at + 1) _ (at + 1) (λ y. omega arith)
    (row_below (eqb (get_or s at 0) preamble && B2 control) ends_here (at + 1) _ (at + 1) (λ y. omega arith)
    (row_below (eqb (get_or s at 0) preamble) last_device (at + 1) (stop done (at + 1)) (at + 1) (λ y. omega arith) (omega arith))))

module _ (size mode : ℕ) (s : List ℕ) where
  pub record Read : Type 0 where
    pub head : preamble_at mode + 6 ≤ length s
    pub windows : (windows_stop size s (count_at s (preamble_at mode)) (preamble_at mode + 6)).number ≡ done

  pub stream-done : (stream_stop size mode s).number ≡ done → Read
  unfolding stream_stop
  stream-done h =
      let w : ℕ → Stop = windows_stop size s (count_at s (preamble_at mode)) in
      let a = then_done (head_stop mode s then w) (check_stop (control_at s (preamble_at mode)) s) h in
      let b = then_done (head_stop mode s) w a.0 in
      let d = head_done mode s b.0 in
      record { head = d.1; windows = ap (λ (e : Stop). (w e.taken).number) (sym d.0) ∙ b.2 }

  -- two preambles, five bytes more, 255 windows and the check byte, at most
  pub stream-below : size ≤ 65535 → (stream_stop size mode s).taken ≤ 16712708
  unfolding stream_stop
  stream-below l =
      let w : ℕ → Stop = windows_stop size s (count_at s (preamble_at mode)) in
      let p = preamble_small mode in
      let h = head-below mode s in
      let f = windows_reach size s l (count_at s (preamble_at mode)) (head_stop mode s).taken in
      let g : (head_stop mode s then w).taken ≤ 16712707 = then_below (head_stop mode s) w 16712707 (omega arith) (omega arith) in
      let d = check-below (control_at s (preamble_at mode)) s (head_stop mode s then w).taken in
      then_below (head_stop mode s then w) (check_stop (control_at s (preamble_at mode)) s) 16712708 (omega arith) (omega arith)
