-- Each row of closing bytes ends a run that awaits its byte: by the byte's own step and the row of the byte after it. Assumes nothing.
use Prim.Native.Nat.{ℕ, ◌+◌, ◌-◌, ◌*◌, ◌/◌, ◌%◌, ◌<◌, ◌≤◌}
use mathlib.Core.Bool.{true, false, ◌||◌, and-false, or-true}
use mathlib.Core.Path.{◌≡◌, refl, ◌∙◌}
use mathlib.Core.List.{List, [], ◌∷◌}
use native.Mathlib.Nat.{div-add-mod', mod-lt}
use native.Mathlib.Omega.{arith}
use lib.Dec.{eqb, ltb, leb, lit<}
use lib.ListN.{length, take, drop, length-drop}
use lib.Seq.{set-get_or, length-take-le}
use borrow.Author.Tests.{lt-ltb, le-ltb, lt-leb, eqb-true, eqb-false}
use Rattle.chain.proofs.ByCases.{by_test}
use Rattle.chain.proofs.Means.{says, reads}
use Rattle.chain.specs.declared.Chain.{Chain}
use Rattle.chain.specs.declared.Place.{Place}
use Rattle.chain.specs.Paper.{postamble, no_windows, at_preamble, at_second, at_control, at_address, at_address2, at_address3, at_count, at_null, at_start, at_start_low, at_end, at_end_low, at_data, at_check, done, no_preamble, no_check, bad_start, bad_end, more}
use Rattle.chain.specs.Rules.{pick}
use Rattle.chain.specs.Set.{with_awaited, with_left, with_control, with_start, with_end, with_next, with_place}
use Rattle.chain.specs.Kinds.{size_at, base_of, size_here}
use Rattle.chain.specs.Window.{with_low}
use Rattle.awaited.specs.Byte.{awaits, checks, is_bad_start, is_bad_end, no_window, number_of, passed_of, advance_of}
use Rattle.machine.specs.Run.{address_of, memory_of, registers_of, missed_of, counted, run, step_of, run_of}
use Rattle.machine.specs.Block.{misses_of}
use Rattle.machine.proofs.Runs.{registers_either}
use Rattle.machine.proofs.Block.{block_of, block, misses_same, laid_same}
use Rattle.closing.specs.Closing.{stored_register, with_ff, tail, window, after_preamble, after_start, ends_below, refuses_ff, after_end}
use Rattle.closing.proofs.Ends.{Along, Ends, ends_last, ends-after, ends_step}

-- one byte more taken
abbrev next : Chain → Place
next c = counted c.place 1 0

-- a byte that is neither a control byte nor data, and that the run takes
module _ (c : Chain) (m : List ℕ) (b : ℕ) where
  quiet : (q : Place) → number_of c b ≡ more → awaits c at_data ≡ false → awaits c at_control ≡ false → advance_of (next c) b ≡ q
      → step_of c m b ≡ run (with_place c q) m more
  unfolding step_of registers_of memory_of missed_of
  quiet q e f g h = rw (e, f, g, h)

  step_3 : c.place.awaited ≡ at_address → step_of c m b ≡ run (with_place c (with_awaited (next c) at_address2)) m more
  unfolding number_of advance_of
  step_3 e = quiet (with_awaited (next c) at_address2) (simp (e, and-false)) (rw e) (rw e) (rw e)

  step_4 : c.place.awaited ≡ at_address2 → step_of c m b ≡ run (with_place c (with_awaited (next c) at_address3)) m more
  unfolding number_of advance_of
  step_4 e = quiet (with_awaited (next c) at_address3) (simp (e, and-false)) (rw e) (rw e) (rw e)

  step_5 : c.place.awaited ≡ at_address3 → step_of c m b ≡ run (with_place c (with_awaited (next c) at_count)) m more
  unfolding number_of advance_of
  step_5 e = quiet (with_awaited (next c) at_count) (simp (e, and-false)) (rw e) (rw e) (rw e)

  step_7 : c.place.awaited ≡ at_null → step_of c m b ≡ run (with_place c (with_awaited (next c) at_start)) m more
  unfolding number_of advance_of
  step_7 e = quiet (with_awaited (next c) at_start) (simp (e, and-false)) (rw e) (rw e) (rw e)

  step_8 : c.place.awaited ≡ at_start → step_of c m b ≡ run (with_place c (with_awaited (with_start (next c) (b * 256)) at_start_low)) m more
  unfolding number_of advance_of
  step_8 e = quiet (with_awaited (with_start (next c) (b * 256)) at_start_low) (simp (e, and-false)) (rw e) (rw e) (rw e)

  step_9 : c.place.awaited ≡ at_start_low → is_bad_start c b ≡ false
      → step_of c m b ≡ run (with_place c (with_awaited (with_start (next c) (with_low c.place.start b)) at_end)) m more
  unfolding number_of advance_of
  step_9 e h = quiet (with_awaited (with_start (next c) (with_low c.place.start b)) at_end) (simp (e, h, and-false)) (rw e) (rw e) (rw e)

  step_10 : c.place.awaited ≡ at_end → step_of c m b ≡ run (with_place c (with_awaited (with_end (next c) (b * 256)) at_end_low)) m more
  unfolding number_of advance_of
  step_10 e = quiet (with_awaited (with_end (next c) (b * 256)) at_end_low) (simp (e, and-false)) (rw e) (rw e) (rw e)

  step_11 : c.place.awaited ≡ at_end_low → is_bad_end c b ≡ false
      → step_of c m b ≡ run (with_place c (with_awaited (with_next (with_end (next c) (with_low c.place.end b)) c.place.start) at_data)) m more
  unfolding number_of advance_of
  step_11 e h =
      quiet (with_awaited (with_next (with_end (next c) (with_low c.place.end b)) c.place.start) at_data) (simp (e, h, and-false))
      (rw e) (rw e) (rw e)

module _ (c : Chain) (m : List ℕ) where
  -- the count byte says no windows
  step_6 : c.place.awaited ≡ at_count → step_of c m no_windows ≡ run (with_place c (with_awaited (next c) at_check)) m more
  unfolding number_of advance_of
  step_6 e = quiet c m no_windows (with_awaited (next c) at_check) (simp (e, and-false)) (rw e) (rw e) (rw e)

  -- the stored register as the control byte: what is loaded is what is there
  registers_2 : registers_of c (stored_register c) ≡ c.registers
  registers_2 = registers_either c (stored_register c) (λ g. g ≡ c.registers) (set-get_or c.registers c.place.device 0) refl

  number_2 : c.place.awaited ≡ at_control → checks c ≡ false → number_of c (stored_register c) ≡ more
  unfolding number_of
  number_2 e h = simp (e, h, and-false)

  step_2 : c.place.awaited ≡ at_control → checks c ≡ false
      → step_of c m (stored_register c) ≡ run (with_place c (with_awaited (with_control (next c) (stored_register c)) at_address)) m more
  unfolding step_of memory_of missed_of advance_of
  step_2 e h = rw (number_2 e h, registers_2, e)

-- ---- the rows without cells

module _ (c : Chain) (m : List ℕ) where
  pub ends_0 : c.place.awaited ≡ at_preamble → Ends c m (0x00 ∷ []) no_preamble
  unfolding number_of
  ends_0 e = ends_last c m no_preamble 0x00 (simp e) (omega arith)

  pub ends_1 : c.place.awaited ≡ at_second → Ends c m (0x00 ∷ []) no_preamble
  unfolding number_of
  ends_1 e = ends_last c m no_preamble 0x00 (simp e) (omega arith)

  pub ends_13 : c.place.awaited ≡ at_check → Ends c m (postamble ∷ []) done
  unfolding number_of
  ends_13 e = ends_last c m done postamble (simp (e, and-false)) (omega arith)

pub ends_6 : (c : Chain) (m : List ℕ) → c.place.awaited ≡ at_count → Ends c m (no_windows ∷ postamble ∷ []) done
ends_6 c m e = ends_step c m done _ no_windows (postamble ∷ []) (step_6 c m e) refl refl (ends_13 _ m refl)

pub ends_5 : (c : Chain) (m : List ℕ) → c.place.awaited ≡ at_address3 → Ends c m (0x00 ∷ no_windows ∷ postamble ∷ []) done
ends_5 c m e = ends_step c m done _ 0x00 (no_windows ∷ postamble ∷ []) (step_5 c m 0x00 e) refl refl (ends_6 _ m refl)

pub ends_4 : (c : Chain) (m : List ℕ) → c.place.awaited ≡ at_address2 → Ends c m (0x00 ∷ 0x00 ∷ no_windows ∷ postamble ∷ []) done
ends_4 c m e = ends_step c m done _ 0x00 (0x00 ∷ no_windows ∷ postamble ∷ []) (step_4 c m 0x00 e) refl refl (ends_5 _ m refl)

pub ends_3 : (c : Chain) (m : List ℕ) → c.place.awaited ≡ at_address → Ends c m (0x00 ∷ 0x00 ∷ 0x00 ∷ no_windows ∷ postamble ∷ []) done
ends_3 c m e = ends_step c m done _ 0x00 (0x00 ∷ 0x00 ∷ no_windows ∷ postamble ∷ []) (step_3 c m 0x00 e) refl refl (ends_4 _ m refl)

-- in a check 08 is refused before anything is loaded
ends_seven : (c : Chain) (m : List ℕ) → c.place.awaited ≡ at_control → checks c ≡ true → Ends c m (0x08 ∷ []) no_check
unfolding number_of
ends_seven c m e h = ends_last c m no_check 0x08 (simp (e, h)) (omega arith)

pub ends_2 : (c : Chain) (m : List ℕ) → c.place.awaited ≡ at_control → Ends c m (after_preamble c) (pick (checks c) no_check done)
ends_2 c m e =
    by_test (checks c) (λ q. rw q (ends_seven c m e q))
    (λ q.
    rw q
    (ends_step c m done _ (stored_register c) (0x00 ∷ 0x00 ∷ 0x00 ∷ no_windows ∷ postamble ∷ []) (step_2 c m e q) refl refl (ends_3 _ m refl)))

-- a start or an end that is out of its bounds
module _ (c : Chain) (m : List ℕ) (b : ℕ) where
  ends-start : c.place.awaited ≡ at_start_low → is_bad_start c b ≡ true → Ends c m (b ∷ []) bad_start
  unfolding number_of
  ends-start e h = ends_last c m bad_start b (simp (e, h, and-false)) (omega arith)

  ends-end : c.place.awaited ≡ at_end_low → is_bad_end c b ≡ true → Ends c m (b ∷ []) bad_end
  unfolding number_of
  ends-end e h = ends_last c m bad_end b (simp (e, h, and-false)) (omega arith)

-- FF FF is no start and no end of any device
pub ends_8 : (c : Chain) (m : List ℕ) → size_here c ≤ 65535 → c.place.awaited ≡ at_start → Ends c m (0xff ∷ 0xff ∷ []) bad_start
ends_8 c m s e =
    ends_step c m bad_start _ 0xff (0xff ∷ []) (step_8 c m 0xff e) refl refl
    (ends-start _ m 0xff refl (rw (le-ltb 65535 (size_here c) s)))

pub ends_7 : (c : Chain) (m : List ℕ) → size_here c ≤ 65535 → c.place.awaited ≡ at_null → Ends c m (0x00 ∷ 0xff ∷ 0xff ∷ []) bad_start
ends_7 c m s e = ends_step c m bad_start _ 0x00 (0xff ∷ 0xff ∷ []) (step_7 c m 0x00 e) refl refl (ends_8 _ m s refl)

pub ends_10 : (c : Chain) (m : List ℕ) → size_here c ≤ 65535 → c.place.awaited ≡ at_end → Ends c m (0xff ∷ 0xff ∷ []) bad_end
ends_10 c m s e =
    ends_step c m bad_end _ 0xff (0xff ∷ []) (step_10 c m 0xff e) refl refl
    (ends-end _ m 0xff refl (rw (le-ltb 65535 (size_here c) s, or-true)))

pub ends_9 : (c : Chain) (m : List ℕ) → size_here c ≤ 65535 → c.place.awaited ≡ at_start_low
    → Ends c m (after_start c) (pick (ltb (with_ff c.place.start) (size_here c)) bad_end bad_start)
ends_9 c m s e =
    by_test (ltb (with_ff c.place.start) (size_here c))
    (λ q. rw q (ends_step c m bad_end _ 0xff (0xff ∷ 0xff ∷ []) (step_9 c m 0xff e (rw q)) refl refl (ends_10 _ m s refl)))
    (λ q. rw q (ends-start c m 0xff e (rw q)))

-- ---- the rows with cells

-- after its window's last data byte
window_over_lem : (p : Place) (n : ℕ) → p.end < p.next + n
    → passed_of p n ≡ pick (ltb 1 p.left) (with_awaited (with_left (no_window p) (p.left - 1)) at_null) (with_awaited (with_left (no_window p) 0) at_check)
unfolding passed_of
window_over_lem p n h = rw (lt-leb (p.next + n) p.end h)

-- data bytes leave the counts alone
passed_keeps : (f : Place → ℕ) (p : Place) (n : ℕ) → f (with_next p (p.next + n)) ≡ f p → f (with_awaited (with_left (no_window p) (p.left - 1)) at_null) ≡ f p
    → f (with_awaited (with_left (no_window p) 0) at_check) ≡ f p → f (passed_of p n) ≡ f p
unfolding passed_of
passed_keeps f p n x y z =
    by_test (leb (p.next + n) p.end) (λ q. rw q x) (λ q. rw q (by_test (ltb 1 p.left) (λ r. rw r y) (λ r. rw r z)))

-- with what a run ends that goes on after the current window
abbrev pub tail_number : Place → ℕ
tail_number p = pick (ltb 1 p.left) bad_start done

ends-tail : (c : Chain) (m : List ℕ) (p : Place) (n : ℕ) → size_at c p.device ≤ 65535 → p.end < p.next + n
    → Ends (with_place c (passed_of p n)) m (tail p) (tail_number p)
ends-tail c m p n s h =
    rw (window_over_lem p n h) (by_test (ltb 1 p.left) (λ q. rw q (ends_7 _ m s refl)) (λ q. rw q (ends_13 _ m refl)))

-- present cells, fed back, are taken and none is missed
module _ (c : Chain) (m bs : List ℕ) (i : ℕ) (h : misses_of c.place.check m i bs ≡ 0) where
  block_along : Along c (block_of c m i bs) (length bs)
  block_along =
      let p : Place = counted c.place (length bs) (misses_of c.place.check m i bs) in
      record {
        chain = refl;
        taken = passed_keeps (λ (q : Place). q.taken) p (length bs) refl refl refl;
        mismatches = passed_keeps (λ (q : Place). q.mismatches) p (length bs) refl refl refl ∙ rw h;
      }

pub ends_12 : (c : Chain) (m : List ℕ) → size_here c ≤ 65535 → c.place.awaited ≡ at_data → c.place.next ≤ c.place.end
    → base_of c.kinds c.place.device + c.place.end < length m
    → Ends c m (window c m c.place.next c.place.end) (tail_number c.place)
unfolding address_of
ends_12 c m s e f g =
    let p : Place = c.place in
    let n : ℕ = p.end - p.next + 1 in
    let i : ℕ = base_of c.kinds p.device + p.next in
    let bs : List ℕ = take n (drop i m) in
    let l : length bs ≡ n = length-take-le n (drop i m) (omega (arith, length-drop i m)) in
    let w : run_of (run c m more) bs ≡ run (block_of c m i bs) m more =
    block bs c m e (omega arith) (omega arith) ∙ rw (laid_same m i n (omega arith) p.check) in
    ends-after c m (tail_number p) (block_of c m i bs) bs (tail p) w (block_along c m bs i (misses_same m i n (omega arith) p.check))
    (ends-tail c m (counted p (length bs) (misses_of p.check m i bs)) (length bs) s (omega arith))

-- the end 256h: below start where h is the start's and the start's low byte is not zero; else an end, where 256h + 255 is one
module _ (p : Place) where
  end_below : ends_below p ≡ true → with_low p.end 0x00 < p.start
  end_below q =
      let t : (p.end / 256 ≡ p.start / 256) × (p.start % 256 ≡ 0 → ⊥) = says (search reads) q in
      omega (arith, t.0, t.1, div-add-mod' p.start 256)

  pub end_fits : ends_below p ≡ false → p.start ≤ with_ff p.end → p.start ≤ with_low p.end 0x00
  end_fits q g =
      by_test (eqb (p.end / 256) (p.start / 256))
      (λ e.
      let z : p.start % 256 ≡ 0 = says (search reads) (rw e at q) in
      omega (arith, z, eqb-true (p.end / 256) (p.start / 256) e, div-add-mod' p.start 256))
      (λ e. omega (arith, eqb-false (p.end / 256) (p.start / 256) e, div-add-mod' p.start 256, mod-lt p.start (lit< {m = 0} {n = 256} tt)))

-- 00 is no end, or FF is none, or the end 256h is taken and the window is closed by its present cells
pub ends_11 : (c : Chain) (m : List ℕ) → size_here c ≤ 65535 → c.place.awaited ≡ at_end_low
    → base_of c.kinds c.place.device + size_here c ≤ length m
    → Ends c m (after_end c m) (pick (ends_below c.place || refuses_ff c) bad_end (tail_number c.place))
ends_11 c m s e i =
    let p : Place = c.place in
    by_test (ends_below p)
    (λ b. rw b (ends-end c m 0x00 e (rw (lt-ltb (with_low p.end 0x00) p.start (end_below p b)))))
    (λ b.
    by_test (refuses_ff c)
    (λ q. rw (b, q) (ends-end c m 0xff e q))
    (λ q.
    let t : (p.start ≤ with_ff p.end) × (with_ff p.end < size_here c) = says (search reads) q in
    let f = end_fits p b t.0 in
    let l : with_low p.end 0x00 < size_here c = omega arith in
    rw (b, q)
    (ends_step c m (tail_number p) _ 0x00 _
    (step_11 c m 0x00 e (rw (le-ltb (with_low p.end 0x00) p.start f, lt-ltb (with_low p.end 0x00) (size_here c) l)))
    refl refl
    (ends_12 _ m s refl f (omega arith)))))
