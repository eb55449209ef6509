-- A stream's own number and bytes taken are the machine's, for a write of it into one freshly reset device. Assumes nothing.
use Prim.Native.Nat.{ℕ, zero, suc, ◌+◌, ◌-◌, ◌^◌, ◌≤◌, ◌<◌}
use mathlib.Core.Bool.{true, false, and-false}
use mathlib.Core.Path.{◌≡◌, refl, sym, ap, ◌∙◌}
use mathlib.Core.Logic.{◌≢◌}
use mathlib.Core.List.{List, ◌∷◌}
use native.Mathlib.Omega.{arith}
use native.Mathlib.Nat.{mod-eq_of_lt}
use borrow.Author.Tests.{le-leb, lt-leb, ltb-true, ltb-false, leb-true, leb-false, eqb-true, eqb-false}
use lib.Dec.{eqb, ltb, leb}
use lib.ListN.{length, get_or, drop, replicate}
use Rattle.chain.proofs.ByCases.{by_test}
use Rattle.chain.proofs.Sizes.{size_most}
use Rattle.chain.specs.declared.Chain.{Chain}
use Rattle.chain.specs.Paper.{preamble, postamble, at_second, at_control, at_address, at_address2, at_address3, at_count, writing, two_preambles, done, no_preamble, bad_check_byte, ends_here, last_device, more, B2}
use Rattle.chain.specs.Rules.{pick}
use Rattle.chain.specs.Set.{with_place, with_control}
use Rattle.chain.specs.Kinds.{size_of, base_of, size_here}
use Rattle.chain.specs.Calls.{first_only, fresh_chain}
use Rattle.awaited.specs.Byte.{number_of, advance_of}
use Rattle.machine.specs.Run.{Run, run, memory_of, registers_of, missed_of, ended, step_of, run_of}
use Rattle.machine.specs.Calls.{opened_place}
use Rattle.machine.proofs.Feed.{run_at, run_end}
use Rattle.reader.specs.Stops.{Stop, stop, ◌then◌}
use Rattle.reader.specs.Windows.{windows_stop, windows_of}
use Rattle.reader.specs.Stream.{preamble_at, control_at, count_at, head_stop, check_stop, stream_stop}
use Rattle.reader.proofs.Windows.{windows-inside}
use Rattle.reader.proofs.Streams.{then_done, head_done, stream-below, preamble-first, preamble_second, head-none, head_bad, head-one, head_no_second, head_bad_second, head-two}
use Rattle.reader.proofs.Runs.{tick, inc, end_of, ticked, Takes, takes_whole, takes_stop, takes_ends, takes_then, run_ends, run_on, run_dry, in_write, waits, stored_all, windows_as_machine}

-- the chain that a start (a write, in a mode) leaves of one freshly reset device of a kind; unused kinds are taken as zero
abbrev pub started_of : ℕ → List ℕ → ℕ → Chain
started_of kind ks mode = with_place (fresh_chain 1 (kind ∷ ks)) (opened_place mode writing)

-- the same, its control byte loaded
abbrev pub loaded : ℕ → List ℕ → ℕ → ℕ → Chain
loaded kind ks mode control =
    record {
      count = 1;
      kinds = first_only 1 (kind ∷ ks);
      registers = control ∷ replicate 7 0;
      place = with_control (opened_place mode writing) control;
    }

-- ---- the check byte

module _ (kind : ℕ) (ks : List ℕ) (mode : ℕ) (m s : List ℕ) (control at : ℕ) where
  abbrev checked : Run
  checked = run_of (run (waits (loaded kind ks mode control) 0 at) m more) (drop at s)

  check_by : (k : ℕ) → at < length s → check_stop control s at ≡ stop k (at + 1)
      → number_of (waits (loaded kind ks mode control) 0 at) (get_or s at 0) ≡ k → eqb k more ≡ false
      → (checked ≡ run (ended (waits (loaded kind ks mode control) 0 at)) m (check_stop control s at).number) × ((check_stop control s at).taken ≡ at + 1)
      × (checked.number ≡ more → ⊥)
  check_by k l e n z =
      let r = run_ends (waits (loaded kind ks mode control) 0 at) m s at k l n z in
      rw e (r, refl, λ h. eqb-false k more z (ap (λ (x : Run). x.number) (sym r) ∙ h))

  -- it ends the run
  pub check_is : at < length s
      → (checked ≡ run (ended (waits (loaded kind ks mode control) 0 at)) m (check_stop control s at).number) × ((check_stop control s at).taken ≡ at + 1)
      × (checked.number ≡ more → ⊥)
  unfolding check_stop number_of waits
  check_is l =
      let e : leb (length s) at ≡ false = lt-leb (length s) at l in
      by_test (eqb (get_or s at 0) postamble)
      (λ p. let v : get_or s at 0 ≡ postamble = eqb-true (get_or s at 0) postamble p in
      check_by done l (simp (e, v)) (simp v) refl)
      (λ p. by_test (eqb (get_or s at 0) preamble)
      (λ q. by_test (B2 control) (λ b. check_by ends_here l (simp (e, p, q, b)) (simp (p, q, b)) refl)
      (λ b. check_by last_device l (simp (e, p, q, b)) (simp (p, q, b)) refl))
      (λ q. check_by bad_check_byte l (simp (e, p, q)) (simp (p, q)) refl))

  used_up : length s ≤ at → check_stop control s at ≡ stop more (length s)
  unfolding check_stop
  used_up l = rw (le-leb (length s) at l)

  check-ends : at ≤ length s → end_of checked ≡ ticked (check_stop control s at)
  unfolding waits
  check-ends g =
      by_test (leb (length s) at)
      (λ e. let l : length s ≤ at = leb-true (length s) at e in
      let x : at ≡ length s = omega arith in
      rw (run_end (waits (loaded kind ks mode control) 0 at) m s at l, used_up l) (ap (λ (t : ℕ). stop more (tick t)) x))
      (λ e. let d = check_is (leb-false (length s) at e) in
      ap end_of d.0 ∙ rw (d.1, inc at))

  check_accepts : (check_stop control s at).number ≡ done → checked ≡ run (ended (waits (loaded kind ks mode control) 0 at)) m done
  check_accepts z =
      by_test (leb (length s) at)
      (λ e. absurd (omega (arith, ap (λ (x : Stop). x.number) (sym (used_up (leb-true (length s) at e))) ∙ z)))
      (λ e. (check_is (leb-false (length s) at e)).0 ∙ rw z)

-- ---- control, address and count, after the preamble at p

module _ (kind : ℕ) (ks : List ℕ) (mode : ℕ) (m s : List ℕ) (p : ℕ) where
  c₁ : Chain
  c₁ = loaded kind ks mode (control_at s p)

  head_shape : ℕ → ℕ → Chain
  unfolding c₁
  head_shape zero = in_write (started_of kind ks mode) at_control 0 0 0 0
  head_shape (suc zero) = in_write c₁ at_address 0 0 0 0
  head_shape (suc (suc zero)) = in_write c₁ at_address2 0 0 0 0
  head_shape (suc (suc (suc zero))) = in_write c₁ at_address3 0 0 0 0
  head_shape (suc (suc (suc (suc i)))) = in_write c₁ at_count 0 0 0 0

  h : ℕ → Chain
  unfolding head_shape
  h i = head_shape i (tick (p + 1 + i))

  h_taken : (i : ℕ) → (h i).place.taken ≡ tick (p + 1 + i)
  unfolding h head_shape c₁
  h_taken zero = refl
  h_taken (suc zero) = refl
  h_taken (suc (suc zero)) = refl
  h_taken (suc (suc (suc zero))) = refl
  h_taken (suc (suc (suc (suc i)))) = refl

  h_step : (i : ℕ) → i < 4 → step_of (h i) m (get_or s (p + 1 + i) 0) ≡ run (h (i + 1)) m more
  unfolding h head_shape c₁ step_of number_of advance_of registers_of memory_of missed_of
  h_step zero l =
      let z : p + 1 + 0 ≡ p + 1 = omega arith in
      simp (and-false, z, inc (p + 1))
  h_step (suc zero) l =
      let e : p + 1 + 1 + 1 ≡ p + 1 + 2 = omega arith in
      simp (and-false, inc (p + 1 + 1), e)
  h_step (suc (suc zero)) l =
      let e : p + 1 + 2 + 1 ≡ p + 1 + 3 = omega arith in
      simp (and-false, inc (p + 1 + 2), e)
  h_step (suc (suc (suc zero))) l =
      let e : p + 1 + 3 + 1 ≡ p + 1 + 4 = omega arith in
      simp (and-false, inc (p + 1 + 3), e)
  h_step (suc (suc (suc (suc i)))) l = absurd (omega (arith, l))

  count_step : (b : ℕ) → b < 256 → step_of (h 4) m b ≡ run (waits c₁ (255 - b) (p + 6)) m more
  unfolding h head_shape c₁ waits step_of number_of advance_of registers_of memory_of missed_of
  count_step b l =
      let e : p + 1 + 4 + 1 ≡ p + 6 = omega arith in
      by_test (eqb b 255)
      (λ y. let z : b ≡ 255 = eqb-true b 255 y in
      let n : 255 - b ≡ 0 = omega arith in
      simp (and-false, y, n, inc (p + 1 + 4), e))
      (λ y. let z : b ≢ 255 = eqb-false b 255 y in
      let n : 255 - b ≡ suc (254 - b) = omega arith in
      simp (and-false, y, n, inc (p + 1 + 4), e))

  c₁_size : size_here c₁ ≡ size_of kind
  unfolding c₁ first_only
  c₁_size = refl

  body_takes : p + 1 ≤ length s → get_or s (p + 5) 0 < 256
      → Takes (run_of (run (h 0) m more) (drop (p + 1) s)) (pick (ltb (length s) (p + 6)) (stop more (length s)) (stop done (p + 6)))
      (run_of (run (waits c₁ (count_at s p) (p + 6)) m more) (drop (p + 6) s))
  body_takes g b =
      by_test (ltb (length s) (p + 6))
      (λ y. let l : length s < p + 6 = ltb-true (length s) (p + 6) y in
      let x : p + 1 + (length s - (p + 1)) ≡ length s = omega arith in
      rw (y, run_dry m s h (p + 1) (λ i j. h_step i (omega arith)) g)
      (takes_stop refl (ap (λ (t : ℕ). stop more t) (h_taken (length s - (p + 1)) ∙ ap tick x))))
      (λ y. let l : p + 6 ≤ length s = ltb-false (length s) (p + 6) y in
      let x : p + 1 + 4 ≡ p + 5 = omega arith in
      let z : p + 5 + 1 ≡ p + 6 = omega arith in
      rw (y, run_on m s h (p + 1) 4 h_step (omega arith), x, run_at (h 4) m s (p + 5) (omega arith), z, count_step (get_or s (p + 5) 0) b)
      (takes_whole refl))

-- ---- the preambles

module _ (kind : ℕ) (ks : List ℕ) (mode : ℕ) (m s : List ℕ) where
  c₀ : Chain
  c₀ = started_of kind ks mode

  -- in mode 6 the second is awaited next
  c₂ : Chain
  unfolding c₀
  c₂ = in_write c₀ at_second 0 0 0 0 1

  first_bad : (b : ℕ) → eqb b preamble ≡ false → number_of c₀ b ≡ no_preamble
  unfolding c₀ number_of
  first_bad b e = simp e

  first_good : (b : ℕ) → b ≡ preamble → eqb mode two_preambles ≡ false → step_of c₀ m b ≡ run (h kind ks mode m s 0 0) m more
  unfolding c₀ h head_shape step_of number_of advance_of registers_of memory_of missed_of
  first_good b e y = simp (e, y)

  first_of-two : (b : ℕ) → b ≡ preamble → eqb mode two_preambles ≡ true → step_of c₀ m b ≡ run c₂ m more
  unfolding c₀ c₂ step_of number_of advance_of registers_of memory_of missed_of
  first_of-two b e y = simp (e, y)

  second_bad : (b : ℕ) → eqb b preamble ≡ false → number_of c₂ b ≡ no_preamble
  unfolding c₀ c₂ number_of
  second_bad b e = simp e

  second_good : (b : ℕ) → b ≡ preamble → step_of c₂ m b ≡ run (h kind ks mode m s 1 0) m more
  unfolding c₀ c₂ h head_shape step_of number_of advance_of registers_of memory_of missed_of
  second_good b e = simp e

  bad_at : (c : Chain) (at : ℕ) → at < length s → c.place.taken ≡ at → at < 2 → number_of c (get_or s at 0) ≡ no_preamble
      → end_of (run_of (run c m more) (drop at s)) ≡ stop no_preamble (at + 1)
  bad_at c at l t k n =
      ap end_of (run_ends c m s at no_preamble l n refl) ∙ rw t (ap (λ (x : ℕ). stop no_preamble x) (mod-eq_of_lt {n = at + 1} {m = 2 ^ 32} (omega arith)))

  head_takes : ((i : ℕ) → get_or s i 0 < 256)
      → Takes (run_of (run c₀ m more) (drop 0 s)) (head_stop mode s)
      (run_of (run (waits (c₁ kind ks mode m s (preamble_at mode)) (count_at s (preamble_at mode)) (preamble_at mode + 6)) m more) (drop (preamble_at mode + 6) s))
  unfolding c₀ c₂
  head_takes bytes =
      by_test (leb (length s) 0)
      (λ e. let l : length s ≤ 0 = leb-true (length s) 0 e in
      rw (run_end c₀ m s 0 l, head-none mode s (omega arith)) (takes_stop refl refl))
      (λ e. let l : 0 < length s = leb-false (length s) 0 e in
      by_test (eqb (get_or s 0 0) preamble)
      (λ f. by_test (eqb mode two_preambles)
      (λ o. let t : run_of (run c₀ m more) (drop 0 s) ≡ run_of (run c₂ m more) (drop 1 s) =
      run_at c₀ m s 0 l ∙ rw (first_of-two (get_or s 0 0) (eqb-true (get_or s 0 0) preamble f) o) in
      rw t
      (by_test (leb (length s) 1)
      (λ g. let k : length s ≤ 1 = leb-true (length s) 1 g in
      rw (run_end c₂ m s 1 k, head_no_second mode s l f o (omega arith)) (takes_stop refl refl))
      (λ g. let k : 1 < length s = leb-false (length s) 1 g in
      by_test (eqb (get_or s 1 0) preamble)
      (λ b. rw (run_at c₂ m s 1 k, second_good (get_or s 1 0) (eqb-true (get_or s 1 0) preamble b), head-two mode s l f o k b, preamble_second mode o)
      (body_takes kind ks mode m s 1 k (bytes 6)))
      (λ b. rw (head_bad_second mode s l f o k b) (takes_stop refl (bad_at c₂ 1 k refl (omega arith) (second_bad (get_or s 1 0) b)))))))
      (λ o. rw (run_at c₀ m s 0 l, first_good (get_or s 0 0) (eqb-true (get_or s 0 0) preamble f) o, head-one mode s l f o, preamble-first mode o)
      (body_takes kind ks mode m s 0 l (bytes 5))))
      (λ f. rw (head_bad mode s l f) (takes_stop refl (bad_at c₀ 0 l refl (omega arith) (first_bad (get_or s 0 0) f)))))

  -- ---- the stream

  abbrev p : ℕ
  p = preamble_at mode

  -- the byte after k windows, and memory with their data stored
  abbrev after : ℕ → ℕ
  after k = (windows_stop (size_of kind) s k (p + 6)).taken

  abbrev stored : ℕ → List ℕ
  stored k = stored_all s 0 m (windows_of (size_of kind) s k (p + 6))

  -- n more are left after them
  windows-taken : ((i : ℕ) → get_or s i 0 < 256) → (k n : ℕ) → k + n ≡ count_at s p
      → Takes (run_of (run c₀ m more) (drop 0 s)) (head_stop mode s then windows_stop (size_of kind) s k)
      (run_of (run (waits (c₁ kind ks mode m s p) n (after k)) (stored k) more) (drop (after k) s))
  unfolding c₁ base_of
  windows-taken bytes k n e =
      takes_then (run_of (run c₀ m more) (drop 0 s)) (run_of (run (waits (c₁ kind ks mode m s p) (count_at s p) (p + 6)) m more) (drop (p + 6) s)) _
      (head_stop mode s) (windows_stop (size_of kind) s k) (head_takes bytes)
      (λ z. let d = head_done mode s z in
      rw (d.0, ← e) (windows_as_machine (c₁ kind ks mode m s p) (size_of kind) (c₁_size kind ks mode m s p) s k n m (p + 6) d.1))

  -- all of them: the check byte is awaited at `at`
  abbrev at : ℕ
  at = after (count_at s p)

  abbrev all : List ℕ
  all = stored (count_at s p)

  all-taken : ((i : ℕ) → get_or s i 0 < 256)
      → Takes (run_of (run c₀ m more) (drop 0 s)) (head_stop mode s then windows_stop (size_of kind) s (count_at s p))
      (run_of (run (waits (c₁ kind ks mode m s p) 0 at) all more) (drop at s))
  all-taken bytes = windows-taken bytes (count_at s p) 0 (omega arith)

  stream-ends : ((i : ℕ) → get_or s i 0 < 256) → end_of (run_of (run c₀ m more) (drop 0 s)) ≡ ticked (stream_stop (size_of kind) mode s)
  unfolding stream_stop c₁
  stream-ends bytes =
      let e : Stop = head_stop mode s then windows_stop (size_of kind) s (count_at s p) in
      takes_ends (run_of (run c₀ m more) (drop 0 s)) (run_of (run (waits (c₁ kind ks mode m s p) 0 at) all more) (drop at s)) e (check_stop (control_at s p) s)
      (all-taken bytes)
      (λ z. let a = then_done (head_stop mode s) (windows_stop (size_of kind) s (count_at s p)) z in
      let d = head_done mode s a.0 in
      let f : e ≡ windows_stop (size_of kind) s (count_at s p) (p + 6) = a.1 ∙ rw d.0 in
      rw f (check-ends kind ks mode all s (control_at s p) at (windows-inside (size_of kind) s (count_at s p) (p + 6) d.1 (ap (λ (x : Stop). x.number) (sym f) ∙ z))))

  stream_accepts : ((i : ℕ) → get_or s i 0 < 256) → (stream_stop (size_of kind) mode s).number ≡ done
      → run_of (run c₀ m more) (drop 0 s) ≡ run (ended (waits (c₁ kind ks mode m s p) 0 at)) all done
  unfolding stream_stop c₁
  stream_accepts bytes z =
      let e : Stop = head_stop mode s then windows_stop (size_of kind) s (count_at s p) in
      let b = then_done e (check_stop (control_at s p) s) z in
      let a = then_done (head_stop mode s) (windows_stop (size_of kind) s (count_at s p)) b.0 in
      let d = head_done mode s a.0 in
      let f : e.taken ≡ at = ap (λ (x : Stop). x.taken) a.1 ∙ rw d.0 in
      (all-taken bytes).keeps_going b.0 ∙ check_accepts kind ks mode all s (control_at s p) at (rw f at b.2)

-- ---- all of it

size_fits : (k : ℕ) → size_of k ≤ 65535
size_fits k = omega (arith, size_most k)

-- what the machine makes of a stream, lent any memory m
abbrev pub machine_of : ℕ → List ℕ → ℕ → List ℕ → List ℕ → Run
machine_of kind ks mode m s = run_of (run (started_of kind ks mode) m more) s

module _ (kind : ℕ) (ks : List ℕ) (mode : ℕ) (m s : List ℕ) (bytes : (i : ℕ) → get_or s i 0 < 256) where
  pub stream_as_machine : stream_stop (size_of kind) mode s ≡ end_of (machine_of kind ks mode m s)
  unfolding c₀
  stream_as_machine =
      let l : (stream_stop (size_of kind) mode s).taken < 2 ^ 32 = small _ (stream-below (size_of kind) mode s (size_fits kind)) in
      sym (stream-ends kind ks mode m s bytes ∙ ap (λ (t : ℕ). stop (stream_stop (size_of kind) mode s).number t) (mod-eq_of_lt l))
    where
      small : (t : ℕ) → t ≤ 16712708 → t < 2 ^ 32
      small t h = omega arith

  -- and where it is accepted, the data of its windows are stored in their order, and the control byte is loaded
  pub stream_stores : (stream_stop (size_of kind) mode s).number ≡ done
      → ((machine_of kind ks mode m s).memory ≡ stored_all s 0 m (windows_of (size_of kind) s (count_at s (preamble_at mode)) (preamble_at mode + 6)))
      × ((machine_of kind ks mode m s).chain.registers ≡ control_at s (preamble_at mode) ∷ replicate 7 0)
  unfolding c₀ c₁ waits
  stream_stores z =
      let a = stream_accepts kind ks mode m s bytes z in
      (ap (λ (x : Run). x.memory) a, ap (λ (x : Run). x.chain.registers) a)

  -- where the head and the first k windows are whole, n more are left at the byte after them
  pub stream_stands : (k n at : ℕ) → k + n ≡ count_at s (preamble_at mode) → (head_stop mode s).number ≡ done
      → windows_stop (size_of kind) s k (preamble_at mode + 6) ≡ stop done at
      → machine_of kind ks mode m s
      ≡ run_of
      (run (waits (loaded kind ks mode (control_at s (preamble_at mode))) n at) (stored_all s 0 m (windows_of (size_of kind) s k (preamble_at mode + 6))) more)
      (drop at s)
  unfolding c₀ c₁
  stream_stands k n at all z whole =
      let d = head_done mode s z in
      rw (ap (λ (e : Stop). e.taken) whole) at ((windows-taken kind ks mode m s bytes k n all).keeps_going (rw (d.0, whole)))
