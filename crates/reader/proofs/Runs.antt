-- Windows as the machine takes them, in a write of any chain: the run stops where the reading stops, or goes on after it. Assumes nothing.
use Prim.Native.Nat.{ℕ, zero, suc, ◌+◌, ◌-◌, ◌*◌, ◌/◌, ◌%◌, ◌^◌, ◌≤◌, ◌<◌}
use mathlib.Core.Bool.{false, and-false}
use mathlib.Core.Path.{◌≡◌, refl, sym, ap, ◌∙◌}
use mathlib.Core.List.{List, [], ◌∷◌}
use native.Mathlib.Omega.{arith}
use native.Mathlib.Nat.{mod-add-mod, mul-div_left}
use borrow.Author.Tests.{lt-ltb, le-ltb, le-leb, lt-leb, ltb-false, leb-true, leb-false, eqb-true, eqb-false}
use lib.Dec.{eqb, ltb, leb, eqb-suc-zero, lit<}
use lib.ListN.{length, get_or, take, drop, length-drop}
use lib.Seq.{sets, length-take-le}
use Rattle.chain.proofs.ByCases.{by_test}
use Rattle.chain.specs.declared.Chain.{Chain}
use Rattle.chain.specs.declared.Place.{Place}
use Rattle.chain.specs.Paper.{at_null, at_start, at_start_low, at_end, at_end_low, at_data, at_check, opened, writing, done, bad_start, bad_end, more}
use Rattle.chain.specs.Rules.{pick}
use Rattle.chain.specs.Set.{with_running, with_check, with_awaited, with_left, with_start, with_end, with_next, with_taken, with_mismatches, with_place}
use Rattle.chain.specs.Kinds.{base_of, size_here}
use Rattle.chain.specs.Window.{width_of}
use Rattle.awaited.specs.Byte.{number_of, advance_of, passed_of}
use Rattle.machine.specs.Run.{Run, run, address_of, memory_of, registers_of, missed_of, ended, step_of, run_of}
use Rattle.machine.specs.Block.{misses_of, laid_of}
use Rattle.machine.proofs.Feed.{run_at, run_end, run-over, run_part}
use Rattle.machine.proofs.Block.{block, block_of}
use Rattle.reader.specs.Stops.{Stop, stop, ◌then◌}
use Rattle.reader.specs.Windows.{ReadWindow, start_at, end_at, next_at, window_stop, read_window_of, windows_stop, windows_of}
use Rattle.reader.proofs.Windows.{ways, is_whole, whole-next}

-- ---- any run

-- bytes taken, as the machine counts them
abbrev pub tick : ℕ → ℕ
tick n = n % 2 ^ 32

pub inc : (n : ℕ) → (n % 2 ^ 32 + 1) % 2 ^ 32 ≡ (n + 1) % 2 ^ 32
inc n = mod-add-mod n (2 ^ 32) 1

-- where a run came to
abbrev pub end_of : Run → Stop
end_of r = stop r.number r.chain.place.taken

abbrev pub ticked : Stop → Stop
ticked e = stop e.number (tick e.taken)

-- the run x, of a stream that is read up to e: it stops where the reading does, or, that being whole, it is the run y
pub record Takes (x : Run) (e : Stop) (y : Run) : Type 0 where
  pub keeps_going : e.number ≡ done → x ≡ y
  pub stops : (e.number ≡ done → ⊥) → end_of x ≡ ticked e

pub takes_whole : {x y : Run} {t : ℕ} → x ≡ y → Takes x (stop done t) y
takes_whole h = record { keeps_going = λ z. h; stops = λ z. absurd (z refl) }

pub takes_stop : {x y : Run} {n t : ℕ} → eqb n done ≡ false → end_of x ≡ stop n (tick t) → Takes x (stop n t) y
takes_stop {n = n} q h = record { keeps_going = λ z. absurd (eqb-false n done q z); stops = λ z. h }

-- and what is read after it
pub takes_ends : (x y : Run) (e : Stop) (f : ℕ → Stop) → Takes x e y → (e.number ≡ done → end_of y ≡ ticked (f e.taken)) → end_of x ≡ ticked (e then f)
takes_ends x y e f t k =
    by_test (eqb e.number done)
    (λ q. let z : e.number ≡ done = eqb-true e.number done q in
    rw q (ap end_of (t.keeps_going z) ∙ k z))
    (λ q. rw q (t.stops (eqb-false e.number done q)))

pub takes_then : (x y z : Run) (e : Stop) (f : ℕ → Stop) → Takes x e y → (e.number ≡ done → Takes y (f e.taken) z) → Takes x (e then f) z
takes_then x y z e f t k =
    by_test (eqb e.number done)
    (λ q. let a : e.number ≡ done = eqb-true e.number done q in
    rw q (record { keeps_going = λ b. t.keeps_going a ∙ (k a).keeps_going b; stops = λ b. ap end_of (t.keeps_going a) ∙ (k a).stops b }))
    (λ q. rw q (record { keeps_going = λ b. absurd (eqb-false e.number done q b); stops = t.stops }))

-- the byte at `at` ends the run
pub run_ends : (c : Chain) (m s : List ℕ) (at n : ℕ) → at < length s → number_of c (get_or s at 0) ≡ n → eqb n more ≡ false
    → run_of (run c m more) (drop at s) ≡ run (ended c) m n
unfolding step_of
run_ends c m s at n h e z =
    run_at c m s at h ∙ rw (e, z) (run-over (drop (at + 1) s) (run (ended c) m n) (eqb-false n more z))

-- bytes that leave memory as it is, from `at` on: cs i is the chain after i of them
module _ (m s : List ℕ) (cs : ℕ → Chain) (at : ℕ) where
  pub run_on : (k : ℕ) → ((i : ℕ) → i < k → step_of (cs i) m (get_or s (at + i) 0) ≡ run (cs (i + 1)) m more) → at + k ≤ length s
      → run_of (run (cs 0) m more) (drop at s) ≡ run_of (run (cs k) m more) (drop (at + k) s)
  run_on zero h g =
      let e : at + 0 ≡ at = omega arith in
      rw e
  run_on (suc k) h g =
      let e : suc k ≡ k + 1 = omega arith in
      let f : at + (k + 1) ≡ at + k + 1 = omega arith in
      run_on k (λ i l. h i (omega arith)) (omega arith) ∙ run_at (cs k) m s (at + k) (omega arith) ∙ rw (h k (omega arith), e, f)

  -- the slice is used up within them
  pub run_dry : ((i : ℕ) → at + i < length s → step_of (cs i) m (get_or s (at + i) 0) ≡ run (cs (i + 1)) m more) → at ≤ length s
      → run_of (run (cs 0) m more) (drop at s) ≡ run (cs (length s - at)) m more
  run_dry h g =
      run_on (length s - at) (λ i l. h i (omega arith)) (omega arith) ∙ run_end (cs (length s - at)) m s (at + (length s - at)) (omega arith)

-- ---- a write of any chain, within a device

abbrev pub in_write : Chain → ℕ → ℕ → ℕ → ℕ → ℕ → ℕ → Chain
in_write c awaited left start end next taken =
    let p = with_mismatches (with_check (with_running c.place opened) writing) 0 in
    with_place c (with_taken (with_next (with_end (with_start (with_left (with_awaited p awaited) left) start) end) next) taken)

-- n windows are left, and the byte at `at` is awaited: a null byte, or the check byte
unfoldable pub waits : Chain → ℕ → ℕ → Chain
waits c zero at = in_write c at_check 0 0 0 0 (tick at)
waits c (suc n) at = in_write c at_null (suc n) 0 0 0 (tick at)

-- so many are left, and a null byte is awaited, or the check byte
pub record Between (n : ℕ) (p : Place) : Type 0 where
  pub awaits : p.awaited ≡ pick (eqb n 0) at_check at_null
  pub left : p.left ≡ n

pub waits-between : (c : Chain) (n at : ℕ) → Between n (waits c n at).place
unfolding waits
waits-between c zero at = record { awaits = refl; left = refl }
waits-between c (suc n) at = record { awaits = rw (eqb-suc-zero n); left = refl }

-- so many are left, and of the first of them a byte is awaited that is not its null byte
pub record Within (n : ℕ) (p : Place) : Type 0 where
  pub past_null : at_start ≤ p.awaited
  pub in_window : p.awaited ≤ at_data
  pub left : p.left ≡ n

-- the stream s was used up before the end of its window at `at`, which is one of n: the run r goes on there
record UsedUp (s : List ℕ) (n at : ℕ) (r : Run) : Type 0 where
  ends : end_of r ≡ stop more (tick (length s))
  within : at < length s → Within n r.chain.place

cut : (a : ℕ) → a * 256 / 256 ≡ a
cut a = mul-div_left a (lit< {m = 0} {n = 256} tt)

-- the chain after i bytes of a window whose null byte stands at `at`, up to its first data byte
shape : Chain → List ℕ → ℕ → ℕ → ℕ → ℕ → Chain
shape c s n at zero = in_write c at_null (suc n) 0 0 0
shape c s n at (suc zero) = in_write c at_start (suc n) 0 0 0
shape c s n at (suc (suc zero)) = in_write c at_start_low (suc n) (get_or s (at + 1) 0 * 256) 0 0
shape c s n at (suc (suc (suc zero))) = in_write c at_end (suc n) (start_at s at) 0 0
shape c s n at (suc (suc (suc (suc zero)))) = in_write c at_end_low (suc n) (start_at s at) (get_or s (at + 3) 0 * 256) 0
shape c s n at (suc (suc (suc (suc (suc i))))) = in_write c at_data (suc n) (start_at s at) (end_at s at) (start_at s at)

module _ (c : Chain) (size : ℕ) (sz : size_here c ≡ size) (m s : List ℕ) (n at : ℕ) where
  w : ℕ → Chain
  unfolding shape
  w i = shape c s n at i (tick (at + i))

  -- where it stands after i bytes
  record Reached (i : ℕ) : Type 0 where
    taken : (w i).place.taken ≡ tick (at + i)
    awaited : i ≤ 5 → (w i).place.awaited ≡ at_null + i
    left : (w i).place.left ≡ suc n

  reached : (i : ℕ) → Reached i
  unfolding w shape
  reached zero = record { taken = refl; awaited = λ l. refl; left = refl }
  reached (suc zero) = record { taken = refl; awaited = λ l. refl; left = refl }
  reached (suc (suc zero)) = record { taken = refl; awaited = λ l. refl; left = refl }
  reached (suc (suc (suc zero))) = record { taken = refl; awaited = λ l. refl; left = refl }
  reached (suc (suc (suc (suc zero)))) = record { taken = refl; awaited = λ l. refl; left = refl }
  reached (suc (suc (suc (suc (suc i))))) = record { taken = refl; awaited = λ l. omega arith; left = refl }

  w_step : (i : ℕ) → i < 5 → (2 ≤ i → start_at s at < size) → (4 ≤ i → (start_at s at ≤ end_at s at) × (end_at s at < size))
      → step_of (w i) m (get_or s (at + i) 0) ≡ run (w (i + 1)) m more
  unfolding w shape step_of number_of advance_of registers_of memory_of missed_of
  w_step zero l f g =
      let e : at + 0 + 1 ≡ at + 1 = omega arith in
      simp (and-false, inc (at + 0), e)
  w_step (suc zero) l f g =
      let e : at + 1 + 1 ≡ at + 2 = omega arith in
      simp (and-false, inc (at + 1), e)
  w_step (suc (suc zero)) l f g =
      let e : at + 2 + 1 ≡ at + 3 = omega arith in
      simp (and-false, cut (get_or s (at + 1) 0), sz, lt-ltb (start_at s at) size (f (omega arith)), inc (at + 2), e)
  w_step (suc (suc (suc zero))) l f g =
      let e : at + 3 + 1 ≡ at + 4 = omega arith in
      simp (and-false, inc (at + 3), e)
  w_step (suc (suc (suc (suc zero)))) l f g =
      let e : at + 4 + 1 ≡ at + 5 = omega arith in
      let h = g (omega arith) in
      simp (and-false, cut (get_or s (at + 3) 0), sz, le-ltb (end_at s at) (start_at s at) h.0, lt-ltb (end_at s at) size h.1, inc (at + 4), e)
  w_step (suc (suc (suc (suc (suc i))))) l f g = absurd (omega (arith, l))

  w-first : waits c (suc n) at ≡ w 0
  unfolding waits w shape
  w-first =
      let e : at + 0 ≡ at = omega arith in
      rw e

  number_11 : size ≤ start_at s at → number_of (w 2) (get_or s (at + 2) 0) ≡ bad_start
  unfolding w shape number_of
  number_11 h = simp (and-false, cut (get_or s (at + 1) 0), sz, le-ltb (start_at s at) size h)

  number_12 : (start_at s at ≤ end_at s at → size ≤ end_at s at) → number_of (w 4) (get_or s (at + 4) 0) ≡ bad_end
  unfolding w shape number_of
  number_12 h =
      by_test (ltb (end_at s at) (start_at s at)) (λ y. simp (and-false, cut (get_or s (at + 3) 0), sz, y))
      (λ y. simp (and-false, cut (get_or s (at + 3) 0), sz, y, le-ltb (end_at s at) size (h (ltb-false (end_at s at) (start_at s at) y))))

  -- the chain after some of its data bytes: on in the window, or after it
  block_within : (bs : List ℕ) → start_at s at + length bs ≤ end_at s at → (i : ℕ)
      → block_of (w 5) m i bs ≡ in_write c at_data (suc n) (start_at s at) (end_at s at) (start_at s at + length bs) (tick (at + 5 + length bs))
  unfolding w shape passed_of misses_of
  block_within bs h i = rw (le-leb (start_at s at + length bs) (end_at s at) h, mod-add-mod (at + 5) (2 ^ 32) (length bs))

  block-after : (bs : List ℕ) → length bs ≡ width_of (start_at s at) (end_at s at) → start_at s at ≤ end_at s at → (i : ℕ)
      → block_of (w 5) m i bs ≡ waits c n (next_at s at)
  unfolding w shape passed_of misses_of waits
  block-after bs e h i =
      rw (e, lt-leb (start_at s at + (width_of (start_at s at) (end_at s at))) (end_at s at) (omega arith), mod-add-mod (at + 5) (2 ^ 32) (width_of (start_at s at) (end_at s at)))
      (last n)
    where
      last : (n : ℕ)
          → with_place c (pick (ltb 1 (suc n)) (in_write c at_null (suc n - 1) 0 0 0 (tick (next_at s at))).place (in_write c at_check 0 0 0 0 (tick (next_at s at))).place)
          ≡ waits c n (next_at s at)
      last zero = refl
      last (suc n) =
          let o : suc (suc n) - 1 ≡ suc n = omega arith in
          rw (lt-ltb 1 (suc (suc n)) (omega arith), o)

  -- the run after the window, its data stored
  abbrev after : Run
  after =
      run_of (run (waits c n (next_at s at)) (sets m (base_of c.kinds c.place.device + start_at s at) (take (width_of (start_at s at) (end_at s at)) (drop (at + 5) s))) more)
      (drop (next_at s at) s)

  data_on : start_at s at ≤ end_at s at → next_at s at ≤ length s → run_of (run (w 5) m more) (drop (at + 5) s) ≡ after
  unfolding w shape laid_of address_of
  data_on o l =
      let k : ℕ = width_of (start_at s at) (end_at s at) in
      let z : at + 5 + k - (at + 5) ≡ k = omega arith in
      let e : length (take k (drop (at + 5) s)) ≡ k = length-take-le k (drop (at + 5) s) (omega (arith, length-drop (at + 5) s)) in
      run_part (w 5) m s (at + 5) k _ (rw z (block (take k (drop (at + 5) s)) (w 5) m refl (omega arith) (omega arith)))
      ∙ ap (λ (d : Chain). run_of (run d (sets m (base_of c.kinds c.place.device + start_at s at) (take k (drop (at + 5) s))) more) (drop (next_at s at) s))
      (block-after (take k (drop (at + 5) s)) e o (address_of (w 5)))

  data_dry : start_at s at ≤ end_at s at → at + 5 ≤ length s → length s < next_at s at → UsedUp s (suc n) at (run_of (run (w 5) m more) (drop (at + 5) s))
  unfolding w shape
  data_dry o g h =
      let e : length (drop (at + 5) s) ≡ length s - (at + 5) = length-drop (at + 5) s in
      by_test (leb (length s) (at + 5))
      (λ y. let q : at + 5 ≡ length s = omega (arith, leb-true (length s) (at + 5) y) in
      rw (run_end (w 5) m s (at + 5) (leb-true (length s) (at + 5) y))
      (record { ends = ap (λ (t : ℕ). stop more (tick t)) q; within = λ l. record { past_null = omega arith; in_window = omega arith; left = refl } }))
      (λ y. let q = leb-false (length s) (at + 5) y in
      let x : at + 5 + length (drop (at + 5) s) ≡ length s = omega arith in
      rw (block (drop (at + 5) s) (w 5) m refl (omega arith) (omega arith), block_within (drop (at + 5) s) (omega arith) (address_of (w 5)))
      (record { ends = ap (λ (t : ℕ). stop more (tick t)) x; within = λ l. record { past_null = omega arith; in_window = omega arith; left = refl } }))

  -- the run from its null byte on
  abbrev through : Run
  through = run_of (run (waits c (suc n) at) m more) (drop at s)

  from_first : through ≡ run_of (run (w 0) m more) (drop at s)
  from_first = ap (λ (d : Chain). run_of (run d m more) (drop at s)) w-first

  used_up : at ≤ length s → (at + 3 ≤ length s → start_at s at < size) → (at + 5 ≤ length s → (start_at s at ≤ end_at s at) × (end_at s at < size))
      → length s < next_at s at → UsedUp s (suc n) at through
  used_up g f o h =
      rw from_first
      (by_test (leb (at + 5) (length s))
      (λ y. let l : at + 5 ≤ length s = leb-true (at + 5) (length s) y in
      rw (run_on m s w at 5 (λ i j. w_step i j (λ q. f (omega arith)) (λ q. o l)) l) (data_dry (o l).0 l h))
      (λ y. let l : length s < at + 5 = leb-false (at + 5) (length s) y in
      let x : at + (length s - at) ≡ length s = omega arith in
      let r = reached (length s - at) in
      let a = r.awaited (omega arith) in
      rw (run_dry m s w at (λ i j. w_step i (omega arith) (λ q. f (omega arith)) (λ q. o (omega arith))) g)
      (record {
        ends = ap (λ (t : ℕ). stop more t) (r.taken ∙ ap tick x);
        within = λ k. record { past_null = omega arith; in_window = omega arith; left = r.left };
      })))

  -- one window: the run stops where its reading does, or goes on after it, its data stored
  window_takes : at ≤ length s → Takes through (window_stop size s at) after
  window_takes g =
      ways size s at (λ e. Takes through e after)
      (λ l b. let x : at + 2 + 1 ≡ at + 3 = omega arith in
      takes_stop refl
      (rw (from_first, run_on m s w at 2 (λ i j. w_step i (omega arith) (λ q. absurd (omega (arith, q, j))) (λ q. absurd (omega (arith, q, j)))) (omega arith))
      (ap end_of (run_ends (w 2) m s (at + 2) bad_start (omega arith) (number_11 b) refl) ∙ rw ((reached 2).taken, inc (at + 2), x))))
      (λ l a b. let x : at + 4 + 1 ≡ at + 5 = omega arith in
      takes_stop refl
      (rw (from_first, run_on m s w at 4 (λ i j. w_step i (omega arith) (λ q. a) (λ q. absurd (omega (arith, q, j)))) (omega arith))
      (ap end_of (run_ends (w 4) m s (at + 4) bad_end (omega arith) (number_12 b) refl) ∙ rw ((reached 4).taken, inc (at + 4), x))))
      (λ f o h. takes_stop refl (used_up g f o h).ends)
      (λ a b d l. takes_whole (from_first ∙ run_on m s w at 5 (λ i j. w_step i j (λ q. a) (λ q. (b, d))) (omega arith) ∙ data_on b l))

  -- a window that is not whole: if the run goes on, it stands within it
  pub window-within : at < length s → ((window_stop size s at).number ≡ done → ⊥) → through.number ≡ more → Within (suc n) through.chain.place
  window-within l z h =
      ways size s at (λ e. through.number ≡ e.number → (e.number ≡ done → ⊥) → Within (suc n) through.chain.place)
      (λ k b e y. absurd (omega (arith, sym h ∙ e))) (λ k a b e y. absurd (omega (arith, sym h ∙ e)))
      (λ f o k e y. (used_up (omega arith) f o k).within l) (λ a b d k e y. absurd (y refl))
      (ap (λ (x : Stop). x.number) ((window_takes (omega arith)).stops z)) z

-- ---- the same, as it is read

-- memory with the data bytes of a window stored, and of several, in order; base is where the device's memory begins
abbrev stored_of : List ℕ → ℕ → List ℕ → ReadWindow → List ℕ
stored_of s base m r = sets m (base + r.start) (take (width_of r.start r.end) (drop r.first s))

abbrev pub stored_all : List ℕ → ℕ → List ℕ → List ReadWindow → List ℕ
stored_all s base m [] = m
stored_all s base m (r ∷ rs) = stored_all s base (stored_of s base m r) rs

module _ (c : Chain) (size : ℕ) (sz : size_here c ≡ size) (s : List ℕ) where
  abbrev run_from : List ℕ → ℕ → ℕ → Run
  run_from m n at = run_of (run (waits c n at) m more) (drop at s)

  -- k windows, and n more that are left after them
  pub windows_as_machine : (k n : ℕ) (m : List ℕ) (at : ℕ) → at ≤ length s
      → Takes (run_from m (k + n) at) (windows_stop size s k at)
      (run_from (stored_all s (base_of c.kinds c.place.device) m (windows_of size s k at)) n (windows_stop size s k at).taken)
  unfolding windows_stop windows_of
  windows_as_machine zero n m at g =
      let o : 0 + n ≡ n = omega arith in
      rw o (takes_whole refl)
  windows_as_machine (suc k) n m at g =
      let o : suc k + n ≡ suc (k + n) = omega arith in
      let t = window_takes c size sz m s (k + n) at g in
      rw o
      (by_test (eqb (window_stop size s at).number done)
      (λ e. let z = eqb-true (window_stop size s at).number done e in
      let q = is_whole size s at z in
      let x : (window_stop size s at).taken ≡ next_at s at = whole-next size s at q in
      let u = windows_as_machine k n (stored_of s (base_of c.kinds c.place.device) m (read_window_of size s at)) (next_at s at) q.all_there in
      let v = t.keeps_going z ∙ rw q.reads in
      record { keeps_going = λ y. v ∙ u.keeps_going (rw (e, x) at y) ∙ rw (e, x); stops = λ y. ap end_of v ∙ u.stops (λ a. y (rw (e, x) a)) ∙ rw (e, x) })
      (λ e. let f = eqb-false (window_stop size s at).number done e in
      record { keeps_going = λ y. absurd (f (rw e at y)); stops = λ y. t.stops f ∙ rw e }))
