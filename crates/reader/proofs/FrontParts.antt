-- A front part of a stream is read as the stream is, as far as it goes. The machine fed only that part: after whole windows it stands between windows, and
-- where the next is not whole it never does so later. Assumes nothing.
use Prim.Native.Nat.{ℕ, zero, suc, ◌+◌, ◌≤◌, ◌<◌}
use mathlib.Core.Path.{◌≡◌, refl, sym, ap, ◌∙◌}
use mathlib.Core.List.{List}
use native.Mathlib.Omega.{arith}
use borrow.Author.Tests.{lt-ltb, le-ltb}
use lib.ListN.{length, take, drop}
use lib.Seq.{get_or-take, length-take-le}
use Rattle.chain.proofs.Bytes.{bytes-at, bytes_take}
use Rattle.chain.specs.declared.Chain.{Chain}
use Rattle.chain.specs.Paper.{done, more}
use Rattle.chain.specs.Kinds.{size_of}
use Rattle.chain.specs.Bytes.{Bytes}
use Rattle.chain.specs.Calls.{first_only}
use Rattle.machine.specs.Run.{Run, run, run_of}
use Rattle.machine.proofs.Feed.{run_end}
use Rattle.reader.specs.Stops.{Stop, stop}
use Rattle.reader.specs.Windows.{start_at, end_at, next_at, window_stop, windows_stop, windows_of}
use Rattle.reader.specs.Stream.{preamble_at, control_at, count_at, head_stop}
use Rattle.reader.proofs.Windows.{Whole, is_whole, whole, windows-next, windows_forward}
use Rattle.reader.proofs.Runs.{waits, Between, waits-between, Within, window-within, stored_all}
use Rattle.reader.proofs.AsMachine.{loaded, check_is, machine_of, stream_stands}

-- ---- the reading

module _ (s : List ℕ) (j : ℕ) (j-in : j ≤ length s) where
  abbrev front : List ℕ
  front = take j s

  front_length : length front ≡ j
  front_length = length-take-le j s j-in

  front-head : (mode : ℕ) → preamble_at mode + 6 ≤ j → head_stop mode front ≡ head_stop mode s
  unfolding head_stop
  front-head mode h =
      rw (
        front_length,
        get_or-take j s 0 0 (omega arith),
        get_or-take j s 1 0 (omega arith),
        lt-ltb 0 j (omega arith),
        lt-ltb 1 j (omega arith),
        le-ltb j (preamble_at mode + 6) h,
        lt-ltb 0 (length s) (omega arith),
        lt-ltb 1 (length s) (omega arith),
        le-ltb (length s) (preamble_at mode + 6) (omega arith),
      )

  module _ (size at : ℕ) where
    front-start : at + 5 ≤ j → start_at front at ≡ start_at s at
    front-start h = rw (get_or-take j s (at + 1) 0 (omega arith), get_or-take j s (at + 2) 0 (omega arith))

    front-end : at + 5 ≤ j → end_at front at ≡ end_at s at
    front-end h = rw (get_or-take j s (at + 3) 0 (omega arith), get_or-take j s (at + 4) 0 (omega arith))

    -- a window that is whole in the stream and ends in the front part is whole there
    front-window : Whole size s at → next_at s at ≤ j → window_stop size front at ≡ stop done (next_at s at)
    front-window w h =
        let a = front-start (omega arith) in
        let b = front-end (omega arith) in
        let n : next_at front at ≡ next_at s at = rw (a, b) in
        whole size front at (rw a w.start-inside) (rw (a, b) w.in_order) (rw b w.end-inside) (rw (n, front_length) h)
        ∙ ap (λ (t : ℕ). stop done t) n

    -- and one that is whole in the front part is whole in the stream
    window-front : (window_stop size front at).number ≡ done → (window_stop size s at).number ≡ done
    window-front z =
        let w = is_whole size front at z in
        let l = front_length in
        let h : at + 5 ≤ j = omega (arith, w.all_there) in
        let a = front-start h in
        let b = front-end h in
        let n : next_at front at ≡ next_at s at = rw (a, b) in
        ap (λ (e : Stop). e.number)
        (whole size s at (rw a at w.start-inside) (rw (a, b) at w.in_order) (rw b at w.end-inside) (omega (arith, w.all_there)))

  front-windows : (size k at : ℕ) → (windows_stop size s k at).number ≡ done → (windows_stop size s k at).taken ≤ j
      → windows_stop size front k at ≡ windows_stop size s k at
  unfolding windows_stop
  front-windows size zero at z h = refl
  front-windows size (suc k) at z h =
      let w = windows-next size s k at z in
      let y = rw w.1 at z in
      let g = rw w.1 at h in
      let f = front-window size at w.0 (omega (arith, windows_forward size s k (next_at s at) y)) in
      rw f (front-windows size k (next_at s at) y g ∙ sym w.1)

-- ---- the machine

-- n windows are left at `at`, and at least one byte: the check byte ends the run, and after bytes of a window that is not whole it has ended or stands within it
module _ (kind : ℕ) (ks : List ℕ) (mode control : ℕ) (m s : List ℕ) (at : ℕ) (l : at < length s) where
  abbrev on : ℕ → Run
  on n = run_of (run (waits (loaded kind ks mode control) n at) m more) (drop at s)

  on-within : (n : ℕ) → (0 < n → (window_stop (size_of kind) s at).number ≡ done → ⊥) → (on n).number ≡ more → Within n (on n).chain.place
  unfolding first_only
  on-within zero z h = absurd ((check_is kind ks mode m s control at l).2 h)
  on-within (suc n) z h = window-within (loaded kind ks mode control) (size_of kind) refl m s n at l (z (omega arith)) h

-- the head and the first k windows of s are whole, and n more are left at the byte after them
module _ (kind : ℕ) (ks : List ℕ) (mode : ℕ) (m s : List ℕ) (small : Bytes s) (k n at : ℕ) (all : k + n ≡ count_at s (preamble_at mode))
    (head : (head_stop mode s).number ≡ done) (read : windows_stop (size_of kind) s k (preamble_at mode + 6) ≡ stop done at) where
  -- the machine's run of a front part
  abbrev fed : ℕ → Run
  fed j = machine_of kind ks mode m (take j s)

  abbrev standing : ℕ → Chain
  standing j = waits (loaded kind ks mode (control_at (take j s) (preamble_at mode))) n at

  abbrev stored : ℕ → List ℕ
  stored j = stored_all (take j s) 0 m (windows_of (size_of kind) (take j s) k (preamble_at mode + 6))

  front_stands : (j : ℕ) → at ≤ j → j ≤ length s → fed j ≡ run_of (run (standing j) (stored j) more) (drop at (take j s))
  front_stands j g l =
      let z = ap (λ (e : Stop). e.number) read in
      let f : preamble_at mode + 6 ≤ at = omega (arith, windows_forward (size_of kind) s k (preamble_at mode + 6) z, ap (λ (e : Stop). e.taken) read) in
      let c : count_at (take j s) (preamble_at mode) ≡ count_at s (preamble_at mode) = rw (get_or-take j s (preamble_at mode + 5) 0 (omega arith)) in
      stream_stands kind ks mode m (take j s) (bytes-at (take j s) (bytes_take j s small)) k n at (all ∙ sym c)
      (ap (λ (e : Stop). e.number) (front-head s j l mode (omega arith)) ∙ head)
      (front-windows s j l (size_of kind) k (preamble_at mode + 6) z (omega (arith, ap (λ (e : Stop). e.taken) read)) ∙ read)

  -- right after them the run is open, and stands between windows
  pub front-between : at ≤ length s → ((fed at).number ≡ more) × Between n (fed at).chain.place
  front-between l =
      let e : fed at ≡ run (standing at) (stored at) more =
      front_stands at (omega arith) l ∙ run_end (standing at) (stored at) (take at s) at (omega (arith, front_length s at l)) in
      rw e (refl, waits-between (loaded kind ks mode (control_at (take at s) (preamble_at mode))) n at)

  -- later, if the next window is not whole, it has ended, or stands within that window
  pub front-within : (0 < n → (window_stop (size_of kind) s at).number ≡ done → ⊥) → (j : ℕ) → at < j → j ≤ length s → (fed j).number ≡ more
      → Within n (fed j).chain.place
  front-within broken j g l h =
      let e = front_stands j (omega arith) l in
      let x = front_length s j l in
      rw e
      (on-within kind ks mode (control_at (take j s) (preamble_at mode)) (stored j) (take j s) at (omega arith) n
      (λ y z. broken y (window-front s j l (size_of kind) at z)) (ap (λ (r : Run). r.number) (sym e) ∙ h))
