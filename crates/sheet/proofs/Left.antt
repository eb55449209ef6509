-- A stream leaves the device with no run open, ready for the next one. Its closing bytes change nothing: the device is as the stream's own bytes leave it. Assumes
-- nothing.
use Prim.Native.Nat.{ℕ, zero, suc}
use mathlib.Core.Bool.{true, false}
use mathlib.Core.Logic.{◌≢◌}
use mathlib.Core.Path.{◌≡◌, refl, ap, sym, ◌∙◌}
use mathlib.Core.List.{List, ◌∷◌}
use native.Mathlib.Nat.{add-zero}
use native.Mathlib.Omega.{arith}
use lib.Dec.{lit<}
use lib.ListN.{length, replicate, length-replicate}
use borrow.Author.Tests.{eq-eqb, ne_eqb, le-ltb}
use Rattle.chain.specs.declared.Chain.{Chain}
use Rattle.chain.specs.Paper.{first_mode, two_preambles, most_devices, most_memory, writing, done, more}
use Rattle.chain.specs.Rules.{from}
use Rattle.chain.specs.Set.{with_place, closed_place}
use Rattle.chain.specs.Kinds.{size_of, base_of, known_of}
use Rattle.chain.specs.Bytes.{Bytes}
use Rattle.chain.specs.State.{is_bad_chain, unused_zero, is_ill_formed, state_number, feed_number}
use Rattle.chain.specs.Calls.{first_only, fresh_chain}
use Rattle.chain.proofs.Sizes.{size_most}
use Rattle.chain.proofs.ByCases.{by_test, by_eq}
use Rattle.chain.proofs.Sound.{feed_closed}
use Rattle.machine.specs.Run.{Run, run, run_of}
use Rattle.machine.specs.Calls.{start_of, opened_place, fed_of, slice_of}
use Rattle.machine.proofs.Starts.{start_passes}
use Rattle.machine.proofs.Runs.{run_lasts}
use Rattle.closing.specs.Closing.{closing_bytes}
use Rattle.closing.proofs.Closes.{slice_closes}
use Rattle.grammar.proofs.Runs.Started.{opened_feeds}
use Rattle.grammar.proofs.Runs.Keeps.{run_open, run-closed}
use Rattle.grammar.proofs.Runs.Slices.{slice_runs, fed-over}
use Rattle.sheet.specs.Stream.{Device, device, reset_device, hunt_fails, bytes_of_stream, started, load_of, closed_run, left_by}
use Rattle.sheet.specs.Steps.{Ready}
use Rattle.sheet.proofs.Bounds.{fed-bytes, memory_bytes}

-- a device between two streams
pub record Idle (d : Device) : Type 0 where
  pub ready : Ready d.chain (length d.memory)
  pub bytes : Bytes d.memory

-- ---- the run that a stream is fed into

module _ (d : Device) (mode : ℕ) (i : Idle d) (m : from first_mode two_preambles mode ≡ true) where
  pub started_is : started d mode ≡ with_place d.chain (opened_place mode writing)
  unfolding start_of
  started_is =
      rw (start_passes d.chain (length d.memory) mode i.ready.usable, m, i.ready.closed)

  pub started_feeds : feed_number (started d mode) (length d.memory) ≡ done
  started_feeds = rw started_is (opened_feeds d.chain (length d.memory) mode writing i.ready.usable m)

  pub started-kinds : length (started d mode).kinds ≡ most_devices
  started-kinds = rw started_is i.ready.kinds

  pub started-registers : length (started d mode).registers ≡ most_devices
  started-registers = rw started_is i.ready.registers

-- ---- a run closed

-- the device, its run closed
abbrev pub device_of : Run → Device
device_of r = device (with_place r.chain closed_place) r.memory

module _ (r : Run) (k : length r.chain.kinds ≡ most_devices) where
  closed-more : r.number ≡ more → feed_number r.chain (length r.memory) ≡ done
      → device (fed_of (closed_run r)).chain (closed_run r).memory ≡ device_of r
  closed-more n h =
      let bs = closing_bytes r.chain r.memory in
      let s = slice_runs r.chain r.memory bs h in
      let c = slice_closes r.chain r.memory k h in
      let f : fed_of (run_of (run r.chain r.memory more) bs) ≡ slice_of r.chain r.memory bs = sym s.0 in
      let g : (run_of (run r.chain r.memory more) bs).memory ≡ r.memory = sym s.1 ∙ c.memory in
      let e : closed_run r ≡ run_of (run r.chain r.memory more) bs = rw n in
      rw (e, f, g, c.fed)

  closed-over : (r.number ≡ more → ⊥) → device (fed_of (closed_run r)).chain (closed_run r).memory ≡ device_of r
  closed-over n =
      let e : closed_run r ≡ r = rw (ne_eqb r.number more n) in
      rw (e, fed-over r n)

-- ---- what a stream leaves

module _ (d : Device) (mode : ℕ) (s : List ℕ) (i : Idle d) (m : from first_mode two_preambles mode ≡ true) (u : Bytes s) where
  abbrev bytes : List ℕ
  bytes = bytes_of_stream mode s

  pub left-loaded : hunt_fails mode s ≡ false → left_by d mode s ≡ device_of (load_of d mode s)
  unfolding left_by load_of
  left-loaded f =
      let r : Run = run_of (run (started d mode) d.memory more) bytes in
      let l = run_lasts bytes (run (started d mode) d.memory more) in
      let k : length r.chain.kinds ≡ most_devices = ap length l.kinds ∙ started-kinds d mode i m in
      rw f
      (by_eq r.number more
      (λ n.
      closed-more r k n
      (run_open (started d mode) d.memory bytes (fed-bytes mode s u) (started-registers d mode i m) (started_feeds d mode i m) n))
      (λ n. closed-over r k n))

  pub left-unfound : hunt_fails mode s ≡ true → left_by d mode s ≡ d
  unfolding left_by
  left-unfound f = rw f

  loaded-idle : Idle (device_of (load_of d mode s))
  unfolding load_of
  loaded-idle =
      let r : Run = run_of (run (started d mode) d.memory more) bytes in
      let l = run_lasts bytes (run (started d mode) d.memory more) in
      let b = fed-bytes mode s u in
      let g = started-registers d mode i m in
      let h = started_feeds d mode i m in
      record {
        ready =
            record {
              one = l.count ∙ ap (λ (c : Chain). c.count) (started_is d mode i m) ∙ i.ready.one;
              kinds = ap length l.kinds ∙ started-kinds d mode i m;
              registers = l.registers ∙ g;
              closed = refl;
              usable =
                  by_eq r.number more
                  (λ n. feed_closed r.chain (length r.memory) (run_open (started d mode) d.memory bytes b g h n))
                  (λ n. run-closed (started d mode) d.memory bytes b g h n);
            };
        bytes = memory_bytes (started d mode) d.memory bytes b i.bytes;
      }

  pub left-idle : Idle (left_by d mode s)
  left-idle =
      by_test (hunt_fails mode s) (λ e. rw (left-unfound e) i) (λ e. rw (left-loaded e) loaded-idle)

  -- and the memory is as large as it was
  pub left-size : length (left_by d mode s).memory ≡ length d.memory
  left-size =
      by_test (hunt_fails mode s) (λ e. rw (left-unfound e))
      (λ e. ap (λ (x : Device). length x.memory) (left-loaded e) ∙ loaded-size)
    where
      loaded-size : length (load_of d mode s).memory ≡ length d.memory
      loaded-size = unfold load_of in (run_lasts bytes (run (started d mode) d.memory more)).memory

-- ---- one reset device of a known kind

zero-bytes : (n : ℕ) → Bytes (replicate n 0)
zero-bytes zero = tt
zero-bytes (suc n) = (lit< tt, zero-bytes n)

module _ (kind : ℕ) (known : size_of kind ≢ 0) where
  pub good_chain : is_bad_chain 1 (kind ∷ replicate 7 0) (size_of kind) ≡ false
  unfolding is_bad_chain known_of base_of
  good_chain =
      rw (
        ne_eqb (size_of kind) 0 known,
        add-zero (size_of kind),
        le-ltb most_memory (size_of kind) (omega (arith, size_most kind)),
        eq-eqb (size_of kind) (size_of kind) refl,
      )

  formed : is_ill_formed (fresh_chain 1 (kind ∷ replicate 7 0)) ≡ false
  unfolding is_ill_formed unused_zero first_only
  formed = refl

  kept : first_only 1 (kind ∷ replicate 7 0) ≡ kind ∷ replicate 7 0
  unfolding first_only
  kept = refl

  usable_reset : state_number (fresh_chain 1 (kind ∷ replicate 7 0)) (length {A = ℕ} (replicate (size_of kind) 0)) ≡ done
  unfolding state_number
  usable_reset = rw (formed, kept, length-replicate {A = ℕ} (size_of kind) 0, good_chain)

  pub reset_idle : Idle (reset_device kind)
  reset_idle =
      record {
        ready = record { one = refl; kinds = ap length kept; registers = refl; closed = refl; usable = usable_reset };
        bytes = zero-bytes (size_of kind);
      }
