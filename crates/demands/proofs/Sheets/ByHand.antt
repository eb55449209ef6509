-- A stream loaded by hand: with our hunt, start, slice and closing it gives the row of the definition, and leaves the device as that has it. Assumes nothing.
use Prim.Native.Nat.{ℕ, ◌+◌, ◌*◌, ◌≤◌}
use mathlib.Core.Bool.{Bool, true, false, ◌&&◌, false≢true}
use mathlib.Core.Path.{◌≡◌, refl, ap, sym, ◌∙◌}
use mathlib.Core.List.{List}
use native.Mathlib.Omega.{arith}
use borrow.Author.Tests.{ne_eqb, le-ltb}
use lib.Dec.{eqb}
use lib.ListN.{length}
use lib.Seq.{take-append_seam}
use Rattle.chain.specs.Paper.{serial, first_mode, two_preambles, most_devices, done, no_preamble, more}
use Rattle.chain.specs.Rules.{pick, from}
use Rattle.chain.specs.Bytes.{Bytes}
use Rattle.chain.specs.State.{feed_number}
use Rattle.chain.proofs.ByCases.{by_test, by_eq}
use Rattle.chain.proofs.Sound.{feed_is_open}
use Rattle.machine.specs.Run.{Run, run}
use Rattle.machine.specs.Calls.{fed_of}
use Rattle.machine.proofs.Runs.{run_lasts}
use Rattle.closing.specs.Closing.{closing_bytes}
use Rattle.closing.specs.Calls.{written_number}
use Rattle.closing.proofs.Sound.{within}
use Rattle.closing.proofs.Closes.{slice_closes, room_enough}
use Rattle.hunt.specs.Hunt.{nowhere, found_at, hunted_bytes, hunt_number, hunt_of}
use Rattle.hunt.proofs.Answers.{hunted-count, done-figures, done-front}
use Rattle.grammar.proofs.Runs.Keeps.{run_open}
use Rattle.grammar.proofs.Runs.Slices.{slice_runs}
use Rattle.grammar.specs.Stores.{puts_of}
use Rattle.sheet.specs.Count.{cells_stored, bits_over}
use Rattle.sheet.specs.declared.Sheet.{Sheet}
use Rattle.sheet.specs.Stream.{Device, hunt_fails, bytes_of_stream, started, load_of, stores_of, shift_of, edges_per_byte, idle_edges, unfound_row, loaded_row, row_of, left_by}
use Rattle.sheet.proofs.Bounds.{fed-bytes}
use Rattle.sheet.proofs.Left.{Idle, device_of, started_feeds, started-kinds, started-registers, left-loaded, left-unfound}
use Rattle.demands.specs.Loader.{Loader, AfterSlice, offered, with_start, with_slice, with_closing, with_hunt, with_sheet}
use Rattle.demands.specs.LoadSheets.{unfound, bytes_in, by_hand, handed, kept_of, hand_leaves, hand_edges, failed_row, hand_row}
use Rattle.demands.specs.Ours.{ours}

-- a loader with our calls
abbrev pub lending : Loader → Loader
lending l =
    with_sheet (with_hunt (with_closing (with_slice (with_start l ours.start) ours.slice) ours.closing) ours.hunt) ours.sheet

-- ---- the hunt

module _ (s out : List ℕ) (room : length s ≤ length out) where
  -- the output lent is never too short
  hunt_gives : hunt_number s (length out) ≡ pick (eqb (found_at s) nowhere) no_preamble done
  unfolding hunt_number
  hunt_gives =
      let e = le-ltb (length out) (length (hunted_bytes s)) (omega (arith, hunted-count s (found_at s) refl)) in
      rw e

  fails_exactly : (b : Bool) → pick b no_preamble done ≡ hunt_number s (length out) → eqb (hunt_number s (length out)) no_preamble ≡ b
  fails_exactly true e = rw (← e)
  fails_exactly false e = rw (← e)

  hunt_fails_lem : eqb (hunt_number s (length out)) no_preamble ≡ eqb (found_at s) nowhere
  hunt_fails_lem = fails_exactly (eqb (found_at s) nowhere) (sym hunt_gives)

  hunt_done : eqb (found_at s) nowhere ≡ false → hunt_number s (length out) ≡ done
  hunt_done e = hunt_gives ∙ rw e

module _ (l : Loader) (out : List ℕ) (mode : ℕ) (s : List ℕ) (room : length s ≤ length out) where
  pub unfound_is : unfound (lending l) out mode s ≡ hunt_fails mode s
  unfolding hunt_of
  unfound_is = ap (λ (b : Bool). serial mode && b) (hunt_fails_lem s out room)

  module _ (f : hunt_fails mode s ≡ false) where
    bytes_are : bytes_in (lending l) out mode s ≡ bytes_of_stream mode s
    bytes_are =
        by_test (serial mode)
        (λ e.
        let g : eqb (found_at s) nowhere ≡ false = sym (ap (λ (b : Bool). b && eqb (found_at s) nowhere) e) ∙ f in
        rw e (done-front s out (hunt_done s out room g)))
        (λ e. rw e)

    edges_are : (taken : ℕ) → hand_edges (lending l) out mode taken s ≡ edges_per_byte mode * taken + shift_of mode s + idle_edges mode
    edges_are taken =
        by_test (serial mode)
        (λ e.
        let g : eqb (found_at s) nowhere ≡ false = sym (ap (λ (b : Bool). b && eqb (found_at s) nowhere) e) ∙ f in
        rw (e, (done-figures s out (hunt_done s out room g)).0) refl)
        (λ e. rw e (one_each taken))
      where
        one_each : (n : ℕ) → n + 3 ≡ 1 * n + 0 + 3
        one_each n = omega arith

  failed_is : hunt_fails mode s ≡ true → failed_row ≡ unfound_row mode
  failed_is f =
      by_test (serial mode) (λ e. rw e)
      (λ e. absurd (false≢true (sym (ap (λ (b : Bool). b && eqb (found_at s) nowhere) e) ∙ f)))

-- ---- the load

module _ (l : Loader) (out : List ℕ) (mode : ℕ) (s : List ℕ) (room : length s ≤ length out) (d : Device) (i : Idle d)
    (m : from first_mode two_preambles mode ≡ true) (u : Bytes s) (spare : length d.memory + 3 ≤ length out) (f : hunt_fails mode s ≡ false) where
  -- what a run comes to, as a slice answers it
  abbrev answer : Run → AfterSlice
  answer r = record { fed = fed_of r; memory = r.memory }

  hand_is : by_hand (lending l) out mode d s ≡ answer (load_of d mode s)
  unfolding load_of
  hand_is =
      let r = slice_runs (started d mode) d.memory (bytes_of_stream mode s) (started_feeds d mode i m) in
      ap (λ (bs : List ℕ). ours.slice (started d mode) d.memory bs) (bytes_are l out mode s room f) ∙ rw (r.0, r.1)

  -- a row by what was answered, the bytes and the edges
  abbrev row_from : AfterSlice → List ℕ → ℕ → Sheet
  row_from a bs edges =
      let ps = puts_of (started d mode) bs in
      let size = length d.memory in
      record {
        number = a.fed.answer.number;
        taken = a.fed.answer.taken;
        «data» = length ps;
        cells = cells_stored size 1 ps;
        again = cells_stored size 2 ps;
        bits = bits_over size d.memory a.memory;
        edges = edges;
      }

  row_is : hand_row (lending l) out mode d s ≡ loaded_row d mode s
  unfolding fed_of stores_of
  row_is =
      let r : Run = load_of d mode s in
      ap (λ (a : AfterSlice). row_from a (bytes_in (lending l) out mode s) (hand_edges (lending l) out mode a.fed.answer.taken s)) hand_is
      ∙ ap (λ (bs : List ℕ). row_from (answer r) bs (hand_edges (lending l) out mode r.chain.place.taken s)) (bytes_are l out mode s room f)
      ∙ ap (row_from (answer r) (bytes_of_stream mode s)) (edges_are l out mode s room f r.chain.place.taken)

  -- ---- what is left

  module _ (n : (load_of d mode s).number ≡ more) where
    abbrev r : Run
    r = load_of d mode s

    open_feeds : feed_number r.chain (length r.memory) ≡ done
    unfolding load_of
    open_feeds =
        run_open (started d mode) d.memory (bytes_of_stream mode s) (fed-bytes mode s u) (started-registers d mode i m) (started_feeds d mode i m) n

    eight : length r.chain.kinds ≡ most_devices
    unfolding load_of
    eight = ap length (run_lasts (bytes_of_stream mode s) (run (started d mode) d.memory more)).kinds ∙ started-kinds d mode i m

    same_size : length r.memory ≡ length d.memory
    unfolding load_of
    same_size = (run_lasts (bytes_of_stream mode s) (run (started d mode) d.memory more)).memory

    -- the closing bytes offered
    offers : offered (ours.closing r.chain r.memory out) ≡ closing_bytes r.chain r.memory
    offers =
        let w = within r.chain r.memory (feed_is_open r.chain (length r.memory) open_feeds) eight in
        let e : written_number r.chain r.memory (length out) ≡ done =
        room_enough r.chain r.memory (length out) eight (feed_is_open r.chain (length r.memory) open_feeds)
        (omega (arith, w.inside, same_size)) in
        rw e (take-append_seam (closing_bytes r.chain r.memory) _)

    closed_is : kept_of (ours.slice r.chain r.memory (offered (ours.closing r.chain r.memory out))) ≡ device_of r
    closed_is =
        let c = slice_closes r.chain r.memory eight open_feeds in
        ap (λ (bs : List ℕ). kept_of (ours.slice r.chain r.memory bs)) offers ∙ rw (c.fed, c.memory)

  handed_is : kept_of (handed (lending l) out mode (by_hand (lending l) out mode d s)) ≡ device_of (load_of d mode s)
  handed_is =
      ap (λ (a : AfterSlice). kept_of (handed (lending l) out mode a)) hand_is
      ∙ by_eq (load_of d mode s).number more
      (λ n. answered-more n ∙ closed_is n)
      (λ n. answered-over n)
    where
      answered-more : (n : (load_of d mode s).number ≡ more)
          → kept_of (handed (lending l) out mode (answer (load_of d mode s)))
          ≡ kept_of (ours.slice (load_of d mode s).chain (load_of d mode s).memory
          (offered (ours.closing (load_of d mode s).chain (load_of d mode s).memory out)))
      answered-more n = unfold fed_of in rw n

      answered-over : (n : (load_of d mode s).number ≡ more → ⊥)
          → kept_of (handed (lending l) out mode (answer (load_of d mode s))) ≡ device_of (load_of d mode s)
      answered-over n = unfold fed_of in rw (ne_eqb (load_of d mode s).number more n)

-- ---- found or not

module _ (l : Loader) (out : List ℕ) (mode : ℕ) (s : List ℕ) (room : length s ≤ length out) (d : Device) (i : Idle d)
    (m : from first_mode two_preambles mode ≡ true) (u : Bytes s) (spare : length d.memory + 3 ≤ length out) where
  pub one_row : pick (unfound (lending l) out mode s) failed_row (hand_row (lending l) out mode d s) ≡ row_of d mode s
  unfolding row_of
  one_row =
      ap (λ (b : Bool). pick b failed_row (hand_row (lending l) out mode d s)) (unfound_is l out mode s room)
      ∙ by_test (hunt_fails mode s) (λ f. rw f (failed_is l out mode s room f)) (λ f. rw f (row_is l out mode s room d i m u spare f))

  pub one_left : hand_leaves (lending l) out mode d s ≡ left_by d mode s
  one_left =
      ap (λ (b : Bool). pick b d (kept_of (handed (lending l) out mode (by_hand (lending l) out mode d s)))) (unfound_is l out mode s room)
      ∙ by_test (hunt_fails mode s) (λ f. rw f (sym (left-unfound d mode s i m u f)))
      (λ f. rw f (handed_is l out mode s room d i m u spare f ∙ sym (left-loaded d mode s i m u f)))
