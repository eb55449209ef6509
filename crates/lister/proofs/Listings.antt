-- What number 0 of a listing tells, and that the bytes taken fit in 32 bits. Assumes nothing.
use Prim.Native.Nat.{ℕ, ◌^◌, ◌≤◌, ◌<◌}
use mathlib.Core.Bool.{true, false, not}
use mathlib.Core.Path.{◌≡◌, ◌∙◌}
use mathlib.Core.List.{List}
use native.Mathlib.Omega.{arith}
use borrow.Author.Tests.{ne_eqb, eqb-false, not-true}
use Rattle.std.specs.Prelude.{Err}
use Rattle.chain.proofs.PassedUp.{not_done}
use lib.Dec.{eqb}
use Rattle.chain.proofs.Means.{says, reads}
use Rattle.chain.specs.Paper.{first_mode, two_preambles, done, bad_chain, bad_mode, too_short}
use Rattle.chain.specs.Rules.{from}
use Rattle.chain.specs.Mode.{mode_number}
use Rattle.chain.specs.declared.mode.Mode.{Mode}
use Rattle.chain.specs.declared.mode.Mode.TheVariants.{Upward, Downward, SerialExternal, SerialInternal, EpromInternal, TwoPreambles}
use Rattle.reader.specs.Stops.{Stop, stop, stop_of}
use Rattle.reader.specs.declared.stop.Stopped.{Stopped}
use Rattle.reader.specs.Stream.{preamble_at, count_at, stream_stop}
use Rattle.reader.proofs.Streams.{passes, row_below, Read, stream-done, stream-below}
use Rattle.lister.specs.Listing.{any_shorter, list_stop}

-- a mode that has a name is from 1 to 6
pub mode_named : (m : Mode) (n : ℕ) → mode_number m ≡ n → from first_mode two_preambles n ≡ true
mode_named Upward n h = rw (← h)
mode_named Downward n h = rw (← h)
mode_named SerialExternal n h = rw (← h)
mode_named SerialInternal n h = rw (← h)
mode_named EpromInternal n h = rw (← h)
mode_named TwoPreambles n h = rw (← h)

module _ (size mode : ℕ) (s : List ℕ) (a b c : ℕ) where
  -- each refusal in turn, and none
  pub stop_kind : size ≡ 0 → stop bad_chain 0 ≡ list_stop size mode s a b c
  unfolding list_stop
  stop_kind h = rw h

  module _ (known : size ≡ 0 → ⊥) where
    pub stop_mode : from first_mode two_preambles mode ≡ false → stop bad_mode 0 ≡ list_stop size mode s a b c
    unfolding list_stop
    stop_mode h = rw (ne_eqb size 0 known, h)

    module _ (m : Mode) (named : mode_number m ≡ mode) where
      pub stop_stream : (e : Stopped) → stop_of (Err e) ≡ stream_stop size mode s → stop_of (Err e) ≡ list_stop size mode s a b c
      unfolding list_stop
      stop_stream e h = simp (ne_eqb size 0 known, mode_named m mode named, ← h, not_done)

      module _ (t : ℕ) (read : stop done t ≡ stream_stop size mode s) where
        pub stop_room : any_shorter a b c (count_at s (preamble_at mode)) ≡ true → stop too_short t ≡ list_stop size mode s a b c
        unfolding list_stop
        stop_room h = simp (ne_eqb size 0 known, mode_named m mode named, ← read, h)

        pub stop_none : any_shorter a b c (count_at s (preamble_at mode)) ≡ false → stop done t ≡ list_stop size mode s a b c
        unfolding list_stop
        stop_none h = simp (ne_eqb size 0 known, mode_named m mode named, ← read, h)

  pub record Listable : Type 0 where
    pub read : Read size mode s
    pub stream : list_stop size mode s a b c ≡ stream_stop size mode s
    pub starts_fit : count_at s (preamble_at mode) ≤ a
    pub ends_fit : count_at s (preamble_at mode) ≤ b
    pub offsets_fit : count_at s (preamble_at mode) ≤ c

  pub list_done : (list_stop size mode s a b c).number ≡ done → Listable
  unfolding list_stop
  list_done h =
      let e : Stop = stream_stop size mode s in
      let n : ℕ = count_at s (preamble_at mode) in
      let x = passes (eqb size 0) bad_chain 0 _ (λ y z. omega (arith, z)) h in
      let y = passes (not (from first_mode two_preambles mode)) bad_mode 0 _ (λ y z. omega (arith, z)) x.2 in
      let r = passes (not (eqb e.number done)) e.number e.taken _ (λ q z. eqb-false e.number done (not-true (eqb e.number done) q) z) y.2 in
      let t = passes (any_shorter a b c n) too_short e.taken e (λ y z. omega (arith, z)) r.2 in
      let v : ((n ≤ a) × (n ≤ b)) × (n ≤ c) = says (search reads) t.0 in
      record {
        read = stream-done size mode s t.2;
        stream = x.1 ∙ y.1 ∙ r.1 ∙ t.1;
        starts_fit = v.0.0;
        ends_fit = v.0.1;
        offsets_fit = v.1;
      }

  pub list-below : size ≤ 65535 → (list_stop size mode s a b c).taken < 2 ^ 32
  unfolding list_stop
  list-below l =
      let k = stream-below size mode s l in
      let e : Stop = stream_stop size mode s in
      fits _
      (row_below (eqb size 0) bad_chain 0 _ 16712708 (λ y. omega arith)
      (row_below (not (from first_mode two_preambles mode)) bad_mode 0 _ 16712708 (λ y. omega arith)
      (row_below (not (eqb e.number done)) e.number e.taken _ 16712708 (λ y. k)
      (row_below (any_shorter a b c (count_at s (preamble_at mode))) too_short e.taken e 16712708 (λ y. k) k))))
    where
      fits : (t : ℕ) → t ≤ 16712708 → t < 2 ^ 32
      fits t h = omega arith
