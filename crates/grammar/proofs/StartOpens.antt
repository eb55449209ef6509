-- A start on an idle chain is done, and the run that it opens takes bytes. Assumes nothing.
use Prim.Native.Nat.{ℕ, ◌<◌, ◌≤◌}
use mathlib.Core.Path.{◌≡◌, ◌∙◌}
use borrow.Author.Tests.{le-leb}
use Rattle.chain.specs.declared.Chain.{Chain}
use Rattle.chain.specs.Paper.{closed, first_mode, two_preambles, most_devices, done}
use Rattle.chain.specs.Set.{with_place}
use Rattle.chain.specs.State.{state_number, feed_number}
use Rattle.chain.proofs.Sound.{state_usable}
use Rattle.machine.specs.Calls.{start_number, start_of, opened_place}
use Rattle.machine.proofs.Starts.{start_passes}
use Rattle.grammar.proofs.Runs.Started.{opened_feeds}

-- the devices of a state that the calls take are 1 to 8
pub count_sound : (c : Chain) (len : ℕ) → state_number c len ≡ done → (0 < c.count) × (c.count ≤ most_devices)
count_sound c len h = let f = (state_usable c len h).fits in (f.some, f.few)

-- the run that a start opens takes bytes
pub opened_sound : (c : Chain) (len mode check : ℕ) → state_number c len ≡ done → first_mode ≤ mode → mode ≤ two_preambles → feed_number (with_place c (opened_place mode check)) len ≡ done
opened_sound c len mode check h a b =
    opened_feeds c len mode check h (rw (le-leb first_mode mode a, le-leb mode two_preambles b))

module _ (c : Chain) (len mode check : ℕ) (h : state_number c len ≡ done) (z : c.place.running ≡ closed) (a : first_mode ≤ mode) (b : mode ≤ two_preambles) where
  start_number_lem : start_number c len mode ≡ done
  start_number_lem = start_passes c len mode h ∙ rw (z, le-leb first_mode mode a, le-leb mode two_preambles b)

  -- so a start on an idle chain opens a run
  pub start-done : start_of c len mode check ≡ record { chain = with_place c (opened_place mode check); number = done }
  unfolding start_of
  start-done = rw start_number_lem
