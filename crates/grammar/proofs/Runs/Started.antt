-- The place that a start opens is well formed, and the state takes a slice. Assumes nothing.
use Prim.Native.Nat.{ℕ, ◌≤◌}
use mathlib.Core.Bool.{true}
use mathlib.Core.Path.{◌≡◌, refl}
use borrow.Author.Tests.{lt-ltb}
use lib.Dec.{eqb}
use Rattle.chain.specs.declared.Chain.{Chain}
use Rattle.chain.specs.Paper.{writing, first_mode, two_preambles, done}
use Rattle.chain.specs.Rules.{from}
use Rattle.chain.specs.Set.{with_place}
use Rattle.chain.specs.State.{unused_zero, is_well_formed, state_number, feed_number}
use Rattle.chain.proofs.ByCases.{by_test}
use Rattle.chain.proofs.WellFormed.{m_unused, formed_of}
use Rattle.chain.proofs.Sound.{state_usable, sound_feed}
use Rattle.machine.specs.Calls.{opened_place}

opened-formed : (c : Chain) (mode check : ℕ) → 1 ≤ c.count → unused_zero c.registers c.count ≡ true → from first_mode two_preambles mode ≡ true
    → is_well_formed c c.registers (opened_place mode check) ≡ true
unfolding is_well_formed
opened-formed c mode check some u m =
    by_test (eqb check writing) (λ e. rw (e, m, lt-ltb 0 c.count some, u)) (λ e. rw (e, m, lt-ltb 0 c.count some, u))

-- a run opened in a state that every call takes takes bytes
pub opened_feeds : (c : Chain) (len mode check : ℕ) → state_number c len ≡ done → from first_mode two_preambles mode ≡ true
    → feed_number (with_place c (opened_place mode check)) len ≡ done
unfolding is_well_formed
opened_feeds c len mode check h m =
    let u = state_usable c len h in
    let d = with_place c (opened_place mode check) in
    let w = opened-formed c mode check u.fits.some ((m_unused c.registers c.count).said u.registers) m in
    sound_feed d len
    (record {
      usable = record { fits = u.fits; kinds = u.kinds; registers = u.registers };
      running = refl;
      formed = formed_of d c.registers (opened_place mode check) w;
    })
