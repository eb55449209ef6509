-- A start's number: the state's own, or the start's. Assumes nothing.
use Rattle.std.proofs.Common.{◌≡◌, ℕ, not, eqb, [], ◌∷◌}
use Rattle.chain.specs.declared.Chain.{Chain}
use Rattle.chain.specs.Paper.{opened, first_mode, two_preambles, done, bad_mode, run_open}
use Rattle.chain.specs.Rules.{pick, ◌gives◌, from}
use Rattle.chain.specs.State.{state_number}
use Rattle.chain.proofs.Numbers.{state_gives, state_passes}
use Rattle.machine.specs.Calls.{start_number}

module _ (c : Chain) (len mode : ℕ) where
  pub start_gives : (state_number c len ≡ done → ⊥) → start_number c len mode ≡ state_number c len
  unfolding start_number
  start_gives h =
      state_gives c len ((not (from first_mode two_preambles mode) gives bad_mode) ∷ (eqb c.place.running opened gives run_open) ∷ []) done h

  pub start_passes : state_number c len ≡ done
      → start_number c len mode ≡ pick (not (from first_mode two_preambles mode)) bad_mode (pick (eqb c.place.running opened) run_open done)
  unfolding start_number
  start_passes h =
      state_passes c len ((not (from first_mode two_preambles mode) gives bad_mode) ∷ (eqb c.place.running opened gives run_open) ∷ []) done h
