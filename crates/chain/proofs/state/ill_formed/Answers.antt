use mathlib.Core.Path.{sym, ◌∙◌}
use Rattle.chain.proofs.state.ill_formed.Goals as goal

pub well_formed-requires : goal.well_formed-requires
well_formed-requires c =
    sym c.if-not-unused_zero-2.false ∙ c.unused_zero-2.ensures
