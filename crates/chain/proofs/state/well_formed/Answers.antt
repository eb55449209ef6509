use Rattle.chain.specs.State.{is_well_formed}
use Rattle.chain.proofs.ByRow.{by_row}
use Rattle.chain.proofs.state.well_formed.Goals as goal

pub returns : goal.returns
unfolding is_well_formed
returns c = rw (by_row) (cc)
