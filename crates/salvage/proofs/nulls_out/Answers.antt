use Rattle.salvage.proofs.Keeping.{null_there}
use Rattle.salvage.proofs.nulls_out.Goals as goal

pub bounds-out-at : goal.bounds-out-at
bounds-out-at c =
    let l = c.loop-reach in
    null_there c.args.reaches.now c.args.out.now l.out l.at l.reach-index l.invariant c.loop-reach-test.true
