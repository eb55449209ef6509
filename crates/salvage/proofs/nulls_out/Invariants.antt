use Rattle.salvage.proofs.Keeping.{Putting}
use Rattle.salvage.proofs.nulls_out.Given as goal

abbrev pub invariant-loop-reach : goal.invariant-loop-reach
invariant-loop-reach l = Putting l.reaches l.initial.out l.out l.at l.reach-index
