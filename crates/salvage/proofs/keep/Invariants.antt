use Rattle.salvage.proofs.Keeping.{Keeping}
use Rattle.salvage.proofs.keep.Given as goal

abbrev pub invariant-loop : goal.invariant-loop
invariant-loop l = Keeping l.size l.s l.n l.reaches.items l.offset l.counter
