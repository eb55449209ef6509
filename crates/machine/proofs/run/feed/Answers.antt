use Rattle.machine.proofs.Took.{took_both, took_last}
use Rattle.machine.proofs.run.feed.Goals as goal

pub returns-in_err-d : goal.returns-in_err-d
returns-in_err-d c = rw c.from_residual.ensures (took_last (took_both c.loop-b.invariant c.front.ensures) _ _ _ _ c.in-Some.ensures.cases.0 c.in_err-d.ensures)
