use Rattle.std.proofs.Common.{length}
use Rattle.machine.specs.Block.{Took}
use Rattle.machine.proofs.run.feed.Given as goal

abbrev pub invariant-loop-b : goal.invariant-loop-b
invariant-loop-b l = Took l.fn.c l.fn.mem l.fn.s l.d l.mem l.left

abbrev pub decreases-loop-b : goal.decreases-loop-b
decreases-loop-b l = length l.left
