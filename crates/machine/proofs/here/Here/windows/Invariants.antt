use Rattle.std.proofs.Common.{◌≡◌, length}
use Rattle.machine.specs.Block.{Took}
use Rattle.machine.proofs.here.Here.windows.Given as goal

abbrev pub invariant-loop-at_data : goal.invariant-loop-at_data
invariant-loop-at_data l = record {
  took : Took l.fn.self.chain l.fn.mem l.fn.s l.here.chain l.mem l.left;
  size : l.here.size ≡ l.fn.self.size;
  base : l.here.base ≡ l.fn.self.base;
}

abbrev pub decreases-loop-at_data : goal.decreases-loop-at_data
decreases-loop-at_data l = length l.left
