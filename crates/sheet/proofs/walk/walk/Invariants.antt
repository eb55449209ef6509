use Rattle.std.proofs.Common.{◌≡◌, ◌≤◌}
use Rattle.sheet.specs.Steps.{puts_left}
use Rattle.sheet.proofs.Noted.{Walking}
use Rattle.sheet.proofs.walk.walk.Given as goal

-- `sheet::walk::walk` meets its contract. The invariant: what is noted is of the stores so far, each of a byte that is passed. Assumes nothing.
abbrev pub invariant-loop-cells : goal.invariant-loop-cells
invariant-loop-cells l =
    let a = l.fn.stores in
    let b = l.cells-iterator in
    record {
      can : (goal.iterator-loop-cells).can_next b;
      ends : (goal.iterator-loop-cells).is_finite b;
      size : b.size ≡ a.size;
      bytes : b.bytes ≡ a.bytes;
      few : l.walked.stored ≤ b.at;
      walking : Walking (puts_left a.chain a.bytes.stream.now a.bytes.p a.at) a.size l.walked (puts_left b.chain b.bytes.stream.now b.bytes.p b.at);
    }
