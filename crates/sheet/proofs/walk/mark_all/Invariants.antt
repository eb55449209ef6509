use Rattle.std.proofs.Common.{◌≡◌}
use Rattle.sheet.specs.Steps.{puts_left, marked}
use Rattle.sheet.proofs.walk.mark_all.Given as goal

-- `sheet::walk::mark_all` meets its contract. The invariant: the marks so far, with those that are left, are all. Assumes nothing.
abbrev pub invariant-loop-cells : goal.invariant-loop-cells
invariant-loop-cells l =
    let a = l.fn.stores in
    let b = l.cells-iterator in
    record {
      can : (goal.iterator-loop-cells).can_next b;
      ends : (goal.iterator-loop-cells).is_finite b;
      size : b.size ≡ a.size;
      left : marked l.fn.marks (puts_left a.chain a.bytes.stream.now a.bytes.p a.at) ≡ marked l.marks (puts_left b.chain b.bytes.stream.now b.bytes.p b.at);
    }
