use Rattle.std.proofs.Common.{◌≡◌, ◌≤◌, ◌+◌, length}
use Rattle.cells.specs.Differ.{differs}
use Rattle.cells.proofs.differ.Given as goal

abbrev pub invariant-loop-x : goal.invariant-loop-x
invariant-loop-x l =
    let a = l.x-iterator.a.rest.now in
    let b = l.x-iterator.b.rest.now in
    record {
      size_a : l.x-iterator.a.size ≡ 240;
      size_b : l.x-iterator.b.size ≡ 240;
      even : length a ≡ length b;
      most : l.count + length b ≤ l.n;
      counted : l.count + differs a b ≡ differs l.a l.b;
    }
