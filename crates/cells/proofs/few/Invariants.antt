use Rattle.std.proofs.Common.{◌≡◌, ◌≤◌, ◌+◌, length}
use Rattle.cells.specs.Differ.{differs}
use Rattle.cells.proofs.few.Given as goal

abbrev pub invariant-loop-x : goal.invariant-loop-x
invariant-loop-x l =
    let a = l.x-iterator.a.rest.now in
    let b = l.x-iterator.b.rest.now in
    record {
      even : length a ≡ length b;
      few : l.count + length b ≤ length l.b;
      counted : l.count + differs a b ≡ differs l.a l.b;
    }
