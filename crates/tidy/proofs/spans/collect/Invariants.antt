use Prim.Native.Nat.{◌+◌}
use mathlib.Core.Path.{◌≡◌}
use Rattle.std.specs.Iterator.Adapters.{enumerate_source, enumerate_count}
use Rattle.tidy.proofs.Collecting.{Collecting}
use Rattle.tidy.proofs.spans.collect.Given as goal

abbrev pub invariant-loop-i : goal.invariant-loop-i
invariant-loop-i l = record {
  can : (goal.iterator-loop-i).can_next l.i-iterator;
  ends : (goal.iterator-loop-i).is_finite l.i-iterator;
  same_size : (enumerate_source l.i-iterator).size ≡ l.fn.given.size;
  same_stream : (enumerate_source l.i-iterator).s.now ≡ l.fn.given.s.now;
  left : (enumerate_source l.i-iterator).left + enumerate_count l.i-iterator ≡ l.fn.given.n;
  collecting : Collecting l.fn.given.size l.fn.given.s.now l.fn.given.n l.xs l.ends (enumerate_source l.i-iterator).at (enumerate_count l.i-iterator);
}
