use Rattle.std.specs.Iterator.Adapters.{enumerate_source, enumerate_count}
use Rattle.lister.proofs.Tables.{Filling}
use Rattle.lister.proofs.fill.Given as goal

abbrev pub invariant-loop-i : goal.invariant-loop-i
invariant-loop-i l = record {
  can : (goal.iterator-loop-i).can_next l.i-iterator;
  ends : (goal.iterator-loop-i).is_finite l.i-iterator;
  filling : Filling l.fn.windows l.p l.initial.starts l.initial.ends l.initial.offsets l.starts l.ends l.offsets (enumerate_source l.i-iterator) (enumerate_count l.i-iterator);
}
