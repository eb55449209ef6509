use Rattle.writer.proofs.Turn.{Left}
use Rattle.writer.proofs.put.windows.Given as goal

abbrev pub invariant-loop-start : goal.invariant-loop-start
invariant-loop-start l =
    (goal.iterator-loop-start).can_next l.start-iterator ×
    (goal.iterator-loop-start).is_finite l.start-iterator ×
    Left l.tables.starts.now l.tables.ends.now l.cells l.initial.out l.out l.at l.from l.start-iterator.a.rest.now l.start-iterator.b.rest.now
