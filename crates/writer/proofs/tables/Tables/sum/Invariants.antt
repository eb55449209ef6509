use Rattle.std.proofs.Common.{◌≡◌, ◌≤◌, ◌+◌, ◌*◌, length}
use Rattle.writer.specs.Write.{windows_number, sum_of}
use Rattle.writer.proofs.tables.Tables.sum.Given as goal

abbrev pub invariant-loop-start : goal.invariant-loop-start
invariant-loop-start l =
    (goal.iterator-loop-start).can_next l.start-iterator ×
    (goal.iterator-loop-start).is_finite l.start-iterator ×
    (length l.start-iterator.a.rest.now ≡ length l.start-iterator.b.rest.now) ×
    (l.sum + 65536 * length l.start-iterator.a.rest.now ≤ 65536 * length l.self.starts.now) ×
    (windows_number l.size l.self.starts.now l.self.ends.now ≡ windows_number l.size l.start-iterator.a.rest.now l.start-iterator.b.rest.now) ×
    (sum_of l.self.starts.now l.self.ends.now ≡ l.sum + sum_of l.start-iterator.a.rest.now l.start-iterator.b.rest.now)
