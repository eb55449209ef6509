use Rattle.std.proofs.Common.{◌≤◌, length, rules}
use Rattle.cells.proofs.Count.{differs-le}
use Rattle.machine.proofs.Block.{lay_write}
use Rattle.machine.proofs.bulk.lay.Goals as goal

pub overflow_cast-result : goal.overflow_cast-result
overflow_cast-result c = let e : c.differ.result ≤ length c.args.t.now = rw c.differ.ensures (differs-le _ _) in search rules

pub returns-then-check-eq-WRITING-clause-mem_after : goal.returns-then-check-eq-WRITING-clause-mem_after
returns-then-check-eq-WRITING-clause-mem_after c =
    (lay_write c.args.check c.args.mem.now c.args.t.now c.args.at (search rules) c.copy.new.dst c.if-check-eq-WRITING.true c.copy.ensures).1
