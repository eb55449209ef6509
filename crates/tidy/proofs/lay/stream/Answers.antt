use Rattle.std.proofs.Common.{arith}
use Rattle.tidy.proofs.Whole.{ready_few, streamed}
use Rattle.tidy.proofs.lay.stream.Goals as goal

pub overflow_cast-count : goal.overflow_cast-count
overflow_cast-count c =
    let a = c.args in
    omega (arith, ready_few a.given.size a.given.s.now a.given.n a.spans.now a.places.now a.out.now a.end c.requires)

pub overflow_sub-count : goal.overflow_sub-count
overflow_sub-count c =
    let a = c.args in
    omega (arith, ready_few a.given.size a.given.s.now a.given.n a.spans.now a.places.now a.out.now a.end c.requires)

pub returns : goal.returns
returns c =
    let a = c.args in
    streamed a.given.size a.given.s.now a.given.n a.spans.now a.places.now a.out.now a.end c.requires _ _ _ c.copy.ensures c.frames.ensures c.paint.ensures
