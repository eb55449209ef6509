use mathlib.Core.Path.{sym}
use native.Mathlib.Omega.{arith}
use Rattle.tidy.proofs.Values.{put_back, sets_out}
use Rattle.tidy.proofs.lay.put.Goals as goal

pub returns-then-at-out : goal.returns-then-at-out
returns-then-at-out c =
    let a = c.args in
    put_back a.at a.bytes.now a.out.now _ c.if-at-out.true c.copy.ensures

pub returns-else-at-out : goal.returns-else-at-out
returns-else-at-out c =
    let a = c.args in
    sym (sets_out a.out.now a.at a.bytes.now (omega arith))
