use Rattle.std.proofs.Common.{◌∙◌, length}
use borrow.Author.Tests.{le-ltb}
use Rattle.cells.proofs.Over.{sets-front}
use Rattle.closing.proofs.output.put.Goals as goal

pub returns : goal.returns
returns c =
    let a = c.args in
    let room = le-ltb (length a.out.now) (length a.bytes.now) c.if-out-n.false in
    record { answer = rw room; output = rw room (c.copy.ensures ∙ sets-front a.bytes.now a.out.now c.if-out-n.false) }
