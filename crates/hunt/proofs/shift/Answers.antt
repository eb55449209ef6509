use Rattle.std.proofs.Common.{sym, ◌∙◌, ◌+◌, ◌*◌, arith}
use Rattle.hunt.proofs.Windows.{byte_pair}
use Rattle.hunt.proofs.Bytes.{bytes_turn, bytes-done}
use Rattle.hunt.proofs.shift.Goals as goal

pub loop-i-preserved : goal.loop-i-preserved
loop-i-preserved c =
    let l = c.loop-i in
    let s = c.args.s.now in
    let k = c.args.k in
    let e = c.joined.ensures ∙ sym (byte_pair s l.i (c.type_inv.s l.i).fits k (omega arith)) in
    l.invariant ∙ bytes_turn s l.out k c.args.n l.i c.joined.result (omega arith) e

pub returns : goal.returns
returns c =
    let l = c.loop-i in
    sym (l.invariant ∙ bytes-done c.args.s.now l.out (8 * l.i + c.args.k) c.args.n l.i (omega arith))
