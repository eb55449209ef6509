use Rattle.std.proofs.Common.{rules, ◌≡◌, Err}
use Rattle.chain.specs.declared.refusal.Refusal.{Refusal}
use Rattle.tidy.proofs.Answers.{not_read, was_read}
use Rattle.tidy.proofs.try_tidy.Goals as goal

pub returns-in_err-given : goal.returns-in_err-given
returns-in_err-given c =
    let a = c.args in
    let e : Refusal = c.in_err-given.field-0.0 in
    let q : c.from_residual.result ≡ Err e = search rules in
    rw q (not_read a.kind a.s.now a.out.now e c.in_err-given.ensures.number)

pub returns : goal.returns
returns c =
    let a = c.args in
    let g = c.in_ok-given.ensures.given in
    was_read a.kind a.s.now a.out.now c.in_ok-given.given.size _ _ c.in_ok-given.ensures.number g.0 (rw g.1 at c.write.ensures)
