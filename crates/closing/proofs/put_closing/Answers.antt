use Rattle.std.proofs.Common.{◌≡◌, rules, Err, length}
use borrow.Author.Tests.{eqb-false}
use Rattle.chain.specs.Paper.{done}
use Rattle.chain.specs.Refusal.{number_of}
use Rattle.chain.specs.State.{open_number}
use Rattle.chain.proofs.PassedUp.{not_done}
use Rattle.closing.specs.Put.{told}
use Rattle.closing.proofs.Meets.{meets_refused, meets_put}
use Rattle.closing.proofs.put_closing.Goals as goal

pub returns-in_err-open : goal.returns-in_err-open
returns-in_err-open c =
    let a = c.args in
    let e = c.in_err-open.field-0.0 in
    let n : number_of e ≡ open_number a.c.now (length a.mem.now) = search rules in
    let up : c.from_residual.result ≡ Err e = search rules in
    rw up (meets_refused a.c.now a.mem.now a.out.now (number_of e) n (eqb-false (number_of e) done (not_done e)))

pub returns : goal.returns
returns c =
    let a = c.args in
    let e : open_number a.c.now (length a.mem.now) ≡ done = search rules in
    meets_put a.c.now a.mem.now a.out.now (told c.put_row.result) _ e c.put_row.ensures
