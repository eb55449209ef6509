use Rattle.std.proofs.Common.{◌≡◌, ◌∙◌, sym, ap, rules, length}
use borrow.Author.Tests.{eqb-false}
use Rattle.chain.specs.declared.Chain.{Chain}
use Rattle.chain.specs.declared.Made.{Made}
use Rattle.chain.specs.Paper.{done}
use Rattle.chain.specs.Refusal.{number_of}
use Rattle.chain.proofs.PassedUp.{not_done}
use Rattle.saved.specs.Calls.{picked_up, pick_up_number}
use Rattle.saved.proofs.Answers.{pick-up-off, pick-up-on}
use Rattle.saved.proofs.pick_up.Goals as goal

pub returns-in-Ok : goal.returns-in-Ok
returns-in-Ok c =
    let a = c.args in
    let n = length a.mem.now in
    let d : c.in-Ok.chain ≡ picked_up a.c a.saved.now = search rules in
    let e : done ≡ pick_up_number a.c n a.saved.now = search rules in
    record {
      made = c.done.ensures ∙ ap {B = Made} (λ (x : Chain). record { chain = x; number = done }) d ∙ pick-up-on a.c n a.saved.now (sym e);
    }

pub returns-in-Err : goal.returns-in-Err
returns-in-Err c =
    let a = c.args in
    let n = length a.mem.now in
    let r = c.in-Err.refusal in
    let e : number_of r ≡ pick_up_number a.c n a.saved.now = search rules in
    record {
      made = c.refused.ensures ∙ pick-up-off a.c n a.saved.now (number_of r) (eqb-false (number_of r) done (not_done r)) (sym e);
    }
