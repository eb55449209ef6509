use Rattle.std.proofs.Common.{◌≡◌, ◌∙◌, sym, ap, rules, Err}
use borrow.Author.Tests.{eq-eqb, ne_eqb, eqb-false}
use Rattle.chain.specs.declared.Chain.{Chain}
use Rattle.chain.specs.Paper.{done}
use Rattle.chain.specs.Refusal.{number_of}
use Rattle.chain.specs.State.{state_number}
use Rattle.chain.proofs.PassedUp.{not_done}
use Rattle.saved.proofs.Answers.{pick-up-refused, pick-up-asked, unmarked, taken_held, refused_held}
use Rattle.saved.proofs.picked_up.Goals as goal

pub returns-in_err-sound-clause-number : goal.returns-in_err-sound-clause-number
returns-in_err-sound-clause-number c =
    let a = c.args in
    let e = c.in_err-sound.field-0.0 in
    let n : number_of e ≡ state_number a.c a.len = search rules in
    let up : c.from_residual.result ≡ Err e = search rules in
    rw up (n ∙ sym (pick-up-refused a.c a.len a.saved.now (λ q. eqb-false (number_of e) done (not_done e) (n ∙ q))))

pub returns-then-c-eq-OPENED-clause-number : goal.returns-then-c-eq-OPENED-clause-number
returns-then-c-eq-OPENED-clause-number c =
    let a = c.args in
    let e : state_number a.c a.len ≡ done = search rules in
    sym (pick-up-asked a.c a.len a.saved.now e ∙ simp (eq-eqb _ _ c.if-c-eq-OPENED.true))

pub returns-in_err-registers-clause-number : goal.returns-in_err-registers-clause-number
returns-in_err-registers-clause-number c =
    let a = c.args in
    let e : state_number a.c a.len ≡ done = search rules in
    let r = c.in_err-registers.field-0.0 in
    let up : c.from_residual-in_err-registers.result ≡ Err r = search rules in
    let f = c.in_err-registers.ensures in
    let w = unmarked a.c a.len a.saved.now f.0 in
    rw up (ap number_of f.1 ∙ sym (pick-up-asked a.c a.len a.saved.now e ∙ simp (ne_eqb _ _ c.if-c-eq-OPENED.false, w)))

pub returns-in_err-sound-2-clause-number : goal.returns-in_err-sound-2-clause-number
returns-in_err-sound-2-clause-number c =
    let a = c.args in
    let e : state_number a.c a.len ≡ done = search rules in
    let h = c.in_ok-registers.field-0 in
    let f = c.in_ok-registers.ensures in
    let r = c.in_err-sound-2.field-0.0 in
    let n = c.in_err-sound-2.ensures in
    let up : c.from_residual-in_err-sound-2.result ≡ Err r = search rules in
    let d : Chain = record { count = a.c.count; kinds = a.c.kinds; registers = h.registers; place = h.place } in
    let not_taken : state_number d a.len ≡ done → ⊥ = λ q. eqb-false (number_of r) done (not_done r) (n ∙ q) in
    let w = sym (taken_held a.c a.len a.saved.now e h.registers h.place f.0 f.1 f.2) ∙ ne_eqb _ _ not_taken in
    rw up (n ∙ refused_held a.c a.len a.saved.now e h.registers h.place not_taken ∙ sym (pick-up-asked a.c a.len a.saved.now e ∙ simp (ne_eqb _ _ c.if-c-eq-OPENED.false, w)))

pub returns-clause-number : goal.returns-clause-number
returns-clause-number c =
    let a = c.args in
    let e : state_number a.c a.len ≡ done = search rules in
    let h = c.in_ok-registers.field-0 in
    let f = c.in_ok-registers.ensures in
    let w = sym (taken_held a.c a.len a.saved.now e h.registers h.place f.0 f.1 f.2) ∙ eq-eqb _ _ (sym (c.in_ok-sound-2.ensures)) in
    sym (pick-up-asked a.c a.len a.saved.now e ∙ simp (ne_eqb _ _ c.if-c-eq-OPENED.false, w))
