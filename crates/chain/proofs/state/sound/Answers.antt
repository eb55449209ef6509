use Rattle.std.proofs.Common.{ℕ, nat_eq}
use mathlib.Core.Path.{◌∙◌, sym, ap}
use Rattle.chain.specs.Paper.{done, no_run}
use Rattle.chain.specs.Rules.{pick}
use Rattle.chain.specs.Refusal.{number_of}
use Rattle.chain.proofs.Numbers.{state_of_open}
use Rattle.chain.proofs.PassedUp.{not_no_run}
use Rattle.chain.proofs.state.sound.Goals as goal

abbrev but_no_run : ℕ → ℕ
but_no_run n = pick (nat_eq n no_run) done n

pub returns-in-Ok : goal.returns-in-Ok
returns-in-Ok c = ap but_no_run c.in-Ok.ensures ∙ sym (state_of_open c.args.c c.args.len)

pub returns-in-NoRun : goal.returns-in-NoRun
returns-in-NoRun c = ap but_no_run (ap number_of (sym c.in-NoRun.is) ∙ c.in-Err.ensures) ∙ sym (state_of_open c.args.c c.args.len)

pub returns-in_default : goal.returns-in_default
returns-in_default c =
    let e = c.in-Err.refusal in
    sym (ap (λ b. pick b done (number_of e)) (not_no_run e c.in_default.not-NoRun)) ∙ ap but_no_run c.in-Err.ensures ∙ sym (state_of_open c.args.c c.args.len)
