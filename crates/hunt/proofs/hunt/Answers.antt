use Rattle.std.proofs.Common.{◌≡◌, sym, rules, arith}
use Rattle.hunt.specs.Hunt.{nowhere, found_at}
use Rattle.hunt.proofs.Answers.{found_in, hunt-none, hunt-short, hunt-written}
use Rattle.hunt.proofs.hunt.Goals as goal

-- `hunt::hunt` meets its contract: a law for each of its three ways to answer. Assumes nothing.
pub returns-in_default : goal.returns-in_default
returns-in_default c =
    let a = c.args in
    let none : found_at a.s.now ≡ nowhere = search rules in
    rw c.refused.ensures (hunt-none a.s.now a.out.now nowhere (sym none) (omega arith) (omega arith))

pub overflow_sub-n : goal.overflow_sub-n
overflow_sub-n c =
    let f = c.in-Some.ensures in
    omega (arith, found_in c.args.s.now c.in-Some.p f.0 f.1)

pub returns-then-out-n : goal.returns-then-out-n
returns-then-out-n c =
    let a = c.args in
    let f = c.in-Some.ensures in
    rw c.refused-then-out-n.ensures (hunt-short a.s.now a.out.now c.in-Some.p f.0 f.1 (omega arith))

pub returns : goal.returns
returns c =
    let a = c.args in
    let f = c.in-Some.ensures in
    hunt-written a.s.now a.out.now c.in-Some.p f.0 f.1 c.piece.new.out c.piece.result c.of.result c.of.ensures c.if-out-n.false c.piece.ensures.upper_bound c.piece.ensures.out_after
