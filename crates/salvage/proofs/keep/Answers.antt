use mathlib.Core.Path.{refl}
use borrow.Author.Tests.{eqb-false}
use Rattle.chain.proofs.PassedUp.{not_done}
use Rattle.std.specs.Prelude.{Err}
use Rattle.reader.specs.Windows.{whole_of, read_of}
use Rattle.salvage.proofs.Keeping.{keeping-stop, in_order, keeping-more, keeping_all}
use Rattle.salvage.proofs.keep.Goals as goal

pub overflow_sub-w : goal.overflow_sub-w
overflow_sub-w c =
    let l = c.loop in
    in_order c.args.size c.args.s.now c.args.n l.reaches.items l.offset l.counter l.invariant (whole_of c.in-Ok.w) c.in-Ok.ensures c.loop-test.true refl

pub returns-in-Err-clause-front_value : goal.returns-in-Err-clause-front_value
returns-in-Err-clause-front_value c =
    let l = c.loop in
    (keeping-stop c.args.size c.args.s.now c.args.n l.reaches.items l.offset l.counter l.invariant (read_of (Err c.in-Err.e)) c.in-Err.ensures c.loop-test.true
    (eqb-false _ _ (not_done c.in-Err.e.refusal))).0

pub returns-in-Err-clause-reaches_after : goal.returns-in-Err-clause-reaches_after
returns-in-Err-clause-reaches_after c =
    let l = c.loop in
    (keeping-stop c.args.size c.args.s.now c.args.n l.reaches.items l.offset l.counter l.invariant (read_of (Err c.in-Err.e)) c.in-Err.ensures c.loop-test.true
    (eqb-false _ _ (not_done c.in-Err.e.refusal))).1

pub loop-preserved : goal.loop-preserved
loop-preserved c =
    let l = c.loop in
    rw c.push.ensures.items
    (keeping-more c.args.size c.args.s.now c.args.n l.reaches.items l.offset l.counter l.invariant (whole_of c.in-Ok.w) c.in-Ok.ensures c.loop-test.true refl)

pub returns-clause-front_value : goal.returns-clause-front_value
returns-clause-front_value c =
    let l = c.loop in
    (keeping_all c.args.size c.args.s.now c.args.n l.reaches.items l.offset l.counter l.invariant c.loop-test.false).0

pub returns-clause-reaches_after : goal.returns-clause-reaches_after
returns-clause-reaches_after c =
    let l = c.loop in
    (keeping_all c.args.size c.args.s.now c.args.n l.reaches.items l.offset l.counter l.invariant c.loop-test.false).1
