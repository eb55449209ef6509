use native.Mathlib.Omega.{arith}
use mathlib.Core.Logic.{inl}
use Rattle.reader.proofs.Walking.{first_is}
use Rattle.lister.proofs.Tables.{filling_more, filling_all}
use Rattle.lister.proofs.fill.Goals as goal

pub overflow_sub-offsets : goal.overflow_sub-offsets
overflow_sub-offsets c =
    let k = first_is _ _ _ c.in-Some.ensures.steps.0 in
    omega (arith, c.loop-i.invariant.filling.past_head)

pub overflow_cast-offsets : goal.overflow_cast-offsets
overflow_cast-offsets c =
    let k = first_is _ _ _ c.in-Some.ensures.steps.0 in
    let f = c.loop-i.invariant.filling in
    omega arith

pub loop-i-preserved : goal.loop-i-preserved
loop-i-preserved c =
    let s = c.in-Some.ensures.steps in
    let w = c.ranges.windows in
    let f = c.loop-i.invariant.filling in
    record {
      can = (tt, tt, inl (omega (arith, c.loop-i.invariant.filling.count, c.in-Some.ensures.steps.0.one_less)));
      ends = tt;
      filling = rw (s.1, s.2) (filling_more _ _ _ _ _ _ _ _ _ _ f (omega arith) c.in-Some.w _ s.0);
    }

pub returns-clause-starts_after : goal.returns-clause-starts_after
returns-clause-starts_after c = (filling_all _ _ _ _ _ _ _ _ _ _ c.loop-i.invariant.filling c.in-None.ensures.steps.0).0

pub returns-clause-ends_after : goal.returns-clause-ends_after
returns-clause-ends_after c = (filling_all _ _ _ _ _ _ _ _ _ _ c.loop-i.invariant.filling c.in-None.ensures.steps.0).1

pub returns-clause-offsets_after : goal.returns-clause-offsets_after
returns-clause-offsets_after c = (filling_all _ _ _ _ _ _ _ _ _ _ c.loop-i.invariant.filling c.in-None.ensures.steps.0).2
