use Rattle.std.proofs.Common.{rules, ◌∙◌, refl, sym, arith, get_or}
use Rattle.tidy.specs.Steps.{no_row}
use Rattle.tidy.proofs.JoinTurns.{none-joined, larger, turning_none, turning_at, touch_place, turning_touch, apart_place, turning_apart, turning_all}
use Rattle.tidy.proofs.spans.join.Goals as goal

pub returns-then-n-eq0 : goal.returns-then-n-eq0
returns-then-n-eq0 c = none-joined c.args.xs.now c.args.ends.now c.if-n-eq0.true

pub loop-i-init : goal.loop-i-init
loop-i-init c = rw c.from-first.ensures (turning_none c.args.xs.now c.args.ends.now c.requires (search rules))

pub overflow_add-ends : goal.overflow_add-ends
overflow_add-ends c =
    let a = c.args in
    let l = c.loop-i in
    let p = touch_place a.xs.now a.ends.now c.requires l.xs l.ends l.start l.end l.at l.k l.i l.invariant (search rules) _ _ refl refl (sym c.touch.ensures ∙ c.if-touch.true) _ (larger l.end (get_or l.ends (get_or l.xs l.i no_row).end 0)) in
    omega (arith, p, c.from.ensures)

pub overflow_cast-ends : goal.overflow_cast-ends
overflow_cast-ends c =
    let a = c.args in
    let l = c.loop-i in
    let p = touch_place a.xs.now a.ends.now c.requires l.xs l.ends l.start l.end l.at l.k l.i l.invariant (search rules) _ _ refl refl (sym c.touch.ensures ∙ c.if-touch.true) _ (larger l.end (get_or l.ends (get_or l.xs l.i no_row).end 0)) in
    omega (arith, p, c.from.ensures)

pub loop-i-preserved-then-touch : goal.loop-i-preserved-then-touch
loop-i-preserved-then-touch c =
    let a = c.args in
    let l = c.loop-i in
    rw (c.from.ensures, c.max-end.ensures, c.from-j.ensures)
    (turning_touch a.xs.now a.ends.now c.requires l.xs l.ends l.start l.end l.at l.k l.i l.invariant (search rules) _ _ refl refl (sym c.touch.ensures ∙ c.if-touch.true) _ (larger _ _))

pub overflow_add-at-in-loop-i : goal.overflow_add-at-in-loop-i
overflow_add-at-in-loop-i c =
    let a = c.args in
    let l = c.loop-i in
    omega (arith, c.width.ensures.upper_bound, turning_at a.xs.now a.ends.now c.requires l.xs l.ends l.start l.end l.at l.k l.i l.invariant)

pub overflow_cast-ends-in-loop-i : goal.overflow_cast-ends-in-loop-i
overflow_cast-ends-in-loop-i c =
    let a = c.args in
    let l = c.loop-i in
    omega (arith, apart_place a.xs.now a.ends.now c.requires l.xs l.ends l.start l.end l.at l.k l.i l.invariant (search rules) _ _ refl refl (sym c.touch.ensures ∙ c.if-touch.false) _ c.width.ensures.value)

pub loop-i-preserved : goal.loop-i-preserved
loop-i-preserved c =
    let a = c.args in
    let l = c.loop-i in
    rw c.from-j.ensures
    (turning_apart a.xs.now a.ends.now c.requires l.xs l.ends l.start l.end l.at l.k l.i l.invariant (search rules) _ _ refl refl (sym c.touch.ensures ∙ c.if-touch.false) _ c.width.ensures.value)

pub returns : goal.returns
returns c =
    let a = c.args in
    let l = c.loop-i in
    rw c.from-first.ensures (turning_all a.xs.now a.ends.now c.requires l.xs l.ends l.start l.end l.at l.k l.i l.invariant (search rules))
