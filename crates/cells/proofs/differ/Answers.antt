use Rattle.std.proofs.Common.{◌≡◌, length, arith, min}
use mathlib.Core.Logic.{⊎_elim}
use lib.ListN.{take}
use mathlib.Core.Path.{ap, ◌∙◌}
use Rattle.std.proofs.lemmas.List.{length-take-le}
use Rattle.cells.specs.Differ.{differs}
use Rattle.cells.proofs.Count.{differs_block, differs_least, differs_empty}
use Rattle.cells.proofs.differ.Goals as goal

pub loop-x-init : goal.loop-x-init
loop-x-init c =
    let n = c.min-n.result in
    let a = c.args.a.now in
    let b = c.args.b.now in
    let least : n ≡ min (length a) (length b) = cc in
    let all = differs_least a b n least in
    let it = c.into_iter-x-iterator.result in
    let ra : it.a.rest.now ≡ take n a = cc in
    let rb : it.b.rest.now ≡ take n b = cc in
    let la = ap length ra ∙ length-take-le n a (omega (arith, least)) in
    let lb = ap length rb ∙ length-take-le n b (omega (arith, least)) in
    let d : differs it.a.rest.now it.b.rest.now ≡ differs a b = cc in
    record { size_a = cc; size_b = cc; even = cc; most = omega (arith, lb); counted = omega (arith, d) }

pub loop-x-preserved : goal.loop-x-preserved
loop-x-preserved c =
    let l = c.loop-x in
    let i = l.invariant in
    let s = c.in-Some.ensures.steps in
    let e = differs_block l.x-iterator.a.rest.now l.x-iterator.b.rest.now c.in-Some.x.now c.in-Some.y.now c.next.new.self.a.rest.now c.next.new.self.b.rest.now
    l.x-iterator.a.size l.x-iterator.b.size (cc) i.even s.0.1.0 s.0.1.1 s.1.1.0 s.1.1.1 in
    record { size_a = cc; size_b = cc; even = e.even; most = omega (arith, e.left, e.few, i.most, c.few.ensures, c.from-count.ensures); counted = omega (arith, e.both, i.counted, c.few.ensures, c.from-count.ensures) }

pub overflow_add-count : goal.overflow_add-count
overflow_add-count c =
    let l = c.loop-x in
    let i = l.invariant in
    let s = c.in-Some.ensures.steps in
    let e = differs_block l.x-iterator.a.rest.now l.x-iterator.b.rest.now c.in-Some.x.now c.in-Some.y.now c.next.new.self.a.rest.now c.next.new.self.b.rest.now
    l.x-iterator.a.size l.x-iterator.b.size (cc) i.even s.0.1.0 s.0.1.1 s.1.1.0 s.1.1.1 in
    omega (arith, e.left, e.few, i.most, c.few.ensures, c.from-count.ensures, c.min-n.type_inv)

pub returns : goal.returns
returns c =
    let l = c.loop-x in
    let i = l.invariant in
    let none : length l.x-iterator.a.rest.now ≡ 0 = ⊎_elim (λ h. omega (arith, h.1.1.0)) (λ h. omega (arith, h.1.1.0, i.even)) c.in-None.ensures.steps in
    omega (arith, i.counted, differs_empty l.x-iterator.a.rest.now l.x-iterator.b.rest.now none)
