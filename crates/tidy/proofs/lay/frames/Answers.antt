use Rattle.std.proofs.Common.{rules}
use Rattle.tidy.proofs.Framing.{framing_none, framing_room, framing_more, framing_all}
use Rattle.tidy.proofs.lay.frames.Goals as goal

pub loop-span-init : goal.loop-span-init
loop-span-init c = framing_none c.args.spans.now c.args.out.now c.requires

pub empty-requires : goal.empty-requires
empty-requires c =
    let a = c.args in
    let l = c.loop-span in
    framing_room a.spans.now a.out.now l.out l.at l.span-index l.invariant (search rules)

pub loop-span-preserved : goal.loop-span-preserved
loop-span-preserved c =
    let a = c.args in
    let l = c.loop-span in
    rw c.width.ensures.value (framing_more a.spans.now a.out.now l.out l.at l.span-index l.invariant (search rules) _ c.empty.ensures)

pub returns : goal.returns
returns c =
    let a = c.args in
    let l = c.loop-span in
    framing_all a.spans.now a.out.now l.out l.at l.span-index l.invariant (search rules)
