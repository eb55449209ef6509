use Rattle.std.proofs.Common.{rules, arith}
use Rattle.tidy.proofs.Lengths.{long_more, long_none}
use Rattle.tidy.proofs.spans.long.Goals as goal

pub loop-span-preserved : goal.loop-span-preserved
loop-span-preserved c =
    let l = c.loop-span in
    let w = c.width.ensures in
    let m = long_more c.args.spans.now l.span-index (search rules) in
    (omega arith, omega (arith, w.upper_bound), omega (arith, l.invariant.2, m, w.value))

pub returns : goal.returns
returns c =
    let l = c.loop-span in
    let m = long_none c.args.spans.now l.span-index (search rules) in
    (omega (arith, l.invariant.2), omega (arith, c.requires))
