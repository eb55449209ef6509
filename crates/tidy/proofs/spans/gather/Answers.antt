use Rattle.std.proofs.Common.{◌∙◌, sym, arith}
use Rattle.reader.specs.Stream.{head_length}
use Rattle.reader.specs.Given.{windows_at}
use Rattle.reader.proofs.Given.{windows_fit}
use Rattle.tidy.proofs.Gathering.{joinable, gathered-all}
use Rattle.tidy.proofs.spans.gather.Goals as goal

pub join-requires : goal.join-requires
join-requires c =
    let g = c.args.given in
    let p = c.requires in
    let k = c.collect.ensures in
    joinable g.size (windows_at g.size g.s.now g.n head_length) g.n _ _ _ (omega arith) (windows_fit g.size g.s.now g.n head_length g.whole) (k.0 ∙ p.0) k.2 k.3 c.sort.ensures (k.1 ∙ p.1) g.small

pub returns : goal.returns
returns c =
    let g = c.args.given in
    let p = c.requires in
    let k = c.collect.ensures in
    let r = gathered-all g.size (windows_at g.size g.s.now g.n head_length) g.n _ _ _ (omega arith) (windows_fit g.size g.s.now g.n head_length g.whole) (k.0 ∙ p.0) k.2 k.3 c.sort.ensures _ _ _ c.join.ensures in
    (omega (arith, r.0, p.0), r.1 ∙ sym p.0, r.2, r.3)
