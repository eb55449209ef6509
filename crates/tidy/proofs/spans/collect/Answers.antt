use Rattle.std.proofs.Common.{◌∙◌, sym, inl, arith}
use Rattle.reader.specs.Windows.{whole_of}
use Rattle.tidy.proofs.Collecting.{collecting_none, collecting_more, collecting_all}
use Rattle.tidy.proofs.spans.collect.Goals as goal

pub loop-i-init : goal.loop-i-init
loop-i-init c =
    let a = c.args in
    let g = a.given in
    let p = c.requires in
    let w = c.windows.ensures in
    let k = collecting_none g.size g.s.now g.n a.xs.now a.ends.now (omega arith) g.whole p.0 p.1 in
    rw (c.into_iter-i-iterator.ensures.into_iter_gives, c.enumerate-i-items.ensures.source, c.enumerate-i-items.ensures.count)
    (record { can = (tt, tt, inl (omega arith)); ends = tt; same_size = w.size; same_stream = w.stream; left = omega (arith, w.left); collecting = rw w.at k })

pub loop-i-preserved : goal.loop-i-preserved
loop-i-preserved c =
    let g = c.args.given in
    let l = c.loop-i in
    let f = l.invariant in
    let s = c.in-Some.ensures.steps in
    let x = s.0 in
    record {
      can = (tt, tt, inl (omega (arith, f.left, x.one_less)));
      ends = tt;
      same_size = x.same_size ∙ f.same_size;
      same_stream = x.same_stream ∙ f.same_stream;
      left = omega (arith, f.left, x.one_less, s.2);
      collecting = rw (s.1, s.2, x.after) (collecting_more g.size g.s.now g.n l.xs l.ends _ _ f.collecting (whole_of c.in-Some.w) (omega (arith, f.left, x.some_left)) (rw (f.same_size, f.same_stream) at x.reads));
    }

pub shape_of-xs : goal.shape_of-xs
shape_of-xs c = c.loop-i.invariant.collecting.long ∙ sym c.requires.0

pub shape_of-ends : goal.shape_of-ends
shape_of-ends c = c.loop-i.invariant.collecting.many ∙ sym c.requires.1

pub returns : goal.returns
returns c =
    let g = c.args.given in
    let l = c.loop-i in
    let k = collecting_all g.size g.s.now g.n l.xs l.ends _ _ l.invariant.collecting (omega (arith, l.invariant.left, c.in-None.ensures.steps.0)) in
    (k.0 ∙ sym c.requires.0, k.1 ∙ sym c.requires.1, k.2, k.3)
