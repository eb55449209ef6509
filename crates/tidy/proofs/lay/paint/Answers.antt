use Rattle.std.proofs.Common.{◌∙◌, inl, arith}
use Rattle.reader.specs.Windows.{whole_of}
use Rattle.tidy.proofs.Laying.{laying_none, laying_read, laying_more, laying_all}
use Rattle.tidy.proofs.lay.paint.Goals as goal

pub loop-i-init : goal.loop-i-init
loop-i-init c =
    let a = c.args in
    let w = c.windows.ensures in
    let k = laying_none a.given.size a.given.s.now a.given.n a.places.now a.out.now a.given.whole in
    rw (c.into_iter-i-iterator.ensures.into_iter_gives, c.enumerate-i-items.ensures.source, c.enumerate-i-items.ensures.count)
    (record { can = (tt, tt, inl (omega arith)); ends = tt; same_size = w.size; same_stream = w.stream; left = omega (arith, w.left); laying = rw w.at k })

pub slice_bounds-put-count : goal.slice_bounds-put-count
slice_bounds-put-count c =
    let a = c.args in
    let l = c.loop-i in
    let f = l.invariant in
    let x = c.in-Some.ensures.steps.0 in
    let k = laying_read a.given.size a.given.s.now a.given.n a.places.now a.out.now l.out _ _ f.laying (whole_of c.in-Some.w) (omega (arith, f.left, x.some_left)) (rw (f.same_size, f.same_stream) at x.reads) in
    k.0

pub slice_bounds-put-start : goal.slice_bounds-put-start
slice_bounds-put-start c =
    let a = c.args in
    let l = c.loop-i in
    let f = l.invariant in
    let x = c.in-Some.ensures.steps.0 in
    let k = laying_read a.given.size a.given.s.now a.given.n a.places.now a.out.now l.out _ _ f.laying (whole_of c.in-Some.w) (omega (arith, f.left, x.some_left)) (rw (f.same_size, f.same_stream) at x.reads) in
    omega (arith, k.0, k.1)

pub slice_bounds-put-end : goal.slice_bounds-put-end
slice_bounds-put-end c =
    let a = c.args in
    let l = c.loop-i in
    let f = l.invariant in
    let x = c.in-Some.ensures.steps.0 in
    let k = laying_read a.given.size a.given.s.now a.given.n a.places.now a.out.now l.out _ _ f.laying (whole_of c.in-Some.w) (omega (arith, f.left, x.some_left)) (rw (f.same_size, f.same_stream) at x.reads) in
    omega (arith, k.0, k.1)

pub loop-i-preserved : goal.loop-i-preserved
loop-i-preserved c =
    let a = c.args in
    let l = c.loop-i in
    let f = l.invariant in
    let s = c.in-Some.ensures.steps in
    let x = s.0 in
    record {
      can = (tt, tt, inl (omega (arith, f.left, x.one_less, s.2)));
      ends = tt;
      same_size = x.same_size ∙ f.same_size;
      same_stream = x.same_stream ∙ f.same_stream;
      left = omega (arith, f.left, x.one_less, s.2);
      laying = rw (s.2, x.after) (laying_more a.given.size a.given.s.now a.given.n a.places.now a.out.now l.out _ _ f.laying (whole_of c.in-Some.w) _ (omega (arith, f.left, x.some_left)) (rw (f.same_size, f.same_stream) at x.reads) c.put.auto.out (rw (c.from.ensures, s.1) at c.put.ensures));
    }

pub returns : goal.returns
returns c =
    let a = c.args in
    let l = c.loop-i in
    laying_all a.given.size a.given.s.now a.given.n a.places.now a.out.now l.out _ _ l.invariant.laying (omega (arith, l.invariant.left, c.in-None.ensures.steps.0))
