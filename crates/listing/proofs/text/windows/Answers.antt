use Rattle.std.proofs.Common.{rules, arith, ◌≡◌, ◌+◌, ◌<◌, ◌^◌, ap, sym, inl, inr, length, length-append}
use Rattle.std.specs.Iterator.Adapters.{enumerate_count, enumerate_source, zip_first, zip_second}
use Rattle.std.specs.Slice.Iter.{iter_rest}
use Rattle.listing.proofs.Decimal.{window_line}
use Rattle.listing.proofs.Putting.{line_more, lines_end}
use Rattle.listing.proofs.text.windows.Goals as goal

pub line-requires-clause-room : goal.line-requires-clause-room
line-requires-clause-room c =
    let l = c.loop-i.invariant in
    let s = c.in-Some.ensures.steps in
    let a = ap length s.0.0 in
    let n : c.in-Some.i + 1 < 2 ^ 8 = omega (arith, s.1, a, l.within) in
    let w = window_line (c.in-Some.i + 1) c.in-Some.start.now c.in-Some.end.now n (search rules) (search rules) in
    omega (arith, s.1, a, l.within, l.short, w)

pub loop-i-preserved : goal.loop-i-preserved
loop-i-preserved c =
    let l = c.loop-i.invariant in
    let s = c.in-Some.ensures.steps in
    let a = ap length s.0.0 in
    let b = ap length s.0.1 in
    let n : c.in-Some.i + 1 < 2 ^ 8 = omega (arith, s.1, a, l.within) in
    let w = window_line (c.in-Some.i + 1) c.in-Some.start.now c.in-Some.end.now n (search rules) (search rules) in
    let long = simp length-append at (ap length c.line.ensures) in
    let e : c.in-Some.i + 1 ≡ enumerate_count c.next.new.self = omega (arith, s.1, s.2) in
    let f : enumerate_count c.loop-i.i-iterator + 1 ≡ enumerate_count c.next.new.self = sym s.2 in
    let z = enumerate_source c.next.new.self in
    record {
      next = search rules;
      ends = search rules;
      pairs = omega (arith, a, b, l.pairs);
      within = omega (arith, a, s.2, l.within);
      short = omega (arith, long, w, s.2, l.short);
      whole = line_more (enumerate_count c.next.new.self) c.in-Some.start.now c.in-Some.end.now (iter_rest (zip_first z)) (iter_rest (zip_second z)) c.loop-i.text.bytes _ _
          (rw e at c.line.ensures) (rw (s.0.0, s.0.1, f) at l.whole);
    }

pub returns-clause-lines : goal.returns-clause-lines
returns-clause-lines c =
    let l = c.loop-i.invariant in
    let it = c.loop-i.i-iterator in
    let z = enumerate_source it in
    let none : length (iter_rest (zip_first z)) ≡ 0 = elim c.in-None.ensures.steps.0 [ inl p ↦ p.1.0 | inr p ↦ omega (arith, p.1.0, l.pairs) ] in
    lines_end (enumerate_count it + 1) (iter_rest (zip_first z)) (iter_rest (zip_second z)) c.loop-i.text.bytes _ none l.whole
