use Rattle.std.proofs.Common.{arith, sym, ap, ◌≡◌, ◌∙◌, ◌-◌, ℕ, List, length}
use borrow.Rule.Slice.PartMut.{put_mid}
use Rattle.sheet.specs.Steps.{puts_left, marked}
use Rattle.sheet.proofs.Noted.{part_marked, none_marked}
use Rattle.sheet.proofs.walk.mark_all.Goals as goal

pub loop-cells-preserved : goal.loop-cells-preserved
loop-cells-preserved c =
    let b = c.loop-cells.cells-iterator in
    let t = c.next.new.self in
    let v = c.loop-cells.invariant in
    let m = c.loop-cells.marks in
    let i = c.in-Some.cells.start in
    let e = c.in-Some.cells.end in
    let x = c.in-Some.ensures.steps in
    let rest = puts_left t.chain t.bytes.stream.now t.bytes.p t.at in
    let l : length m ≡ b.size = omega (arith, v.size) in
    record {
      can = tt;
      ends = tt;
      size = x.0 ∙ v.size;
      left = v.left ∙ part_marked m _ b.size b.at i e t.at rest x.2 l ∙ ap (λ (ys : List ℕ). marked (put_mid i (e - i) m ys) rest) (sym c.mark.ensures);
    }

pub returns : goal.returns
returns c =
    let v = c.loop-cells.invariant in
    sym (v.left ∙ none_marked c.loop-cells.marks _ c.in-None.ensures.steps.2)
