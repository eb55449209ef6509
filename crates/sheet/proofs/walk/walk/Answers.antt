use Rattle.std.proofs.Common.{arith, refl, ap, ◌≡◌, ◌∙◌, ◌+◌, ◌-◌}
use Rattle.sheet.specs.declared.walk.Walked.{Walked}
use Rattle.sheet.proofs.WalkTurns.{part_after}
use Rattle.sheet.proofs.Noted.{walk_begins, walk_part, walk_ends}
use Rattle.sheet.proofs.walk.walk.Goals as goal

pub loop-cells-init : goal.loop-cells-init
loop-cells-init c =
    rw c.into_iter-cells-iterator.ensures.into_iter_gives
    (record { can = tt; ends = tt; size = refl; bytes = refl; few = omega arith; walking = walk_begins _ c.args.stores.size })

pub loop-cells-preserved : goal.loop-cells-preserved
loop-cells-preserved c =
    let a = c.args.stores in
    let b = c.loop-cells.cells-iterator in
    let v = c.loop-cells.invariant in
    let x = c.in-Some.ensures.steps in
    let o : c.noted-walked.result.stored ≡ c.loop-cells.walked.stored + (c.in-Some.cells.end - c.in-Some.cells.start) = ap (λ (w : Walked). w.stored) c.noted-walked.ensures in
    record {
      can = tt;
      ends = tt;
      size = x.0 ∙ v.size;
      bytes = x.1 ∙ v.bytes;
      few = omega (arith, o, v.few, x.2.ends, x.2.taken);
      walking = rw c.noted-walked.ensures (walk_part _ a.size c.loop-cells.walked _ v.walking b.at _ _ _ _ (part_after refl v.size (omega arith) x.2));
    }

pub returns : goal.returns
returns c =
    let a = c.args.stores in
    let b = c.loop-cells.cells-iterator in
    let v = c.loop-cells.invariant in
    let x = c.in-None.ensures.steps in
    rw c.ended.ensures (walk_ends _ a.size c.loop-cells.walked _ v.walking (omega (arith, v.few, b.within, b.bytes.few)) x.2)
