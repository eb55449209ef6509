use Rattle.std.proofs.Common.{◌⊎◌, ◌≤◌, ◌<◌, inl, inr, length, arith}
use mathlib.Core.Path.{◌∙◌, sym}
use Rattle.std.proofs.lemmas.Bool.{cases_lt}
use Rattle.cells.proofs.Count.{copy_end}
use Rattle.cells.proofs.copy.Goals as goal

pub returns : goal.returns
returns c =
    let l = c.loop-i in
    sym (l.invariant.done ∙ copy_end l.dst c.args.src.now l.i (shorter (cases_lt (length c.args.dst.now) (length c.args.src.now))))
  where
    shorter : (length c.args.dst.now < length c.args.src.now) ⊎ (length c.args.src.now ≤ length c.args.dst.now)
        → (length c.loop-i.dst ≤ c.loop-i.i) ⊎ (length c.args.src.now ≤ c.loop-i.i)
    shorter (inl h) = inl (omega (arith, h, c.min-n.ensures, c.loop-i-test.false, c.loop-i.invariant.long))
    shorter (inr h) = inr (omega (arith, h, c.min-n.ensures, c.loop-i-test.false))
