use Rattle.std.proofs.Common.{arith, sym, ap, ◌≡◌, ◌∙◌, ◌+◌, get_or, ℕ}
use Rattle.sheet.specs.Steps.{bump}
use Rattle.sheet.proofs.MarkLaws.{bumped_turn, bumped-done, bump_is}
use Rattle.sheet.proofs.marks.mark.Goals as goal

pub loop-m-preserved : goal.loop-m-preserved
loop-m-preserved c =
    let m = c.loop-m.m-items in
    let i = c.loop-m.m-index in
    let b : ℕ = get_or m i 0 in
    let e : b + c.from.result ≡ bump b = ap (λ (x : ℕ). b + x) c.from.ensures ∙ bump_is b in
    c.loop-m.invariant ∙ bumped_turn m i (b + c.from.result) (omega arith) e

pub returns : goal.returns
returns c = sym (c.loop-m.invariant ∙ bumped-done c.loop-m.m-items c.loop-m.m-index (omega arith))
