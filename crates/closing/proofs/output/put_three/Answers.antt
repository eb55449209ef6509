use Rattle.std.proofs.Common.{◌∙◌, arith}
use Rattle.std.proofs.lemmas.Grind.{common_steps}
use Rattle.closing.proofs.Parts.{laid_over, three_laid}
use Rattle.closing.proofs.output.put_three.Goals as goal

pub returns : goal.returns
returns c =
    let a = c.args in
    let lead = c.copy.ensures ∙ laid_over _ a.lead.now (grind (arith, common_steps)) in
    let cells = c.copy-2.ensures ∙ laid_over _ a.cells.now (grind (arith, common_steps)) in
    let end = c.copy-3.ensures ∙ laid_over _ a.end.now (grind (arith, common_steps)) in
    three_laid a.lead.now a.cells.now a.end.now a.out.now _ _ _ lead cells end c.if-out-n.false
