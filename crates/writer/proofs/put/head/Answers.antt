use Rattle.std.proofs.Common.{ℕ, ◌-◌, ◌∙◌, List, [], ◌∷◌, get_or, length, refl, ap, arith}
use Rattle.chain.proofs.Over.{then_copied, copied}
use Rattle.chain.specs.Paper.{no_windows}
use Rattle.writer.proofs.put.head.Goals as goal

pub returns-clause-out_after : goal.returns-clause-out_after
returns-clause-out_after c =
    let a = c.args in
    let s = c.lead_in-lead.result.now in
    let l = ap length c.lead_in-lead.ensures.value in
    let u : List ℕ = a.control ∷ get_or a.address 0 0 ∷ get_or a.address 1 0 ∷ get_or a.address 2 0 ∷ (no_windows - a.n) ∷ [] in
    rw (← c.lead_in-lead.ensures.value)
    (then_copied (length s) s u a.out.now _ _ refl (omega arith) (c.copy.ensures ∙ copied s a.out.now (omega arith)) c.copy-2.ensures)
