use Rattle.std.proofs.Common.{rules, ℕ, get_or, ◌≡◌, ◌∙◌}
use Rattle.std.specs.Int.{from_bool}
use lib.Dec.{leb}
use Rattle.sheet.specs.Count.{one_if}
use Rattle.sheet.specs.Steps.{marks_from}
use Rattle.sheet.proofs.MarkLaws.{one_from}
use Rattle.sheet.proofs.marks.marked.Goals as goal

-- `sheet::marks::marked` meets its contract. Assumes nothing.
pub returns : goal.returns
unfolding marks_from
returns c = c.over_cells.ensures (λ (i : ℕ). one_if (leb c.args.k (get_or c.args.marks.now i 0))) (λ i r h p.
    let e : r ≡ from_bool (leb c.args.k (get_or c.args.marks.now i 0)) = search rules in
    e ∙ one_from (leb c.args.k (get_or c.args.marks.now i 0)))
