use Rattle.std.proofs.Common.{rules, ◌≡◌, ◌∙◌, sym, ℕ}
use Rattle.std.specs.List.{sum_by}
use Rattle.sheet.proofs.TableLaws.{sum_is}
use Rattle.sheet.proofs.total.Goals as goal

-- `sheet::total` meets its contract. Assumes nothing.
pub returns : goal.returns
returns c =
    let e : c.sum.result ≡ sum_by (λ (n : ℕ). n) c.args.lengths.now = search rules in
    e ∙ sym (sum_is c.args.lengths.now)
