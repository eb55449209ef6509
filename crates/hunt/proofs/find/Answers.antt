use Rattle.std.proofs.Common.{◌≡◌, true, false, rules}
use Rattle.std.proofs.lemmas.Iterator.{first_from_Range}
use Rattle.hunt.specs.Hunt.{begins_at}
use Rattle.hunt.proofs.Found.{found_by}
use Rattle.hunt.proofs.find.Goals as goal

pub returns : goal.returns
returns c =
    let s = c.args.s.now in
    found_by s c.find.result
    (first_from_Range _ _ _ _ (λ p. begins_at s p ≡ true) (λ p. begins_at s p ≡ false) c.find.ensures.ran
    (λ x q k. search rules)
    (λ x q k. search rules))
