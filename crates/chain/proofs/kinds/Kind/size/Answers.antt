use mathlib.Core.Path.{◌∙◌, ap}
use Rattle.chain.specs.Kinds.{size_of}
use Rattle.chain.proofs.Sizes.{known_sized}
use Rattle.chain.proofs.kinds.Kind.size.Goals as goal

pub returns-clause-bounds : goal.returns-clause-bounds
returns-clause-bounds c =
    let known = known_sized c.args.self in
    rw (c.size_of.ensures ∙ ap size_of c.number.ensures) known
