use mathlib.Core.Path.{◌∙◌}
use lib.Dec.{eqb}
use Rattle.chain.proofs.ByCases.{by_test}
use Rattle.chain.specs.Paper.{two_preambles}
use Rattle.reader.specs.Stream.{preamble_at}
use Rattle.reader.proofs.stream.preamble_at.Goals as goal

pub returns-clause-value : goal.returns-clause-value
unfolding preamble_at
returns-clause-value c = c.from.ensures ∙ by_test (eqb c.args.mode two_preambles) (λ y. rw y) (λ y. rw y)
