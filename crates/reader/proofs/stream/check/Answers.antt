use Rattle.chain.proofs.Tests.{tests}
use Rattle.reader.specs.Stream.{check_stop}
use Rattle.reader.proofs.stream.check.Goals as goal

pub returns-then-s-at : goal.returns-then-s-at
unfolding check_stop
returns-then-s-at c = rw c.used_up.ensures (search tests)

pub returns-in-77 : goal.returns-in-77
unfolding check_stop
returns-in-77 c = rw c.in-77.is (search tests)

pub returns-in-178 : goal.returns-in-178
unfolding check_stop
returns-in-178 c = rw (c.refused.ensures, c.in-178.is, ← c.ends_here.ensures, c.if-ends_here.true) (search tests)

pub returns-in-178-2 : goal.returns-in-178-2
unfolding check_stop
returns-in-178-2 c = rw (c.refused-in-178-2.ensures, c.in-178.is, ← c.ends_here.ensures, c.if-ends_here.false) (search tests)

pub returns-in_default : goal.returns-in_default
unfolding check_stop
returns-in_default c = rw c.refused-in_default.ensures (search tests)
