use Rattle.std.proofs.Common.{arith}
use borrow.Author.Tests.{eq-eqb, eqb-false}
use lib.Dec.{eqb}
use Rattle.chain.specs.Paper.{at_preamble, at_second}
use Rattle.chain.proofs.ByCases.{by_test}
use Rattle.closing.specs.Closing.{closing_bytes}
use Rattle.closing.proofs.put_row.Goals as goal

-- the one arm of two rows that is told by an order
pub returns-in-0 : goal.returns-in-0
unfolding closing_bytes
returns-in-0 c =
    let a = c.args.c.now.place.awaited in
    by_test (eqb a at_preamble) (λ t. rw t c.put-in-0.ensures)
    (λ f. rw (f, eq-eqb a at_second (omega (arith, eqb-false a at_preamble f))) c.put-in-0.ensures)
