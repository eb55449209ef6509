use Rattle.chain.specs.Calls.{new_of, chain_number}
use Rattle.chain.proofs.new.Goals as goal

pub returns-then-bad_chain : goal.returns-then-bad_chain
unfolding new_of chain_number
returns-then-bad_chain c =
    record { made = simp (c.refused.ensures, c.no_chain.ensures, ← c.bad_chain.ensures, c.if-bad_chain.true) }

pub returns : goal.returns
unfolding new_of chain_number
returns c = record { made = simp (c.done.ensures, c.fresh.ensures, ← c.bad_chain.ensures, c.if-bad_chain.false) }
