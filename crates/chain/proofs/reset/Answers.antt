use mathlib.Core.Path.{◌∙◌}
use Rattle.chain.specs.Calls.{reset_of, reset_memory, chain_number}
use Rattle.chain.proofs.reset.Goals as goal

pub returns-then-bad_chain : goal.returns-then-bad_chain
unfolding reset_of reset_memory chain_number
returns-then-bad_chain c =
    record { made = simp (c.refused.ensures, ← c.bad_chain.ensures, c.if-bad_chain.true); memory = simp (← c.bad_chain.ensures, c.if-bad_chain.true) }

pub returns : goal.returns
unfolding reset_of reset_memory chain_number
returns c =
    record {
      made = simp (c.done.ensures, c.fresh.ensures, ← c.bad_chain.ensures, c.if-bad_chain.false);
      memory = c.fill.ensures.after (λ y e. e) ∙ simp (← c.bad_chain.ensures, c.if-bad_chain.false);
    }
