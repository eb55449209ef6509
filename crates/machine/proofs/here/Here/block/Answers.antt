use Rattle.std.proofs.Common.{ap, ◌∙◌}
use Rattle.chain.specs.declared.Chain.{Chain}
use Rattle.machine.specs.Run.{address_of}
use Rattle.machine.proofs.Block.{block}
use Rattle.machine.proofs.Frame.{passed_device}
use Rattle.machine.proofs.here.Here.block.Goals as goal

pub moved-requires : goal.moved-requires
moved-requires c = (ap (λ (x : Chain). x.kinds) c.past.ensures, ap (λ (x : Chain). x.place.device) c.past.ensures ∙ passed_device _ _)

pub returns-clause-whole_run : goal.returns-clause-whole_run
unfolding address_of
returns-clause-whole_run c =
    let a = c.args in
    block a.t.now a.self.chain a.mem.now c.requires.0 c.requires.1 c.requires.2
    ∙ simp (c.moved.ensures.chain, c.past.ensures, c.lay-k.ensures.value, c.lay-k.ensures.mem_after, c.from.ensures, a.self.begins)
