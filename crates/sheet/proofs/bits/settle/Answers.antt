use Rattle.std.proofs.Common.{rules}
use Rattle.sheet.specs.Count.{bits_at}
use Rattle.sheet.proofs.bits.settle.Goals as goal

-- `sheet::bits::settle` meets its contract. Assumes nothing.
pub returns : goal.returns
returns c = record {
  value = c.over_cells-count.ensures (bits_at c.args.old.now c.args.mem.now) (λ i r h p. search rules);
  after = search rules;
}
