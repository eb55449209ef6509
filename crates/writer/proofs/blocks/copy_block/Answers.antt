use mathlib.Core.Path.{refl}
use Rattle.writer.proofs.Copied.{stored}
use Rattle.writer.proofs.blocks.copy_block.Goals as goal

pub returns : goal.returns
returns c =
    let a = c.args in
    stored a.cells.now a.out.now _ _ _ a.i c.requires.0 c.requires.1 refl c.copy.ensures c.copy-2.ensures
