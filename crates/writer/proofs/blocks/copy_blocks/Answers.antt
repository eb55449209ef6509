use Rattle.std.proofs.Common.{◌+◌, ◌∙◌, length, arith}
use Rattle.writer.proofs.Copied.{a_block, short, block_more, blocks-end}
use Rattle.writer.proofs.blocks.copy_blocks.Goals.{else-loop-i-test, then-loop-i-test+else-last-i-gt16}
use Rattle.writer.proofs.blocks.copy_blocks.Goals as goal

pub returns-then-n : goal.returns-then-n
returns-then-n c = let a = c.args in short a.cells.now a.out.now _ c.requires c.copy.ensures

pub loop-i-preserved : goal.loop-i-preserved
loop-i-preserved c =
    let a = c.args in
    let k = c.loop-i in
    let e = c.copy_block.ensures ∙ block_more a.cells.now a.out.now k.out k.i k.i (omega arith) (omega arith) (omega arith) c.requires (omega arith) k.invariant.3 in
    (k.invariant.0, omega arith, omega arith, e)

pub returns : goal.returns
returns c =
    let a = c.args in
    let k = c.loop-i in
    let n = a_block (length a.cells.now) c.if-n.false in
    elim c.loop-i-test.branch [
      | else-loop-i-test w ↦ blocks-end a.cells.now a.out.now _ _ k.i n (omega arith) (omega arith) c.requires (w.out-is ∙ k.invariant.3) c.copy_block-2.ensures
      | then-loop-i-test+else-last-i-gt16 w ↦
          blocks-end a.cells.now a.out.now _ _ (k.i + 16) n (omega arith) (omega arith) c.requires
          (w.out-is ∙ w.copy_block.ensures ∙ block_more a.cells.now a.out.now k.out k.i k.i (omega arith) (omega arith) (omega arith) c.requires (omega arith) k.invariant.3)
          c.copy_block-2.ensures
    ]
