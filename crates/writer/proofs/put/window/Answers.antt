use Rattle.std.proofs.Common.{[], ◌++◌, ◌∙◌, refl, arith}
use Rattle.chain.specs.Window.{framing_of}
use Rattle.chain.proofs.Over.{five_stored, then_over, over_is}
use Rattle.writer.specs.Stream.{window_bytes}
use Rattle.writer.proofs.Parts.{window_parts}
use Rattle.writer.proofs.put.window.Goals as goal

pub returns-clause-out_after : goal.returns-clause-out_after
returns-clause-out_after c =
    let a = c.args in
    let w = a.window in
    then_over 5 (framing_of w.start w.end) a.cells.now a.out.now _ _ refl
    (rw c.framing.ensures (five_stored 0 _ _ _ _ a.out.now (omega arith))) c.copy_blocks.ensures
    ∙ over_is (window_bytes w.start w.end [] ++ a.cells.now) (window_bytes w.start w.end a.cells.now) a.out.now (window_parts w.start w.end a.cells.now)
