use Rattle.std.proofs.Common.{◌+◌, ◌≤◌, ◌≡◌, length, take}
use Rattle.chain.specs.Output.{over}
use Rattle.writer.proofs.blocks.copy_blocks.Given as goal

abbrev pub invariant-loop-i : goal.invariant-loop-i
invariant-loop-i l = (16 ≤ length l.cells) × (l.i ≤ l.last + 15) × (length l.out ≡ length l.initial.out) × (l.out ≡ over (take l.i l.cells) l.initial.out)
