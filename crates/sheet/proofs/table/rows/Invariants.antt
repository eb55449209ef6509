use Rattle.std.proofs.Common.{◌≡◌, length}
use Rattle.chain.specs.Mode.{mode_number}
use Rattle.sheet.specs.Stream.{device}
use Rattle.sheet.proofs.Entering.{Entering}
use Rattle.sheet.proofs.table.rows.Given as goal

-- `sheet::table::rows` meets its contract. Assumes nothing.
abbrev pub invariant-loop-i : goal.invariant-loop-i
invariant-loop-i l =
    record {
      entering : Entering (mode_number l.mode) l.streams l.lengths (device l.initial.target.chain l.initial.target.memory.now) l.initial.numbers l.initial.figures (device l.target.chain l.target.memory.now) l.numbers l.figures
          l.sums l.at l.i;
      repeats : l.target.before.now ≡ l.target.memory.now;
      marks : length l.target.marks.now ≡ length l.initial.target.marks.now;
    }
