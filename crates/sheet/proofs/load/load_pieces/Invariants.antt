use Prim.Native.Nat.{◌-◌, ◌≤◌}
use mathlib.Core.Path.{◌≡◌}
use lib.ListN.{length}
use Rattle.chain.specs.Paper.{more}
use Rattle.machine.specs.Run.{run, run_of}
use Rattle.sheet.proofs.Pieces.{rest_from}
use Rattle.sheet.proofs.load.load_pieces.Given as goal

-- `sheet::load::load_pieces` meets its contract. Assumes nothing.
abbrev pub invariant-loop-at : goal.invariant-loop-at
invariant-loop-at l =
    (l.at ≤ l.n) × (length l.mem ≡ length l.initial.mem) × (length l.room ≡ length l.initial.room)
    × (run_of (run l.initial.chain l.initial.mem more) (rest_from l.s l.start.bit l.n l.start.byte) ≡ run_of (run l.chain l.mem more) (rest_from l.s l.start.bit l.n l.at))

abbrev pub decreases-loop-at : goal.decreases-loop-at
decreases-loop-at l =
    l.n - l.at
