use Rattle.std.proofs.Common.{◌≡◌, length, drop}
use lib.Seq.{sets}
use Rattle.eprom.specs.Steps.{down_from}
use Rattle.eprom.proofs.walk.turn.Given as goal

abbrev pub invariant-loop-i : goal.invariant-loop-i
invariant-loop-i l = (length l.room ≡ length l.initial.room) × (sets l.initial.room 0 (down_from l.e l.at l.n) ≡ sets l.room l.i (drop l.i (down_from l.e l.at l.n)))
