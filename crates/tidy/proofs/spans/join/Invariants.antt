use Prim.Native.Nat.{◌-◌}
use Rattle.tidy.proofs.JoinTurns.{Turning}
use Rattle.tidy.proofs.spans.join.Given as goal

abbrev pub invariant-loop-i : goal.invariant-loop-i
invariant-loop-i l = Turning l.initial.xs l.initial.ends l.xs l.ends l.start l.end l.at l.k l.i

abbrev pub decreases-loop-i : goal.decreases-loop-i
decreases-loop-i l = l.n - l.i
