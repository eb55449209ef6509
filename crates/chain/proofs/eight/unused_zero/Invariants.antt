use Rattle.std.proofs.Common.{◌≡◌, ◌+◌, ◌-◌}
use lib.ListN.{drop}
use Rattle.chain.specs.State.{zeros}
use Rattle.chain.proofs.eight.unused_zero.Given as goal

abbrev pub invariant-loop-i : goal.invariant-loop-i
invariant-loop-i l = zeros (drop l.n l.x-items) ≡ zeros (drop (l.n + (l.i - l.n)) l.x-items)
