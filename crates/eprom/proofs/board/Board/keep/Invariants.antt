use Rattle.std.proofs.Common.{◌≡◌, drop}
use Rattle.eprom.specs.Steps.{kept_through}
use Rattle.eprom.proofs.board.Board.keep.Given as goal

abbrev pub invariant-loop-b : goal.invariant-loop-b
invariant-loop-b l = kept_through l.initial.a l.initial.g l.t ≡ kept_through l.a l.g (drop l.b-index l.t)
