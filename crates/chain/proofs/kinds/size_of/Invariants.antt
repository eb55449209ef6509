use Rattle.std.proofs.Common.{◌≡◌, drop}
use Rattle.chain.specs.Kinds.{lookup, kinds, sizes}
use Rattle.chain.proofs.kinds.size_of.Given as goal

abbrev pub invariant-loop-i : goal.invariant-loop-i
invariant-loop-i l = l.size ≡ lookup (drop l.i kinds) (drop l.i sizes) l.kind
