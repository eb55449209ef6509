use Rattle.std.proofs.Common.{◌≡◌, ◌≤◌, ◌*◌}
use Rattle.chain.specs.Kinds.{base_of}
use Rattle.chain.proofs.kinds.base_of.Given as goal

abbrev pub invariant-loop-kind : goal.invariant-loop-kind
invariant-loop-kind l = (l.sum ≤ 65535 * l.kind-index) × (l.sum ≡ base_of l.kind-items l.kind-index)
