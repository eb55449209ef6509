use Rattle.std.proofs.Common.{◌≡◌, ◌≤◌, ◌*◌, ◌-◌}
use lib.ListN.{drop}
use Rattle.chain.specs.Kinds.{base_of, known_of}
use Rattle.chain.proofs.state.bad_chain.Given as goal

abbrev pub invariant-loop-kind : goal.invariant-loop-kind
invariant-loop-kind l = record {
  few : l.total ≤ 65535 * l.kind-index;
  sum : l.total ≡ base_of l.kind-items l.kind-index;
  known : known_of l.fn.kinds l.count ≡ known_of (drop l.kind-index l.kind-items) (l.count - l.kind-index);
}
