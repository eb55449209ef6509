use Rattle.std.proofs.Common.{◌≡◌, length}
use lib.ListN.{drop}
use Rattle.std.proofs.lemmas.List.Edits.{sets}
use Rattle.cells.proofs.copy.Given as goal

abbrev pub invariant-loop-i : goal.invariant-loop-i
invariant-loop-i l = record {
  long : length l.dst ≡ length l.initial.dst;
  done : sets l.initial.dst 0 l.src ≡ sets l.dst l.i (drop l.i l.src);
}
