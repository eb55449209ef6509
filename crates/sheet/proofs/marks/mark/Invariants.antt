use Rattle.std.proofs.Common.{◌≡◌, take, drop, ◌++◌}
use Rattle.sheet.specs.Steps.{bumped}
use Rattle.sheet.proofs.marks.mark.Given as goal

-- `sheet::marks::mark` meets its contract. The invariant: the marks passed, and the rest bumped, are all bumped. Assumes nothing.
abbrev pub invariant-loop-m : goal.invariant-loop-m
invariant-loop-m l = bumped l.initial.m-items ≡ take l.m-index l.m-items ++ bumped (drop l.m-index l.m-items)
