use Prim.Native.Nat.{◌-◌}
use mathlib.Core.Path.{◌≡◌}
use Rattle.reader.specs.Windows.{windows_stop}
use Rattle.reader.proofs.stream.read_windows.Given as goal

abbrev pub invariant-loop : goal.invariant-loop
invariant-loop l = windows_stop l.size l.s l.n l.from ≡ windows_stop l.size l.s (l.n - l.counter) l.at
