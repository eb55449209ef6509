use mathlib.Core.Path.{refl, sym}
use native.Mathlib.Omega.{arith}
use Rattle.reader.proofs.Windows.{windows-first}
use Rattle.reader.proofs.whole.WindowsIterator.next.Goals as goal

pub whole_window-window-requires : goal.whole_window-window-requires
whole_window-window-requires c =
    let v = c.args.self.now in
    let w = windows-first v.size v.s.now v.left v.at (omega arith) v.whole in
    (w.0.in_order, w.0.all_there)

pub invariant_of-self : goal.invariant_of-self
invariant_of-self c =
    let v = c.args.self.now in
    let w = windows-first v.size v.s.now v.left v.at (omega arith) v.whole in
    record { whole = rw c.whole_window-window.ensures (rw w.0.reads at w.2) }

pub returns-clause-steps : goal.returns-clause-steps
returns-clause-steps c =
    let v = c.args.self.now in
    let w = windows-first v.size v.s.now v.left v.at (omega arith) v.whole in
    record {
      some_left = omega arith;
      reads = rw c.whole_window-window.ensures (sym w.0.reads);
      same_size = refl;
      same_stream = refl;
      one_less = omega arith;
      after = refl;
    }
