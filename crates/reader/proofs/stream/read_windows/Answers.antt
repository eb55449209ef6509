use mathlib.Core.Path.{sym, ◌∙◌}
use Prim.Native.Nat.{◌-◌, ◌+◌}
use mathlib.Core.Path.{◌≡◌}
use native.Mathlib.Omega.{arith}
use Rattle.std.proofs.lemmas.Result.{err_from_is_err_and}
use Rattle.reader.proofs.Windows.{windows_ended, windows_on, windows-none}
use Rattle.reader.proofs.stream.read_windows.Goals as goal

pub returns-in_err-at : goal.returns-in_err-at
returns-in_err-at c =
    let a = c.args in
    let l = c.loop in
    let p = err_from_is_err_and c.from_residual.result c.from_residual.ensures.1 in
    rw (p.1, p.2) (windows_ended a.size a.s.now _ (a.n - l.counter) l.at (omega arith) c.in_err-at.ensures ∙ sym l.invariant)

pub loop-preserved : goal.loop-preserved
loop-preserved c =
    let a = c.args in
    let l = c.loop in
    let e : a.n - l.counter - 1 ≡ a.n - (l.counter + 1) = omega arith in
    l.invariant ∙ windows_on a.size a.s.now c.in_ok-at.field-0 (a.n - l.counter) l.at (omega arith) c.in_ok-at.ensures ∙ rw e

pub returns : goal.returns
returns c = let a = c.args in let l = c.loop in sym (l.invariant ∙ windows-none a.size a.s.now (a.n - l.counter) l.at (omega arith))
