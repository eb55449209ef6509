use mathlib.Core.Path.{ap, sym, ◌∙◌}
use native.Mathlib.Omega.{arith}
use Rattle.std.proofs.lemmas.Result.{err_from_is_err_and}
use Rattle.chain.proofs.PassedUp.{not_done}
use Rattle.reader.specs.Stops.{Stop}
use Rattle.reader.specs.Stream.{stream_stop}
use Rattle.reader.proofs.Streams.{head_done}
use Rattle.reader.proofs.stream.read_stream.Goals as goal

pub returns-in_err-first : goal.returns-in_err-first
unfolding stream_stop
returns-in_err-first c =
    let p = err_from_is_err_and c.from_residual.result c.from_residual.ensures.1 in
    rw (p.1, p.2) (simp (← c.in_err-first.ensures, not_done))

pub bounds-s-p : goal.bounds-s-p
bounds-s-p c = let h = head_done c.args.mode c.args.s.now (ap (λ (e : Stop). e.number) (sym c.in_ok-first.ensures)) in omega arith

pub returns-in_err-at : goal.returns-in_err-at
unfolding stream_stop
returns-in_err-at c =
    let p = err_from_is_err_and c.from_residual-in_err-at.result c.from_residual-in_err-at.ensures.1 in
    rw (p.1, p.2) (simp (← c.in_ok-first.ensures, ← c.preamble_at-p.ensures.value, ← c.in_err-at.ensures, not_done))

pub bounds-s-p-2 : goal.bounds-s-p-2
bounds-s-p-2 c = let h = head_done c.args.mode c.args.s.now (ap (λ (e : Stop). e.number) (sym c.in_ok-first.ensures)) in omega arith

pub returns : goal.returns
unfolding stream_stop
returns c = c.check.ensures ∙ simp (← c.in_ok-first.ensures, ← c.preamble_at-p.ensures.value, ← c.in_ok-at.ensures)
