use mathlib.Core.Path.{sym, ◌∙◌}
use borrow.Author.Tests.{eq-eqb, ne_eqb}
use Rattle.std.proofs.lemmas.Result.{err_from_is_err_and}
use Rattle.reader.proofs.Streams.{head-one, head-two, preamble_there, head_first, head_second}
use Rattle.reader.proofs.stream.head.Goals as goal

pub returns-in_err-preamble : goal.returns-in_err-preamble
returns-in_err-preamble c =
    let p = err_from_is_err_and c.from_residual.result c.from_residual.ensures.1 in
    rw (p.1, p.2) (head_first c.args.mode c.args.s.now _ c.in_err-preamble.ensures)

pub returns-then-mode-ne-TWO_PREAMBLES : goal.returns-then-mode-ne-TWO_PREAMBLES
returns-then-mode-ne-TWO_PREAMBLES c =
    let a = c.args in
    let b = preamble_there a.s.now 0 _ (sym c.in_ok-preamble.ensures) in
    c.up_to.ensures ∙ sym (head-one a.mode a.s.now b.0 b.1 (ne_eqb _ _ c.if-mode-ne-TWO_PREAMBLES.true))

pub returns-in_err-preamble-2 : goal.returns-in_err-preamble-2
returns-in_err-preamble-2 c =
    let a = c.args in
    let b = preamble_there a.s.now 0 _ (sym c.in_ok-preamble.ensures) in
    let p = err_from_is_err_and c.from_residual-in_err-preamble-2.result c.from_residual-in_err-preamble-2.ensures.1 in
    rw (p.1, p.2) (head_second a.mode a.s.now _ b.0 b.1 (eq-eqb _ _ c.if-mode-ne-TWO_PREAMBLES.false) c.in_err-preamble-2.ensures)

pub returns : goal.returns
returns c =
    let a = c.args in
    let b = preamble_there a.s.now 0 _ (sym c.in_ok-preamble.ensures) in
    let d = preamble_there a.s.now 1 _ (sym c.in_ok-preamble-2.ensures) in
    c.up_to-2.ensures ∙ sym (head-two a.mode a.s.now b.0 b.1 (eq-eqb _ _ c.if-mode-ne-TWO_PREAMBLES.false) d.0 d.1)
