use Rattle.std.proofs.Common.{drop, sym, ◌∙◌, rules}
use Rattle.eprom.specs.Steps.{kept_by}
use Rattle.eprom.proofs.Keeps.{through_turn, through-end}
use Rattle.eprom.proofs.KeptBytes.{through-none}
use Rattle.eprom.proofs.board.Board.keep.Goals as goal

pub returns-then-a-gt-AT_NULL : goal.returns-then-a-gt-AT_NULL
unfolding kept_by
returns-then-a-gt-AT_NULL c =
    let l = c.loop-b in
    simp (← c.is_settled.ensures, c.if-is_settled.false, sym (l.invariant ∙ through-none (drop l.b-index c.args.t.now) l.a l.g c.if-a-gt-AT_NULL.true))

pub loop-b-preserved : goal.loop-b-preserved
loop-b-preserved c =
    let l = c.loop-b in
    l.invariant ∙ through_turn l.a l.g c.args.t.now l.b-index (search rules) _ c.with_byte-g.ensures _ c.after-a.ensures

pub returns : goal.returns
unfolding kept_by
returns c =
    let l = c.loop-b in
    simp (← c.is_settled.ensures, c.if-is_settled.false, sym (l.invariant ∙ through-end l.a l.g c.args.t.now l.b-index (search rules)))
