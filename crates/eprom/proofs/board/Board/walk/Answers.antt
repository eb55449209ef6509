use Rattle.std.proofs.Common.{◌∙◌, arith}
use Rattle.eprom.proofs.Walks.{none_left, at_end}
use Rattle.eprom.proofs.board.Board.walk.Goals as goal

pub returns-then-self-eq0 : goal.returns-then-self-eq0
returns-then-self-eq0 c = (c.in_ok-blocks.ensures {u = tt}).value ∙ none_left c.args.e.now _ _ c.if-self-eq0.true

pub returns : goal.returns
returns c =
    let h = (c.in_ok-blocks.ensures {u = tt}).value in
    at_end c.blocks-3.result c.blocks-3.ensures.value (c.blocks-3.ensures.all (omega arith)) (λ e z. h ∙ e ∙ none_left c.args.e.now _ _ z) (λ r o. rw h o)
