use Rattle.std.proofs.lemmas.Result.{MatchResult-weaker}
use Rattle.eprom.proofs.Walks.{over_past, next_on, next_over}
use Rattle.eprom.proofs.board.Board.step.Goals as goal

pub returns-then-e-self : goal.returns-then-e-self
returns-then-e-self c =
    let a = c.args in
    rw c.stays.ensures (over_past a.e.now a.self.now.left a.self.now.chain a.mem.now a.self.now.fetcher c.requires.left c.if-e-self.true)

pub returns : goal.returns
returns c =
    let b = c.args.self.now in
    let n = c.next-t.ensures in
    MatchResult-weaker c.block.result c.block.ensures
    (λ _ h. next_on b.chain c.args.mem.now b.fetcher c.args.e.now c.next-t.result.now n.block n.reads _ h.1 b.left _ n.most h.0)
    (λ r o. next_over b.chain c.args.mem.now b.fetcher c.args.e.now c.next-t.result.now n.block n.reads r _ o b.left n.most)
