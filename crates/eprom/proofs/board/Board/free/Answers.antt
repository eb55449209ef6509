use Rattle.std.proofs.Common.{sym, ◌∙◌, inl, inr, arith}
use Rattle.eprom.proofs.Settled.{unsettled}
use Rattle.eprom.proofs.ReadBytes.{part_most}
use Rattle.eprom.proofs.board.Board.free.Goals as goal

pub returns-then-is_plain-clause-free : goal.returns-then-is_plain-clause-free
returns-then-is_plain-clause-free c =
    let b = c.args.self.now in
    inr (unsettled b.chain.place b.fetcher (sym c.is_settled.ensures ∙ c.if-is_settled.false), inr (c.is_plain.ensures c.if-is_plain.true b.fetcher))

pub returns-clause-free : goal.returns-clause-free
returns-clause-free c =
    let b = c.args.self.now in
    let k = part_most b.chain.place.mode c.args.e.now b.fetcher.counter c.min.result in
    inr (unsettled b.chain.place b.fetcher (sym c.is_settled.ensures ∙ c.if-is_settled.false), inl (omega (arith, k, c.min.ensures, c.head.ensures.value)))
