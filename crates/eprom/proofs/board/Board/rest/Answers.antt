use Rattle.std.proofs.Common.{◌≡◌, ◌==◌, ◌+◌, ◌<◌, ◌≤◌, ◌∙◌, length, arith}
use Rattle.std.proofs.lemmas.Result.{MatchResult-weaker}
use Rattle.chain.specs.Paper.{downward}
use Rattle.eprom.specs.Steps.{settled}
use Rattle.eprom.proofs.ReadBytes.{down-length, down_reads}
use Rattle.eprom.proofs.Walks.{over_past, next_on, next_over, rest_is, rest_block}
use Rattle.eprom.proofs.board.Board.rest.Goals as goal

pub returns-then-e-at : goal.returns-then-e-at
returns-then-e-at c =
    let a = c.args in
    rw c.stays.ensures (over_past a.e.now a.self.now.left a.self.now.chain a.mem.now a.self.now.fetcher c.requires.left c.if-e-at.true)

pub block_of_rest-requires-clause-block : goal.block_of_rest-requires-clause-block
block_of_rest-requires-clause-block c =
    let b = c.args.self.now in
    let s = rest_is (b.chain.place.mode == downward) (settled b.chain.place b.fetcher) c.requires.rest in
    rw c.turn-t.ensures
    (rest_block b.chain b.fetcher c.args.e.now c.min-n.result b.going s.1 (omega (arith, c.min.ensures, c.min-n.ensures, c.requires.left, c.requires.room)) (omega (arith, c.min-n.ensures)))

pub returns : goal.returns
returns c =
    let b = c.args.self.now in
    let e = c.args.e.now in
    let n = c.min-n.result in
    let s = rest_is (b.chain.place.mode == downward) (settled b.chain.place b.fetcher) c.requires.rest in
    let some : 0 < n = omega (arith, c.min.ensures, c.min-n.ensures, c.requires.left, c.requires.room) in
    let low : n ≤ b.fetcher.counter + 1 = omega (arith, c.min-n.ensures) in
    let block = rest_block b.chain b.fetcher e n b.going s.1 some low in
    let reads = down_reads b.chain.place.mode e b.fetcher.counter n s.0 (omega arith) b.going.counter low in
    let long : length c.turn-t.result.now ≡ n = rw c.turn-t.ensures (down-length e b.fetcher.counter n) in
    let most : length c.turn-t.result.now ≤ b.left = omega (arith, long, c.min.ensures, c.min-n.ensures) in
    MatchResult-weaker c.block_of_rest.result c.block_of_rest.ensures
    (λ _ h. next_on b.chain c.args.mem.now b.fetcher e c.turn-t.result.now (rw c.turn-t.ensures block) (rw c.turn-t.ensures reads) _ h.1 b.left _ most (h.0 ∙ omega (arith, long)))
    (λ r o. next_over b.chain c.args.mem.now b.fetcher e c.turn-t.result.now (rw c.turn-t.ensures block) (rw c.turn-t.ensures reads) r _ o b.left most)
