use Rattle.std.proofs.Common.{arith}
use Rattle.eprom.proofs.Walks.{reach_less}
use Rattle.eprom.proofs.ReadBytes.{part_reads, part_length}
use Rattle.eprom.proofs.board.Board.next.Goals as goal

pub part-requires : goal.part-requires
part-requires c = reach_less c.free-k.result (omega (arith, c.free-k.ensures.most, c.min-n.ensures)) c.reach.ensures.reach

pub returns : goal.returns
returns c =
    let b = c.args.self.now in
    let k = c.free-k.result in
    let s = reach_less k (omega (arith, c.free-k.ensures.most, c.min-n.ensures)) c.reach.ensures.reach in
    let long = part_length b.chain.place.mode c.args.e.now b.fetcher.counter k s in
    rw c.part.ensures
    (record {
      most = omega (arith, long, c.free-k.ensures.most, c.min-n.ensures);
      block = record { going = b.going; free = c.free-k.ensures.free; some = omega (arith, long, c.free-k.ensures.some); most = omega (arith, long, s.few) };
      reads = part_reads b.chain.place.mode c.args.e.now b.fetcher.counter k b.going.counter s;
    })
