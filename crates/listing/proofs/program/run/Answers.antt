use Rattle.listing.proofs.Whole.{passes}
use Rattle.listing.proofs.program.run.Goals as goal

pub returns : goal.returns
returns g c =
    let r = c.read_full-n in
    passes r.result.1 _ _ _ _ r.new.block _ _ r.result.0 _ r.auto.block r.ensures.prefix_len.1 r.ensures.bytes r.ensures.end c.text-k.ensures.writes c.in_ok-write_all.ensures.bytes
