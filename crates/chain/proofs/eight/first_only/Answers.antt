use Rattle.std.proofs.Common.{rules, ◌≡◌, length, min}
use Rattle.chain.proofs.Turns.{first_filled}
use Rattle.chain.proofs.eight.first_only.Goals as goal

pub returns : goal.returns
returns c =
    let eight : length c.args.xs ≡ 8 = search rules in
    let least : c.min.result ≡ min c.args.n 8 = cc in
    first_filled c.args.xs c.fill.new.self c.args.n c.min.result eight least (c.fill.ensures.after (λ y e. e))
