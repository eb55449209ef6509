use Rattle.std.proofs.Common.{rules, ◌≡◌, refl, length, take, min, add-one}
use Rattle.chain.specs.Kinds.{base_of}
use Rattle.chain.proofs.Base.{base_suc, base_front}
use Rattle.chain.proofs.kinds.base_of.Goals as goal

pub loop-kind-init : goal.loop-kind-init
loop-kind-init c = (search rules, unfold base_of in refl)

pub loop-kind-preserved : goal.loop-kind-preserved
loop-kind-preserved c =
    let i = c.loop-kind.kind-index in
    let ks = take c.min.result c.args.kinds in
    let below = c.loop-kind-test.true in
    (search rules, rw (add-one, base_suc ks i below) (cc))

pub returns-clause-value : goal.returns-clause-value
returns-clause-value c =
    let i = c.loop-kind in
    let eight : length c.args.kinds ≡ 8 = search rules in
    let least : c.min.result ≡ min c.args.device 8 = cc in
    let same = base_front c.args.kinds c.min.result c.args.device i.kind-index eight least (search rules) c.loop-kind-test.false in
    cc
