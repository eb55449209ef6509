use Rattle.std.proofs.Common.{rules, ◌≡◌, sym, ap, length, ◌∙◌, arith}
use Rattle.chain.specs.Refusal.{answered, number_of as refusal_number}
use Rattle.writer.specs.Write.{sum_of}
use Rattle.writer.proofs.Windows.{used_up, number_stops, number-goes, number-done, sum_done}
use Rattle.writer.proofs.tables.Tables.sum.Goals as goal

pub returns-in_err-tested-clause-number : goal.returns-in_err-tested-clause-number
returns-in_err-tested-clause-number c =
    let x = c.in-Some.ensures.steps in
    let e = c.in_err-tested.field-0.0 in
    let q : answered c.from_residual.result ≡ refusal_number e = search rules in
    q ∙ sym (c.loop-start.invariant.4 ∙ rw (x.0, x.1) (number_stops c.args.size _ _ _ _ e c.in_err-tested.ensures))

pub loop-start-preserved : goal.loop-start-preserved
unfolding sum_of
loop-start-preserved c =
    let x = c.in-Some.ensures.steps in
    let k = c.loop-start.invariant in (
      k.0,
      k.1,
      omega (arith, ap length x.0, ap length x.1),
      omega (arith, ap length x.0, c.width-sum.ensures.upper_bound),
      k.4 ∙ rw (x.0, x.1) (number-goes c.args.size _ _ _ _ c.in_ok-tested.ensures),
      k.5 ∙ rw (x.0, x.1) (omega (arith, c.width-sum.ensures.value)),
    )

pub returns-clause-number : goal.returns-clause-number
returns-clause-number c =
    let k = c.loop-start.invariant in
    sym (k.4 ∙ number-done c.args.size _ _ (used_up _ _ k.2 c.in-None.ensures.steps))

pub returns-clause-sum : goal.returns-clause-sum
returns-clause-sum c =
    let k = c.loop-start.invariant in
    let z = sum_done c.loop-start.start-iterator.a.rest.now c.loop-start.start-iterator.b.rest.now (used_up _ _ k.2 c.in-None.ensures.steps) in
    (omega (arith, k.5), omega (arith, c.args.self.few))
