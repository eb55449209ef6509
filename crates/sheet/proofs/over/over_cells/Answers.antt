use Rattle.std.proofs.Common.{arith, ap, ℕ, ◌≡◌, ◌+◌, ◌-◌}
use Rattle.sheet.specs.Count.{sum_from}
use Rattle.sheet.proofs.Sums.{sum_next, sum_split, sum_none}
use Rattle.sheet.proofs.over.over_cells.Goals.{else-loop-start-test, then-loop-start-test+else-loop-i-test+else-n-start-gt4096}
use Rattle.sheet.proofs.over.over_cells.Goals as goal

pub loop-i-preserved : goal.loop-i-preserved
loop-i-preserved g c = (
  omega (arith, c.requires.small c.loop-i.i c.f-few.result c.f-few.ensures),
  λ f h.
      omega (
        arith,
        h c.loop-i.i c.f-few.result (omega arith) c.f-few.ensures,
        c.loop-i.invariant.1 f h,
        sum_next f c.loop-i.i c.min-i-end.result (omega arith),
      ),
)

pub loop-start-preserved : goal.loop-start-preserved
loop-start-preserved g c = (
  omega arith,
  λ f h.
      let n = c.args.n in
      let s = c.loop-start.start in
      let e = c.min-i-end.result in
      let full : e ≡ s + 4096 = omega arith in
      omega (
        arith,
        c.loop-start.invariant.1 f h,
        c.loop-i.invariant.1 f h,
        sum_none f c.loop-i.i e (omega arith),
        ap (λ (x : ℕ). sum_from f s (x - s)) full,
        sum_split f s (s + 4096) n (omega arith) (omega arith),
      ),
)

pub returns : goal.returns
returns g c = λ f h.
    let n = c.args.n in
    let s = c.loop-start.start in
    elim c.loop-start-test.branch [
      | else-loop-start-test w ↦ omega (arith, w.sum-is, c.loop-start.invariant.1 f h, sum_none f s n (omega arith))
      | then-loop-start-test+else-loop-i-test+else-n-start-gt4096 w ↦
          let e = w.min-i-end.result in
          let last : e ≡ n = omega arith in
          omega (
            arith,
            w.sum-is,
            c.loop-start.invariant.1 f h,
            w.loop-i.invariant.1 f h,
            sum_none f w.loop-i.i e (omega arith),
            ap (λ (x : ℕ). sum_from f s (x - s)) last,
          )
    ]
