use Rattle.std.proofs.Common.{rules}
use Rattle.writer.proofs.Windows.{used_up}
use Rattle.writer.proofs.Turn.{enough, turn, done}
use Rattle.writer.proofs.put.windows.Goals as goal

pub slice_bounds-window-end : goal.slice_bounds-window-end
slice_bounds-window-end c =
    let s = c.args in
    let k = c.loop-start in
    (enough s.tables.starts.now s.tables.ends.now s.cells.now s.out.now c.requires.1 k.out k.out _ _ _ _ k.at k.from c.width.result _ _ k.invariant.2 c.in-Some.ensures.steps.0 c.in-Some.ensures.steps.1 c.width.ensures.value).0

pub loop-start-preserved : goal.loop-start-preserved
loop-start-preserved c =
    let s = c.args in
    let k = c.loop-start in (
      search rules,
      search rules,
      turn s.tables.starts.now s.tables.ends.now s.cells.now s.out.now c.requires.1 k.out c.window-at.new.out _ _ _ _ k.at k.from c.width.result _ _ k.invariant.2 c.in-Some.ensures.steps.0 c.in-Some.ensures.steps.1 c.width.ensures.value
          c.window-at.result c.window-at.ensures.value c.window-at.ensures.out_after,
    )

pub returns-clause-value : goal.returns-clause-value
returns-clause-value c =
    let s = c.args in
    let k = c.loop-start in
    let h = used_up _ _ k.invariant.2.same c.in-None.ensures.steps in
    (done s.tables.starts.now s.tables.ends.now s.cells.now s.out.now c.requires.1 k.out _ _ k.at k.from k.invariant.2 h).0

pub returns-clause-out_after : goal.returns-clause-out_after
returns-clause-out_after c =
    let s = c.args in
    let k = c.loop-start in
    let h = used_up _ _ k.invariant.2.same c.in-None.ensures.steps in
    (done s.tables.starts.now s.tables.ends.now s.cells.now s.out.now c.requires.1 k.out _ _ k.at k.from k.invariant.2 h).1
