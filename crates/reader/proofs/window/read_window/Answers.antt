use mathlib.Core.Path.{sym, ◌∙◌}
use native.Mathlib.Omega.{arith}
use Rattle.reader.proofs.Windows.{tested_bad, tested_good, no_start, start_bad, no_end, end_bad, no_data, found_whole, read_whole}
use borrow.Author.Rules.{rules}
use Rattle.reader.proofs.window.read_window.Goals as goal

pub returns-then-left-lt3 : goal.returns-then-left-lt3
returns-then-left-lt3 c = let a = c.args in rw c.used_up.ensures (no_start a.size a.s.now a.at (omega arith))

pub returns-then-size-start : goal.returns-then-size-start
returns-then-size-start c = let a = c.args in rw c.refused.ensures (start_bad a.size a.s.now a.at (omega arith) (search rules))

pub returns-then-left-lt5 : goal.returns-then-left-lt5
returns-then-left-lt5 c = let a = c.args in rw c.used_up-then-left-lt5.ensures (no_end a.size a.s.now a.at (search rules) (omega arith))

-- the start is inside, so that it is the end that refuses the window
pub returns-in-Err : goal.returns-in-Err
returns-in-Err c =
    let a = c.args in
    let o = tested_bad a.size _ _ c.in-Err.refusal (search rules) c.in-Err.ensures in
    rw (c.refused-in-Err.ensures, o.0) (end_bad a.size a.s.now a.at (search rules) (omega arith) (rw (c.pair-start.ensures, c.pair-end.ensures) at o.1))

pub returns-then-left-cells : goal.returns-then-left-cells
returns-then-left-cells c =
    let a = c.args in
    let g = tested_good a.size c.pair-start.result c.pair-end.result c.if-size-start.false c.in_default.ensures in
    let inside = rw (c.pair-start.ensures, c.pair-end.ensures) at g in
    rw c.used_up-then-left-cells.ensures (no_data a.size a.s.now a.at (search rules) inside (omega arith))

pub returns : goal.returns
returns c =
    let a = c.args in
    let start = c.pair-start in
    let end = c.pair-end in
    let g = tested_good a.size start.result end.result c.if-size-start.false c.in_default.ensures in
    let inside = rw (start.ensures, end.ensures) at g in
    sym (read_whole a.size a.s.now a.at (found_whole a.size a.s.now a.at (search rules) inside (omega arith))
    ∙ rw (c.width-cells.ensures.value, start.ensures, end.ensures))
