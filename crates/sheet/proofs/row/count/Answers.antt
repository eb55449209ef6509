use Rattle.std.proofs.Common.{rules, arith, ◌≡◌, ◌∙◌, ◌-◌, ◌≤◌, ◌<◌, sym, ap, ℕ, List, length, take, drop, get_or}
use borrow.Rule.Slice.PartMut.{put_mid, same_len_mid}
use Rattle.sheet.specs.Steps.{puts_left, marked, marks_from}
use Rattle.sheet.specs.Count.{cells_stored}
use Rattle.sheet.proofs.Stored.{size_small}
use Rattle.sheet.proofs.Counted.{part_small, ordered_cells, ordered_again, cells-between, marks_count, cleared}
use Rattle.sheet.proofs.row.count.Goals as goal

-- `sheet::row::count` meets its contract. Assumes nothing.
pub returns-then-walked : goal.returns-then-walked
returns-then-walked c =
    let x = c.requires.1 in
    (ordered_cells _ _ c.args.walked x c.if-walked.true, ordered_again _ _ c.args.walked x c.if-walked.true)

pub marked-requires : goal.marked-requires
marked-requires c =
    let s = c.args.stores in
    part_small _ c.args.walked.low c.args.walked.top (omega (arith, size_small s.chain s.size s.writing, c.requires.0, c.mark_all.auto.marks))

pub marked-requires-2 : goal.marked-requires-2
marked-requires-2 c =
    let s = c.args.stores in
    part_small _ c.args.walked.low c.args.walked.top (omega (arith, size_small s.chain s.size s.writing, c.requires.0, c.mark_all.auto.marks))

pub returns : goal.returns
returns c =
    let s = c.args.stores in
    let ps = puts_left s.chain s.bytes.stream.now s.bytes.p s.at in
    let m = c.args.marks.now in
    let low = c.args.walked.low in
    let top = c.args.walked.top in
    let ys = c.fill.new.self in
    let after : List ℕ = put_mid low (top - low) m ys in
    let le : length after ≡ length m = same_len_mid low (top - low) m ys c.fill.ensures.len in
    let x = c.requires.1 in
    let zero = c.fill.ensures.after (λ y h. search rules) in
    let z : (j : ℕ) → low ≤ j → j < top → get_or after j 0 ≡ 0 =
    λ j h g. ap (λ (l : List ℕ). get_or (put_mid low (top - low) m l) j 0) zero ∙ cleared m low top j h g (omega (arith, x.inside, c.requires.0)) in
    let told : (l : List ℕ) → l ≡ marked after ps → (k : ℕ) → 0 < k → k ≤ 2 → marks_from (take (top - low) (drop low l)) k 0 (length (take (top - low) (drop low l))) ≡ cells_stored s.size k ps =
    λ l e k h g. ap (λ (y : List ℕ). marks_from (take (top - low) (drop low y)) k 0 (length (take (top - low) (drop low y)))) e
    ∙ marks_count ps after low top k g x.order (omega (arith, x.inside, le, c.requires.0)) z ∙ sym (cells-between ps s.size c.args.walked x k h) in
    (c.marked.ensures ∙ told _ c.mark_all.ensures 1 (omega arith) (omega arith), c.marked-2.ensures ∙ told _ c.mark_all.ensures 2 (omega arith) (omega arith))
