-- A law for each of the three ways.
use Rattle.std.proofs.Common.{sym, ◌≡◌, ◌∙◌, [], ◌∷◌, arith, rules}
use Rattle.chain.specs.Paper.{bad_chain}
use Rattle.listing.specs.Program.{answer_line, program_lines}
use Rattle.listing.proofs.Decimal.{where_line}
use Rattle.listing.proofs.Listings.{lines_whole}
use Rattle.listing.proofs.Ways.{kind_known, hunt_answer, hunt_count, hunt_fails_lem, hunt_finds, hunt_inside, hunt_front, way_kind, way_nowhere, way_hunted}
use Rattle.listing.proofs.text.hunted.Goals as goal

pub returns-in_err-try_from-clause-err : goal.returns-in_err-try_from-clause-err
returns-in_err-try_from-clause-err c =
    let e = c.in_err-try_from.ensures in
    let way : program_lines c.args.kind c.args.mode c.args.s.now ≡ answer_line bad_chain 0 (0 ∷ 0 ∷ []) = way_kind c.args.kind c.args.mode c.args.s.now c.requires.hunts e.1 in
    let same = e.0 in
    search rules

pub returns-then-h-ne-DONE-clause-err : goal.returns-then-h-ne-DONE-clause-err
returns-then-h-ne-DONE-clause-err c =
    let a = c.args in
    let h = c.hunt-h in
    let f = hunt_fails_lem a.s.now _ h.result _ h.ensures (search rules) c.if-h-ne-DONE.true in
    way_nowhere a.kind a.mode a.s.now (kind_known c.in_ok-try_from.field-0 a.kind c.in_ok-try_from.ensures) c.requires.hunts f

pub slice_bounds-found-end : goal.slice_bounds-found-end
slice_bounds-found-end c =
    let f = hunt_inside c.args.s.now _ c.hunt-h.result _ c.hunt-h.ensures (search rules) c.if-h-ne-DONE.false in
    search rules

pub slice_bounds-listed-end : goal.slice_bounds-listed-end
slice_bounds-listed-end c = hunt_count c.args.s.now _ c.hunt-h.result _ c.hunt-h.ensures (search rules) c.if-h-ne-DONE.false

pub line-requires-clause-room : goal.line-requires-clause-room
line-requires-clause-room c =
    let l = c.listed-text in
    let h = c.hunt-h.result in
    omega (arith, l.ensures.upper_bound, where_line l.result.0.number l.result.0.taken h.p h.left (search rules) (search rules) (search rules) (search rules))

pub returns-clause-ok : goal.returns-clause-ok
returns-clause-ok c =
    let a = c.args in
    let h = c.hunt-h in
    let l = c.listed-text in
    let f = hunt_finds a.s.now _ h.result _ h.ensures (search rules) c.if-h-ne-DONE.false in
    let g = hunt_front a.s.now _ h.result _ h.ensures (search rules) c.if-h-ne-DONE.false in
    let w = hunt_answer a.s.now _ h.result _ h.ensures (search rules) in
    let e = way_hunted a.kind a.mode a.s.now (kind_known c.in_ok-try_from.field-0 a.kind c.in_ok-try_from.ensures) c.requires.hunts h.result w f in
    let r = rw g at l.ensures in
    lines_whole a.kind a.mode _ l.result.1.bytes _ l.result.0.number l.result.0.taken _ r.number r.taken r.lines c.line.ensures ∙ sym e
