-- A law for each length of the input.
use Rattle.std.proofs.Common.{sym, ap, ◌≡◌, ◌∙◌, false, [], ◌∷◌, get_or, arith, rules}
use Rattle.chain.specs.Paper.{serial}
use Rattle.listing.specs.Lines.{numbers_of}
use Rattle.listing.specs.Program.{answer_line}
use Rattle.listing.proofs.Decimal.{answer_line_lem, where_line}
use Rattle.listing.proofs.Listings.{lines_whole}
use Rattle.listing.proofs.Ways.{no_serial, way_plain}
use Rattle.listing.proofs.Whole.{too_short, too_long, taken}
use Rattle.listing.proofs.text.written.Goals as goal

pub alone-requires-clause-room : goal.alone-requires-clause-room
unfolding numbers_of
alone-requires-clause-room c = omega arith

pub returns-then-input-gt-MOST_INPUT : goal.returns-then-input-gt-MOST_INPUT
returns-then-input-gt-MOST_INPUT c = c.alone.ensures ∙ sym (too_long c.args.input.now c.if-input-gt-MOST_INPUT.true)

pub alone-requires-in_default-clause-room : goal.alone-requires-in_default-clause-room
alone-requires-in_default-clause-room c = omega (arith, answer_line_lem c.number.result 0 (search rules) (omega arith))

pub returns-in_default : goal.returns-in_default
returns-in_default c = c.alone-in_default.ensures ∙ ap (λ n. answer_line n 0 []) c.number.ensures ∙ sym (too_short c.args.input.now c.in_default.len_below)

pub alone-requires-in-Err-clause-room : goal.alone-requires-in-Err-clause-room
alone-requires-in-Err-clause-room c = omega (arith, where_line c.number-in-Err.result 0 0 0 (search rules) (omega arith) (omega arith) (omega arith))

pub returns-in-Ok : goal.returns-in-Ok
returns-in-Ok c =
    c.in-Ok.ensures.ok ∙ sym (taken c.args.input.now c.in-len2-up.len_at_least c.if-input-gt-MOST_INPUT.false)

pub returns-in-Err : goal.returns-in-Err
returns-in-Err c =
    c.alone-in-Err.ensures
    ∙ ap (λ n. answer_line n 0 (0 ∷ 0 ∷ [])) c.number-in-Err.ensures
    ∙ sym c.in-Err.ensures.err
    ∙ sym (taken c.args.input.now c.in-len2-up.len_at_least c.if-input-gt-MOST_INPUT.false)

pub line-requires-clause-room : goal.line-requires-clause-room
line-requires-clause-room c =
    let l = c.listed-text in
    omega (arith, l.ensures.upper_bound, answer_line_lem l.result.0.number l.result.0.taken (search rules) (search rules))

pub returns : goal.returns
returns c =
    let l = c.listed-text in
    let plain : serial (get_or c.args.input.now 0 0) ≡ false = search (rules, no_serial) in
    lines_whole _ _ _ l.result.1.bytes _ l.result.0.number l.result.0.taken _ l.ensures.number l.ensures.taken l.ensures.lines c.line.ensures
    ∙ sym (way_plain _ _ _ plain)
    ∙ sym (taken c.args.input.now c.in-len2-up.len_at_least c.if-input-gt-MOST_INPUT.false)
