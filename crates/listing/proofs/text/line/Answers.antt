use Rattle.std.proofs.Common.{◌≡◌, ◌<◌, ◌^◌, ◌∙◌, ap, sym, refl, ◌++◌, length, length-append, append_assoc, get_or, rules, arith}
use Rattle.std.specs.Prelude.{encode_utf8}
use Rattle.listing.specs.Lines.{decimal_of}
use Rattle.listing.proofs.Decimal.{decimal_is}
use Rattle.listing.proofs.Putting.{numbers_more, numbers_done, number_fits, feed_fits}
use Rattle.listing.proofs.text.line.Goals as goal

pub push-requires-in-loop-n : goal.push-requires-in-loop-n
unfolding lib.Utf8.encode
push-requires-in-loop-n c =
    let l = c.loop-n in
    let room = number_fits c.args.ns.now l.n-index 4615 l.text.bytes _ _ l.invariant c.requires.room c.loop-n-test.true in
    let one : length (encode_utf8 32) ≡ 1 = refl in
    (omega arith, omega (arith, room, one))

pub push_str-requires : goal.push_str-requires
push_str-requires c =
    let l = c.loop-n in
    let n = get_or c.args.ns.now l.n-index 0 in
    let fits : n < 2 ^ 64 = search rules in
    let room = number_fits c.args.ns.now l.n-index 4615 l.text.bytes _ _ l.invariant c.requires.room c.loop-n-test.true in
    let digits : length c.format.result.now ≡ length (decimal_of n) = ap length (c.format.ensures.text ∙ sym (decimal_is n fits)) in
    let pushed = simp length-append at (ap length (c.push-in-loop-n.ensures.ascii (omega arith))) in
    (omega arith, omega (arith, room, digits, pushed))

pub loop-n-preserved : goal.loop-n-preserved
loop-n-preserved c =
    let l = c.loop-n in
    let n = get_or c.args.ns.now l.n-index 0 in
    let fits : n < 2 ^ 64 = search rules in
    let more = numbers_more c.args.ns.now l.n-index c.loop-n-test.true in
    let digits : c.format.result.now ≡ decimal_of n = c.format.ensures.text ∙ sym (decimal_is n fits) in
    rw (c.push_str.ensures.bytes, digits, c.push-in-loop-n.ensures.ascii (omega arith), append_assoc, append_assoc) (rw more at l.invariant)

pub push-requires-2 : goal.push-requires-2
unfolding lib.Utf8.encode
push-requires-2 c =
    let l = c.loop-n in
    let room = feed_fits c.args.ns.now l.n-index 4615 l.text.bytes _ _ l.invariant c.requires.room (omega arith) in
    let one : length (encode_utf8 10) ≡ 1 = refl in
    (omega arith, omega (arith, room, one))

pub returns : goal.returns
returns c =
    let l = c.loop-n in
    let ns = c.args.ns.now in
    let e : l.n-index ≡ length ns = omega arith in
    c.push-2.ensures.ascii (omega arith) ∙ ap (λ r. l.text.bytes ++ r) (sym (numbers_done ns)) ∙ rw e at l.invariant
