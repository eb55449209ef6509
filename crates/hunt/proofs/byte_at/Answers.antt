use Rattle.std.proofs.Common.{◌≡◌, sym, ap, ◌*◌, ◌∙◌, ◌+◌, ◌%◌, ◌≤◌, length, get_or, arith}
use Rattle.std.proofs.lemmas.Grind.{common_steps}
use Rattle.hunt.specs.Bits.{byte_at}
use Rattle.hunt.proofs.Windows.{byte_joined, byte_past, byte-whole}
use Rattle.hunt.proofs.byte_at.Goals as goal

pub returns-in_default : goal.returns-in_default
returns-in_default c =
    let a = c.args in
    let past : length a.s.now ≤ a.at.byte = grind (arith, common_steps) in
    sym (byte_past a.s.now a.at.byte (a.at.bit % 8) past (omega arith))

pub returns-then-k-eq0 : goal.returns-then-k-eq0
returns-then-k-eq0 c =
    let a = c.args in
    let s = a.s.now in
    let q = a.at.byte in
    let low : c.in-Some.field-0.now ≡ get_or s q 0 = grind (arith, common_steps) in
    let at : 8 * q ≡ 8 * q + a.at.bit % 8 = omega arith in
    low ∙ sym (byte-whole s q (c.type_inv.s q).fits) ∙ ap (byte_at s) at

pub returns : goal.returns
returns c =
    let a = c.args in
    let s = a.s.now in
    let q = a.at.byte in
    let low : c.in-Some.field-0.now ≡ get_or s q 0 = grind (arith, common_steps) in
    let high : c.unwrap_or.result ≡ get_or s (q + 1) 0 = grind (arith, common_steps) in
    c.joined.ensures ∙ byte_joined s q (a.at.bit % 8) _ _ (c.type_inv.s q).fits (omega arith) low high
