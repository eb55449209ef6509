use Rattle.std.proofs.Common.{ℕ, ◌≡◌, refl, sym, ap, ◌*◌, ◌%◌, ◌∙◌, arith}
use lib.Dec.{eqb}
use Rattle.chain.specs.Paper.{preamble}
use Rattle.hunt.specs.Bits.{byte_at}
use Rattle.hunt.proofs.Windows.{byte_joined, byte-whole}
use Rattle.hunt.proofs.Found.{begins_in, begins_out}
use Rattle.hunt.proofs.begins.Goals as goal

pub returns-then-s-p : goal.returns-then-s-p
returns-then-s-p c = sym (begins_out c.args.s.now c.args.p (omega arith))

pub returns-then-k-eq0 : goal.returns-then-k-eq0
returns-then-k-eq0 c =
    let s = c.args.s.now in
    let q = c.of-at.result.byte in
    let at : 8 * q ≡ c.args.p = omega arith in
    let byte = sym (byte-whole s q (c.type_inv.s q).fits) ∙ ap (byte_at s) at in
    ap (λ (x : ℕ). eqb x preamble) byte ∙ sym (begins_in s c.args.p (omega arith))

pub returns : goal.returns
returns c =
    let s = c.args.s.now in
    let q = c.of-at.result.byte in
    let byte = c.joined.ensures ∙ byte_joined s q (c.of-at.result.bit % 8) _ _ (c.type_inv.s q).fits (omega arith) refl refl ∙ ap (byte_at s) c.of-at.ensures in
    ap (λ (x : ℕ). eqb x preamble) byte ∙ sym (begins_in s c.args.p (omega arith))
