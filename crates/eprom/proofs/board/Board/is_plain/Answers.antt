use Rattle.std.proofs.Common.{ℕ, sym, ap, ◌∙◌, inl, arith, rules}
use Rattle.std.proofs.lemmas.Bool.{not-true}
use Rattle.chain.specs.Paper.{B1}
use Rattle.eprom.specs.Steps.{control_of}
use Rattle.eprom.proofs.ReadBytes.{part_second}
use Rattle.eprom.proofs.board.Board.is_plain.Goals as goal

pub returns-in-Some : goal.returns-in-Some
unfolding control_of
returns-in-Some c =
    λ t f.
    let b = c.args.self.now in
    let z = c.if-self-ne-AT_PREAMBLE.false in
    let v = part_second b.chain.place.mode c.args.e.now b.fetcher.counter c.args.n (search rules) ∙ sym (c.in-Some.ensures {u = tt}) in
    (inl (omega (arith, z)), rw z (ap (λ (x : ℕ). B1 x) v ∙ sym c.jumps.ensures ∙ not-true c.jumps.result t))
