use Rattle.std.proofs.Common.{rules, ℕ, ◌+◌, ap, arith}
use Rattle.tidy.proofs.Answers.{no_room, ready, written}
use Rattle.tidy.proofs.write.Goals as goal

pub returns-then-out-end : goal.returns-then-out-end
returns-then-out-end c =
    no_room c.args.given (omega arith) _ _ _ c.gather-m.new.places c.args.out.now c.gather-m.result c.gather-m.ensures (search rules) _ (ap (λ (n : ℕ). 6 + n) c.long-end.ensures.0) c.if-out-end.true

pub stream-requires : goal.stream-requires
stream-requires c =
    ready c.args.given (omega arith) _ _ _ c.gather-m.new.places c.args.out.now c.gather-m.result c.gather-m.ensures (search rules) _ (ap (λ (n : ℕ). 6 + n) c.long-end.ensures.0) (search rules) c.if-out-end.false

pub returns : goal.returns
returns c =
    written c.args.given (omega arith) _ _ _ c.gather-m.new.places c.args.out.now c.gather-m.result c.gather-m.ensures (search rules) _ (ap (λ (n : ℕ). 6 + n) c.long-end.ensures.0) _ c.if-out-end.false c.stream.ensures
