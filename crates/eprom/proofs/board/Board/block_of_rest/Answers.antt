use Rattle.std.proofs.Common.{◌<◌, ◌^◌, sym, refl, ap, ◌∙◌, arith}
use Rattle.machine.specs.declared.Fed.{Fed}
use Rattle.eprom.proofs.BlockAnswers.{rest_low, rest_all, rest_going, rest-ended}
use Rattle.eprom.proofs.board.Board.block_of_rest.Goals as goal

pub further-later-requires : goal.further-later-requires
further-later-requires c =
    let b = c.args.self.now in
    let low : b.chain.place.taken < 2 ^ 32 = omega arith in
    rw c.taken-r.ensures.value (rest_low b.chain c.args.mem.now b.fetcher c.args.t.now c.requires.block c.requires.settled low).1

pub invariant_of-self : goal.invariant_of-self
invariant_of-self c =
    let b = c.args.self.now in
    let low : b.chain.place.taken < 2 ^ 32 = omega arith in
    record {
      going =
          rw (c.further-later.ensures, c.taken-r.ensures.value)
          (rest_going b.chain c.args.mem.now b.fetcher c.args.t.now c.requires.block c.requires.settled low
          (sym (ap (λ (x : Fed). x.answer.number) c.taken-r.ensures.value) ∙ c.if-r-ne-MORE.false));
    }

pub returns : goal.returns
returns c =
    let b = c.args.self.now in
    let low : b.chain.place.taken < 2 ^ 32 = omega arith in (
      refl,
      rw (c.further-later.ensures, c.taken-r.ensures.mem_after, c.taken-r.ensures.value)
          (rest_all b.chain c.args.mem.now b.fetcher c.args.t.now c.requires.block c.requires.settled low
          (sym (ap (λ (x : Fed). x.answer.number) c.taken-r.ensures.value) ∙ c.if-r-ne-MORE.false)),
    )

pub returns-then-r-ne-MORE : goal.returns-then-r-ne-MORE
returns-then-r-ne-MORE c =
    let b = c.args.self.now in
    let low : b.chain.place.taken < 2 ^ 32 = omega arith in
    rw (c.fed.ensures, c.ended-h.ensures, c.further-later.ensures, c.taken-r.ensures.mem_after, c.taken-r.ensures.value)
    (rest-ended b.chain c.args.mem.now b.fetcher c.args.t.now c.requires.block c.requires.settled low
    (λ e. c.if-r-ne-MORE.true (ap (λ (x : Fed). x.answer.number) c.taken-r.ensures.value ∙ e)))
