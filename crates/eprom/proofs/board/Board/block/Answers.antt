use Rattle.std.proofs.Common.{◌<◌, ◌^◌, sym, refl, ap, ◌∙◌, arith, length-take-le}
use Rattle.machine.specs.declared.Fed.{Fed}
use Rattle.eprom.proofs.BlockAnswers.{astray_is, jump_is, lost, used_low, went_all, went_going, ended-all}
use Rattle.eprom.proofs.board.Board.block.Goals as goal

pub returns-then-is_astray : goal.returns-then-is_astray
returns-then-is_astray c =
    let b = c.args.self.now in
    rw (c.fed.ensures, c.refuse-r.ensures, c.ended-g.ensures, c.further.ensures)
    (lost b.chain c.args.mem.now b.fetcher c.args.t.now c.requires (sym (astray_is b.chain.place b.fetcher c.jump-jump.result c.jump-jump.ensures c.is_astray.result c.is_astray.ensures) ∙ c.if-is_astray.true))

pub slice_bounds-keep-end : goal.slice_bounds-keep-end
slice_bounds-keep-end c =
    let b = c.args.self.now in
    let low : b.chain.place.taken < 2 ^ 32 = omega arith in
    rw c.taken-r.ensures.value
    (sym (length-take-le _ c.args.t.now (used_low b.chain c.args.mem.now b.fetcher c.args.t.now c.requires (sym (astray_is b.chain.place b.fetcher c.jump-jump.result c.jump-jump.ensures c.is_astray.result c.is_astray.ensures) ∙ c.if-is_astray.false) low).0))

pub further-later-requires : goal.further-later-requires
further-later-requires c =
    let b = c.args.self.now in
    let low : b.chain.place.taken < 2 ^ 32 = omega arith in
    rw c.taken-r.ensures.value
    (used_low b.chain c.args.mem.now b.fetcher c.args.t.now c.requires (sym (astray_is b.chain.place b.fetcher c.jump-jump.result c.jump-jump.ensures c.is_astray.result c.is_astray.ensures) ∙ c.if-is_astray.false) low).1

pub invariant_of-self : goal.invariant_of-self
invariant_of-self c =
    let b = c.args.self.now in
    let low : b.chain.place.taken < 2 ^ 32 = omega arith in
    record {
      going =
          rw (c.unwrap_or.ensures, jump_is b.chain.place b.fetcher c.jump-jump.result c.jump-jump.ensures c.further-later.result, c.further-later.ensures, c.keep-g.ensures, c.taken-r.ensures.value)
          (went_going b.chain c.args.mem.now b.fetcher c.args.t.now c.requires (sym (astray_is b.chain.place b.fetcher c.jump-jump.result c.jump-jump.ensures c.is_astray.result c.is_astray.ensures) ∙ c.if-is_astray.false) low
          (sym (ap (λ (x : Fed). x.answer.number) c.taken-r.ensures.value) ∙ c.if-r-ne-MORE.false));
    }

pub returns : goal.returns
returns c =
    let b = c.args.self.now in
    let low : b.chain.place.taken < 2 ^ 32 = omega arith in (
      refl,
      rw (c.unwrap_or.ensures, jump_is b.chain.place b.fetcher c.jump-jump.result c.jump-jump.ensures c.further-later.result, c.further-later.ensures, c.keep-g.ensures, c.taken-r.ensures.mem_after, c.taken-r.ensures.value)
          (went_all b.chain c.args.mem.now b.fetcher c.args.t.now c.requires (sym (astray_is b.chain.place b.fetcher c.jump-jump.result c.jump-jump.ensures c.is_astray.result c.is_astray.ensures) ∙ c.if-is_astray.false) low
          (sym (ap (λ (x : Fed). x.answer.number) c.taken-r.ensures.value) ∙ c.if-r-ne-MORE.false)),
    )

pub returns-then-r-ne-MORE : goal.returns-then-r-ne-MORE
returns-then-r-ne-MORE c =
    let b = c.args.self.now in
    let low : b.chain.place.taken < 2 ^ 32 = omega arith in
    rw (c.fed-then-r-ne-MORE.ensures, c.ended-h.ensures, c.further-later.ensures, c.keep-g.ensures, c.taken-r.ensures.mem_after, c.taken-r.ensures.value)
    (ended-all b.chain c.args.mem.now b.fetcher c.args.t.now c.requires (sym (astray_is b.chain.place b.fetcher c.jump-jump.result c.jump-jump.ensures c.is_astray.result c.is_astray.ensures) ∙ c.if-is_astray.false) low
    (λ e. c.if-r-ne-MORE.true (ap (λ (x : Fed). x.answer.number) c.taken-r.ensures.value ∙ e)))
