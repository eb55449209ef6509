use mathlib.Core.Path.{◌≡◌, refl, ap, ◌∙◌}
use native.Mathlib.Omega.{arith}
use lib.ListN.{length}
use Rattle.std.proofs.lemmas.Result.{err_from_is_err_and}
use Rattle.chain.specs.Kinds.{size_of}
use Rattle.chain.specs.Refusal.{answered}
use Rattle.salvage.specs.Steps.{kept_in}
use Rattle.salvage.proofs.Answers.{no_kind, cut_short, no-first, no_room, asks, all}
use Rattle.salvage.proofs.mended.Goals.{in-Ok, in-Err}
use Rattle.salvage.proofs.mended.Goals as goal

pub returns-in_err-try_from : goal.returns-in_err-try_from
returns-in_err-try_from c =
    let a = c.args in
    let p = err_from_is_err_and c.from_residual.result c.from_residual.ensures.1 in
    rw (p.1, p.2, c.in_err-try_from.ensures.0) (no_kind a.kind a.s.now a.out.now _ refl _ refl c.in_err-try_from.ensures.1)

pub returns-then-s-lt-HEAD_LENGTH : goal.returns-then-s-lt-HEAD_LENGTH
returns-then-s-lt-HEAD_LENGTH c =
    let a = c.args in
    let z = c.size-size.ensures.value ∙ ap size_of c.in_ok-try_from.ensures in
    let b = c.size-size.ensures.bounds in
    cut_short a.kind a.s.now a.out.now _ z (λ e. omega arith) _ refl c.if-s-lt-HEAD_LENGTH.true

pub returns-then-s : goal.returns-then-s
returns-then-s c =
    let a = c.args in
    let z = c.size-size.ensures.value ∙ ap size_of c.in_ok-try_from.ensures in
    let b = c.size-size.ensures.bounds in
    no-first a.kind a.s.now a.out.now _ z (λ e. omega arith) c.if-s-lt-HEAD_LENGTH.false _ refl c.if-s.true

pub returns-then-out-offset : goal.returns-then-out-offset
returns-then-out-offset c =
    let a = c.args in
    let z = c.size-size.ensures.value ∙ ap size_of c.in_ok-try_from.ensures in
    let b = c.size-size.ensures.bounds in
    no_room a.kind a.s.now a.out.now _ z (λ e. omega arith) c.if-s-lt-HEAD_LENGTH.false c.if-s.false (λ i. (c.type_inv.s i).fits) (kept_in c.keep-front.result (length c.keep-front.new.reaches.items)) _ (c.keep-front.ensures.front_value, c.keep-front.ensures.reaches_after) _ refl c.if-out-offset.true

pub put-requires : goal.put-requires
put-requires c =
    let a = c.args in
    let z = c.size-size.ensures.value ∙ ap size_of c.in_ok-try_from.ensures in
    let b = c.size-size.ensures.bounds in
    rw c.as_slice.ensures.value
    (asks a.kind a.s.now a.out.now _ z (λ e. omega arith) c.if-s-lt-HEAD_LENGTH.false c.if-s.false (λ i. (c.type_inv.s i).fits) (kept_in c.keep-front.result (length c.keep-front.new.reaches.items)) _ (c.keep-front.ensures.front_value, c.keep-front.ensures.reaches_after) c.if-out-offset.false)

pub returns : goal.returns
returns c =
    let a = c.args in
    let z = c.size-size.ensures.value ∙ ap size_of c.in_ok-try_from.ensures in
    let b = c.size-size.ensures.bounds in
    let e : c.match-ended.end ≡ answered c.ended.result = elim c.match-ended.branch [ in-Ok w ↦ w.end-is ∙ rw w.in-Ok.is | in-Err w ↦ w.end-is ∙ w.number-end.ensures ∙ rw w.in-Err.is ] in
    let o = rw c.as_slice.ensures.value at c.put.ensures in
    rw c.len-kept.ensures.value
    (all a.kind a.s.now a.out.now _ z (λ e. omega arith) c.if-s-lt-HEAD_LENGTH.false c.if-s.false (λ i. (c.type_inv.s i).fits) (kept_in c.keep-front.result (length c.keep-front.new.reaches.items)) _ (c.keep-front.ensures.front_value, c.keep-front.ensures.reaches_after) _ _ (e ∙ c.ended.ensures) c.if-out-offset.false o)
