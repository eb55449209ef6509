use mathlib.Core.Path.{refl, ap, sym, ◌∙◌}
use native.Mathlib.Omega.{arith}
use lib.ListN.{length}
use Rattle.std.proofs.lemmas.Result.{err_from_is_err_and}
use Rattle.chain.specs.declared.refusal.Refusal.TheVariants.{BadChain, BadMode, TooShort}
use Rattle.chain.specs.Kinds.{size_of}
use Rattle.reader.specs.Stops.{Stop}
use Rattle.reader.proofs.Streams.{stream-done}
use Rattle.lister.proofs.Listings.{stop_kind, stop_mode, stop_stream, stop_room, stop_none}
use Rattle.lister.proofs.Tables.{lists_none, refused_small, lists_all}
use Rattle.lister.proofs.listing.Goals as goal

pub returns-in_err-try_from-clause-lists : goal.returns-in_err-try_from-clause-lists
returns-in_err-try_from-clause-lists c =
    let a = c.args in
    let p = err_from_is_err_and c.from_residual.result c.from_residual.ensures.1 in
    rw (p.1, p.2, c.in_err-try_from.ensures.0)
    (lists_none a.kind a.mode a.s.now a.starts.now a.ends.now a.offsets.now (size_of a.kind) refl (record { refusal = BadChain; taken = 0 }) (stop_kind (size_of a.kind) a.mode a.s.now (length a.starts.now) (length a.ends.now) (length a.offsets.now) c.in_err-try_from.ensures.1))

pub returns-in_err-try_from-2-clause-lists : goal.returns-in_err-try_from-2-clause-lists
returns-in_err-try_from-2-clause-lists c =
    let a = c.args in
    let z = c.size-size.ensures.value ∙ ap size_of c.in_ok-try_from.ensures in
    let b = c.size-size.ensures.bounds in
    let p = err_from_is_err_and c.from_residual-in_err-try_from-2.result c.from_residual-in_err-try_from-2.ensures.1 in
    rw (p.1, p.2, c.in_err-try_from-2.ensures.0)
    (lists_none a.kind a.mode a.s.now a.starts.now a.ends.now a.offsets.now _ z (record { refusal = BadMode; taken = 0 }) (stop_mode c.size-size.result a.mode a.s.now (length a.starts.now) (length a.ends.now) (length a.offsets.now) (λ e. omega arith) c.in_err-try_from-2.ensures.1))

pub returns-in_err-taken-clause-lists : goal.returns-in_err-taken-clause-lists
returns-in_err-taken-clause-lists c =
    let a = c.args in
    let z = c.size-size.ensures.value ∙ ap size_of c.in_ok-try_from.ensures in
    let b = c.size-size.ensures.bounds in
    let p = err_from_is_err_and c.from_residual-in_err-taken.result c.from_residual-in_err-taken.ensures.1 in
    rw (p.1, p.2)
    (lists_none a.kind a.mode a.s.now a.starts.now a.ends.now a.offsets.now _ z _ (stop_stream c.size-size.result a.mode a.s.now (length a.starts.now) (length a.ends.now) (length a.offsets.now) (λ e. omega arith) _ c.in_ok-try_from-2.ensures _ c.in_err-taken.ensures))

pub returns-in_err-taken-clause-small : goal.returns-in_err-taken-clause-small
returns-in_err-taken-clause-small c =
    let a = c.args in
    let z = c.size-size.ensures.value ∙ ap size_of c.in_ok-try_from.ensures in
    let b = c.size-size.ensures.bounds in
    let p = err_from_is_err_and c.from_residual-in_err-taken.result c.from_residual-in_err-taken.ensures.1 in
    rw (p.1, p.2)
    (refused_small a.kind a.mode a.s.now a.starts.now a.ends.now a.offsets.now _ z _ (omega arith) (stop_stream c.size-size.result a.mode a.s.now (length a.starts.now) (length a.ends.now) (length a.offsets.now) (λ e. omega arith) _ c.in_ok-try_from-2.ensures _ c.in_err-taken.ensures))

pub bounds-s-p : goal.bounds-s-p
bounds-s-p c =
    let a = c.args in
    let h = stream-done c.size-size.result a.mode a.s.now (sym (ap (λ (e : Stop). e.number) c.in_ok-taken.ensures)) in
    omega arith

pub returns-then-starts-n-clause-lists : goal.returns-then-starts-n-clause-lists
returns-then-starts-n-clause-lists c =
    let a = c.args in
    let z = c.size-size.ensures.value ∙ ap size_of c.in_ok-try_from.ensures in
    let b = c.size-size.ensures.bounds in
    lists_none a.kind a.mode a.s.now a.starts.now a.ends.now a.offsets.now _ z (record { refusal = TooShort; taken = c.in_ok-taken.taken }) (stop_room c.size-size.result a.mode a.s.now (length a.starts.now) (length a.ends.now) (length a.offsets.now) (λ e. omega arith) _ c.in_ok-try_from-2.ensures _ c.in_ok-taken.ensures (rw c.preamble_at-p.ensures.value at c.if-starts-n.true))

pub returns-then-starts-n-clause-small : goal.returns-then-starts-n-clause-small
returns-then-starts-n-clause-small c =
    let a = c.args in
    let z = c.size-size.ensures.value ∙ ap size_of c.in_ok-try_from.ensures in
    let b = c.size-size.ensures.bounds in
    refused_small a.kind a.mode a.s.now a.starts.now a.ends.now a.offsets.now _ z _ (omega arith) (stop_room c.size-size.result a.mode a.s.now (length a.starts.now) (length a.ends.now) (length a.offsets.now) (λ e. omega arith) _ c.in_ok-try_from-2.ensures _ c.in_ok-taken.ensures (rw c.preamble_at-p.ensures.value at c.if-starts-n.true))

pub invariant_of-fill : goal.invariant_of-fill
invariant_of-fill c =
    let a = c.args in
    let h = stream-done c.size-size.result a.mode a.s.now (sym (ap (λ (e : Stop). e.number) c.in_ok-taken.ensures)) in
    record { whole = rw c.preamble_at-p.ensures.value h.windows }

pub accepted-requires : goal.accepted-requires
accepted-requires c =
    let a = c.args in
    let z = c.size-size.ensures.value ∙ ap size_of c.in_ok-try_from.ensures in
    let b = c.size-size.ensures.bounds in
    let h = stream-done c.size-size.result a.mode a.s.now (sym (ap (λ (e : Stop). e.number) c.in_ok-taken.ensures)) in
    (omega arith, refused_small a.kind a.mode a.s.now a.starts.now a.ends.now a.offsets.now _ z _ (omega arith) (stop_none c.size-size.result a.mode a.s.now (length a.starts.now) (length a.ends.now) (length a.offsets.now) (λ e. omega arith) _ c.in_ok-try_from-2.ensures _ c.in_ok-taken.ensures (rw c.preamble_at-p.ensures.value at c.if-starts-n.false)))

pub returns-clause-lists : goal.returns-clause-lists
returns-clause-lists c =
    let a = c.args in
    let z = c.size-size.ensures.value ∙ ap size_of c.in_ok-try_from.ensures in
    let b = c.size-size.ensures.bounds in
    rw (c.accepted.ensures, c.fill.ensures.starts_after, c.fill.ensures.ends_after, c.fill.ensures.offsets_after)
    (lists_all a.kind a.mode a.s.now a.starts.now a.ends.now a.offsets.now _ z _ _ c.preamble_at-p.ensures.value (stop_none c.size-size.result a.mode a.s.now (length a.starts.now) (length a.ends.now) (length a.offsets.now) (λ e. omega arith) _ c.in_ok-try_from-2.ensures _ c.in_ok-taken.ensures (rw c.preamble_at-p.ensures.value at c.if-starts-n.false)))
