use Rattle.std.proofs.Common.{rules, ◌≡◌, length, sym, ap, ◌∙◌, Err, arith}
use Rattle.chain.specs.declared.refusal.Refusal.{Refusal}
use Rattle.chain.specs.declared.refusal.Refusal.TheVariants.{BadData, TooShort}
use Rattle.chain.specs.Kinds.{size_of}
use Rattle.chain.specs.Refusal.{number_of as refusal_number}
use Rattle.writer.specs.Stream.{lead_in}
use Rattle.writer.specs.Write.{sum_of}
use Rattle.writer.proofs.Accepted.{number_is}
use Rattle.writer.proofs.Answers.{refused, wrote}
use Rattle.writer.proofs.Refused.{named, passes, some_size, by_chain, by_mode, by_tables, by_window, by_data, by_room, by_none}
use Rattle.writer.proofs.try_write.Goals as goal

pub returns-in_err-try_from : goal.returns-in_err-try_from
returns-in_err-try_from c =
    let a = c.args in
    let e : Refusal = c.in_err-try_from.field-0.0 in
    let q : c.from_residual.result ≡ Err e = search rules in
    rw q (refused _ _ a.out.now e (ap refusal_number c.in_err-try_from.ensures.0 ∙ by_chain a.kind a.mode a.starts.now a.ends.now _ _ _ c.in_err-try_from.ensures.1 ∙ number_is a.kind a.mode a.control a.address a.starts.now a.ends.now a.cells.now (length a.out.now)))

pub returns-in_err-mode : goal.returns-in_err-mode
returns-in_err-mode c =
    let a = c.args in
    let is : c.size-size.result ≡ size_of a.kind = c.size-size.ensures.value ∙ ap size_of c.in_ok-try_from.ensures in
    let e : Refusal = c.in_err-mode.field-0.0 in
    let q : c.from_residual-in_err-mode.result ≡ Err e = search rules in
    rw q (refused _ _ a.out.now e (ap refusal_number c.in_err-mode.ensures.0 ∙ by_mode a.kind a.mode a.starts.now a.ends.now _ _ _ (some_size c.size-size.result a.kind c.size-size.ensures.bounds.0 is) c.in_err-mode.ensures.1 ∙ number_is a.kind a.mode a.control a.address a.starts.now a.ends.now a.cells.now (length a.out.now)))

pub returns-in_err-tables : goal.returns-in_err-tables
returns-in_err-tables c =
    let a = c.args in
    let is : c.size-size.result ≡ size_of a.kind = c.size-size.ensures.value ∙ ap size_of c.in_ok-try_from.ensures in
    let e : Refusal = c.in_err-tables.field-0.0 in
    let q : c.from_residual-in_err-tables.result ≡ Err e = search rules in
    rw q (refused _ _ a.out.now e (by_tables a.kind a.mode a.starts.now a.ends.now _ _ _ (some_size c.size-size.result a.kind c.size-size.ensures.bounds.0 is) (named c.in_ok-mode.mode a.mode c.in_ok-mode.ensures) e c.in_err-tables.ensures.number ∙ number_is a.kind a.mode a.control a.address a.starts.now a.ends.now a.cells.now (length a.out.now)))

pub returns-in_err-sum : goal.returns-in_err-sum
returns-in_err-sum c =
    let a = c.args in
    let is : c.size-size.result ≡ size_of a.kind = c.size-size.ensures.value ∙ ap size_of c.in_ok-try_from.ensures in
    let l = c.in_ok-tables.ensures.lent in
    let e : Refusal = c.in_err-sum.field-0.0 in
    let q : c.from_residual-in_err-sum.result ≡ Err e = search rules in
    rw q (refused _ _ a.out.now e (by_window a.kind a.mode a.starts.now a.ends.now _ _ _ (some_size c.size-size.result a.kind c.size-size.ensures.bounds.0 is) (named c.in_ok-mode.mode a.mode c.in_ok-mode.ensures) (passes _ c.in_ok-tables.ensures.number) e (c.in_err-sum.ensures.number ∙ rw (is, l.0, l.1)) ∙ number_is a.kind a.mode a.control a.address a.starts.now a.ends.now a.cells.now (length a.out.now)))

pub returns-then-branch : goal.returns-then-branch
returns-then-branch c =
    let a = c.args in
    let is : c.size-size.result ≡ size_of a.kind = c.size-size.ensures.value ∙ ap size_of c.in_ok-try_from.ensures in
    let l = c.in_ok-tables.ensures.lent in
    let all : c.in_ok-sum.field-0 ≡ sum_of a.starts.now a.ends.now = c.in_ok-sum.ensures.sum.0 ∙ rw (l.0, l.1) in
    refused _ _ a.out.now BadData (by_data a.kind a.mode a.starts.now a.ends.now _ _ _ (some_size c.size-size.result a.kind c.size-size.ensures.bounds.0 is) (named c.in_ok-mode.mode a.mode c.in_ok-mode.ensures) (passes _ c.in_ok-tables.ensures.number) (c.in_ok-sum.ensures.number ∙ rw (is, l.0, l.1)) (λ z. c.if-branch.true (z ∙ sym all)) ∙ number_is a.kind a.mode a.control a.address a.starts.now a.ends.now a.cells.now (length a.out.now))

pub returns-then-out-lead_in : goal.returns-then-out-lead_in
returns-then-out-lead_in c =
    let a = c.args in
    let is : c.size-size.result ≡ size_of a.kind = c.size-size.ensures.value ∙ ap size_of c.in_ok-try_from.ensures in
    let l = c.in_ok-tables.ensures.lent in
    let all : c.in_ok-sum.field-0 ≡ sum_of a.starts.now a.ends.now = c.in_ok-sum.ensures.sum.0 ∙ rw (l.0, l.1) in
    let n : length c.lead_in.result.now ≡ length (lead_in a.mode) = rw (c.lead_in.ensures.value, c.in_ok-mode.ensures) in
    refused _ _ a.out.now TooShort (by_room a.kind a.mode a.starts.now a.ends.now _ _ _ (some_size c.size-size.result a.kind c.size-size.ensures.bounds.0 is) (named c.in_ok-mode.mode a.mode c.in_ok-mode.ensures) (passes _ c.in_ok-tables.ensures.number) (c.in_ok-sum.ensures.number ∙ rw (is, l.0, l.1)) (c.if-branch.false ∙ all) (omega arith) ∙ number_is a.kind a.mode a.control a.address a.starts.now a.ends.now a.cells.now (length a.out.now))

pub returns : goal.returns
returns c =
    let a = c.args in
    let is : c.size-size.result ≡ size_of a.kind = c.size-size.ensures.value ∙ ap size_of c.in_ok-try_from.ensures in
    let l = c.in_ok-tables.ensures.lent in
    let all : c.in_ok-sum.field-0 ≡ sum_of a.starts.now a.ends.now = c.in_ok-sum.ensures.sum.0 ∙ rw (l.0, l.1) in
    let n : length c.lead_in.result.now ≡ length (lead_in a.mode) = rw (c.lead_in.ensures.value, c.in_ok-mode.ensures) in
    let w = c.stream.ensures in
    let m = c.in_ok-mode.ensures in
    wrote _ _ a.out.now _ _ (by_none a.kind a.mode a.starts.now a.ends.now _ _ _ (some_size c.size-size.result a.kind c.size-size.ensures.bounds.0 is) (named c.in_ok-mode.mode a.mode c.in_ok-mode.ensures) (passes _ c.in_ok-tables.ensures.number) (c.in_ok-sum.ensures.number ∙ rw (is, l.0, l.1)) (c.if-branch.false ∙ all) (omega arith) ∙ number_is a.kind a.mode a.control a.address a.starts.now a.ends.now a.cells.now (length a.out.now))
    (w.value ∙ rw (m, l.0, l.1)) (w.out_after ∙ rw (m, l.0, l.1))
