use Rattle.std.proofs.Common.{arith, refl, sym, ap, subst, ◌∙◌, ℕ, List, length, take, replicate}
use borrow.Author.Tests.{eqb-false}
use lib.Seq.{sets}
use Rattle.chain.specs.Paper.{done}
use Rattle.chain.specs.Refusal.{number_of}
use Rattle.chain.specs.Kinds.{size_of}
use Rattle.chain.proofs.PassedUp.{not_done}
use Rattle.sheet.specs.Stream.{Device, device}
use Rattle.sheet.specs.Sheet.{streams_of, rows_of, sums_of, numbers_of, figures_of}
use Rattle.sheet.proofs.Left.{Idle, reset_idle}
use Rattle.sheet.proofs.Accepted.{accepted}
use Rattle.sheet.proofs.Whole.{made_device, refused, filled}
use Rattle.sheet.proofs.load_sheet.Goals as goal

-- `sheet::load_sheet` meets its contract. Assumes nothing.
pub returns-in-Err : goal.returns-in-Err
returns-in-Err c =
    let a = c.args in
    let e = c.in-Err.refusal in
    refused a.kind a.mode a.streams.now a.lengths.now a.numbers.now a.figures.now _ (number_of e) c.in-Err.ensures.number (eqb-false (number_of e) done (not_done e)) c.refused.ensures

pub rows-requires : goal.rows-requires
rows-requires c =
    let a = c.args in
    let o = c.in-Ok.ensures in
    let x = accepted a.kind a.mode a.streams.now a.lengths.now (length a.numbers.now) (length a.figures.now) (sym o.number) in
    let n = c.from-size.ensures ∙ c.size.ensures.value ∙ ap size_of o.named.0 in
    let dev = made_device a.kind c.number.result c.from-size.result c.new.result x.known (c.number.ensures ∙ o.named.0) n (omega (arith, c.from-size.ensures, c.size.ensures.bounds)) c.new.ensures.made in
    let i = subst Idle (sym dev) (reset_idle a.kind x.known) in
    (i.ready, i.bytes, refl, refl, x.few, x.exact, x.short, x.room_numbers, x.room_figures)

pub returns : goal.returns
returns c =
    let a = c.args in
    let o = c.in-Ok.ensures in
    let x = accepted a.kind a.mode a.streams.now a.lengths.now (length a.numbers.now) (length a.figures.now) (sym o.number) in
    let n = c.from-size.ensures ∙ c.size.ensures.value ∙ ap size_of o.named.0 in
    let dev = made_device a.kind c.number.result c.from-size.result c.new.result x.known (c.number.ensures ∙ o.named.0) n (omega (arith, c.from-size.ensures, c.size.ensures.bounds)) c.new.ensures.made in
    let d : Device = device c.new.result.chain (take c.from-size.result (replicate 16381 0)) in
    let ss : List (List ℕ) = streams_of a.lengths.now a.streams.now in
    let e = c.rows.ensures in
    filled a.kind a.mode a.streams.now a.lengths.now a.numbers.now a.figures.now done o.number refl d dev _ _ _
    (e.value ∙ ap (λ (k : ℕ). sums_of (rows_of d k ss)) o.named.1)
    (e.numbers_after ∙ ap (λ (k : ℕ). sets a.numbers.now 0 (numbers_of (rows_of d k ss))) o.named.1)
    (e.figures_after ∙ ap (λ (k : ℕ). sets a.figures.now 0 (figures_of (rows_of d k ss))) o.named.1)
