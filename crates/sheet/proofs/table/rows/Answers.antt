use Rattle.std.proofs.Common.{rules, arith, refl, sym, subst, ◌≡◌, ◌∙◌, ap, ◌+◌, ◌-◌, [], ◌∷◌, get_or, take, drop}
use Rattle.chain.specs.Paper.{done}
use Rattle.chain.specs.Mode.{mode_number}
use Rattle.chain.proofs.Bytes.{bytes_by}
use Rattle.sheet.specs.declared.Sheet.{Sheet}
use Rattle.sheet.specs.Stream.{Device, device, left_by, row_of}
use Rattle.sheet.specs.Sheet.{figures_of, refused_sheet}
use Rattle.sheet.specs.Steps.{plus, Small}
use Rattle.sheet.proofs.Left.{Idle}
use Rattle.sheet.proofs.Loading.{mode_known}
use Rattle.sheet.proofs.TableLaws.{row_entered}
use Rattle.sheet.proofs.Entering.{entering_begins, entering_turn, next_small, entered}
use Rattle.sheet.proofs.table.rows.Goals as goal

pub loop-i-init : goal.loop-i-init
loop-i-init c =
    let a = c.args in
    let d : Device = device a.target.chain a.target.memory.now in
    let i : Idle d = record { ready = c.requires.0; bytes = c.requires.1 } in
    let e : c.default-sums.result ≡ refused_sheet done = search rules in
    record { entering = rw e (entering_begins (mode_number a.mode) a.streams.now a.lengths.now d a.numbers.now a.figures.now i c.requires.5); repeats = c.requires.2; marks = refl }

pub plus-sums-requires : goal.plus-sums-requires
plus-sums-requires c =
    let a = c.args in
    let l = c.loop-i in
    let u = bytes_by a.streams.now (λ i h. (c.type_inv.streams i).fits) in
    let d : Device = device l.target.chain l.target.memory.now in
    subst (λ (r : Sheet). Small (plus l.sums r)) (sym c.load-row.ensures.row_value)
    (next_small (mode_number a.mode) a.streams.now a.lengths.now (device a.target.chain a.target.memory.now) a.numbers.now a.figures.now d l.numbers l.figures l.sums l.at l.i l.invariant.entering
    c.loop-i-test.true (mode_known a.mode) c.requires.6 c.requires.4 u)

pub loop-i-preserved : goal.loop-i-preserved
loop-i-preserved c =
    let a = c.args in
    let l = c.loop-i in
    let k = mode_number a.mode in
    let ss = a.streams.now in
    let ls = a.lengths.now in
    let u = bytes_by ss (λ i h. (c.type_inv.streams i).fits) in
    let d₀ : Device = device a.target.chain a.target.memory.now in
    let d : Device = device l.target.chain l.target.memory.now in
    let s = take (l.at + get_or ls l.i 0 - l.at) (drop l.at ss) in
    let e = c.load-row.ensures in
    let ys = c.copy_from_slice.new.self in
    let six : ys ≡ figures_of (row_of d k s ∷ []) = c.copy_from_slice.ensures.after ∙ c.figures.ensures ∙ ap (λ (r : Sheet). figures_of (r ∷ [])) e.row_value in
    let g = row_entered l.figures ys l.i (row_of d k s) six (omega (arith, c.loop-i-test.true, l.auto.figures, c.requires.8)) in
    let t =
    entering_turn k ss ls d₀ a.numbers.now a.figures.now d l.numbers l.figures l.sums l.at l.i l.invariant.entering c.loop-i-test.true (mode_known a.mode) c.requires.6 c.requires.4 u
    _ g in
    record {
      entering =
          entered k ss ls d₀ a.numbers.now a.figures.now (left_by d k s) (row_of d k s) l.numbers _ l.sums (l.at + get_or ls l.i 0) (l.i + 1) l.i t e.chain_value e.memory_after e.row_value
          c.plus-sums.ensures;
      repeats = e.before_after ∙ sym e.memory_after;
      marks = e.marks_after ∙ l.invariant.marks;
    }
