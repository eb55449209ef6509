use Prim.Native.Nat.{ℕ, ◌+◌, ◌-◌, ◌*◌, ◌%◌, ◌≤◌, ◌<◌}
use mathlib.Core.Path.{◌≡◌, refl, sym, ap, ◌∙◌}
use mathlib.Core.List.{List}
use native.Mathlib.Omega.{arith}
use lib.ListN.{length}
use lib.Seq.{length-sets, length-take-le}
use Rattle.chain.specs.Paper.{more}
use Rattle.machine.specs.declared.Fed.{Fed}
use Rattle.machine.specs.Run.{Run, run, run_of}
use Rattle.machine.specs.Calls.{fed_of}
use Rattle.machine.proofs.Runs.{run_lasts}
use Rattle.hunt.specs.Bits.{bytes_from}
use Rattle.sheet.proofs.Pieces.{rest_from, rest-none, all_from_lem, assembled, some-piece, fits_piece, piece-over, piece-more, fed_is, number_is}
use Rattle.sheet.proofs.load.load_pieces.Goals as goal

pub overflow_sub-n : goal.overflow_sub-n
overflow_sub-n c = omega arith

pub loop-at-init : goal.loop-at-init
loop-at-init c = (omega arith, refl, refl, refl)

pub slice_bounds-taken-end-in-loop-at : goal.slice_bounds-taken-end-in-loop-at
slice_bounds-taken-end-in-loop-at c =
    let k = ap (λ (x : List ℕ). length x) c.piece-length.ensures.out_after ∙ length-sets (c.loop-at.room) 0 (bytes_from c.args.s.now (8 * c.loop-at.at + c.args.start.bit % 8) c.piece-length.result) in
    sym (length-take-le c.piece-length.result _ (omega (arith, k, c.piece-length.ensures.upper_bound.0)))

pub returns-then-fed-ne-MORE : goal.returns-then-fed-ne-MORE
returns-then-fed-ne-MORE c =
    let a = c.args in
    let s = a.s.now in
    let n = length s - 1 in
    let d = c.loop-at.chain in
    let mem = c.loop-at.mem in
    let at = c.loop-at.at in
    let m = c.piece-length.result in
    let b = assembled s c.loop-at.room a.start.bit at m c.requires.1 c.piece-length.ensures.upper_bound.0 _ c.piece-length.ensures.out_after in
    let h : at + m ≤ n = fits_piece s a.start.bit at m c.requires.0 c.requires.1 c.loop-at-test.true c.piece-length.ensures.upper_bound.1 in
    let r : Run = run_of (run d mem more) (bytes_from s (8 * at + a.start.bit) m) in
    let f = c.taken-fed.ensures.value ∙ ap (λ (x : List ℕ). fed_of (run_of (run d mem more) x)) b in
    let z : r.number ≡ more → ⊥ = λ y. c.if-fed-ne-MORE.true (ap (λ (x : Fed). x.answer.number) f ∙ number_is r ∙ y) in
    let w = ap (run_of (run a.c a.mem.now more)) (all_from_lem s a.start.byte a.start.bit c.requires.0 c.requires.1 c.requires.2) ∙ c.loop-at.invariant.3 ∙ piece-over s a.start.bit n at m h d mem z in
    record { value = f ∙ ap fed_of (sym w); mem_after = c.taken-fed.ensures.mem_after ∙ ap (λ (x : List ℕ). (run_of (run d mem more) x).memory) b ∙ ap (λ (x : Run). x.memory) (sym w) }

pub overflow_add-at : goal.overflow_add-at
overflow_add-at c =
    let a = c.args in
    let s = a.s.now in
    let h : c.loop-at.at + c.piece-length.result ≤ length s - 1 = fits_piece s a.start.bit c.loop-at.at c.piece-length.result c.requires.0 c.requires.1 c.loop-at-test.true c.piece-length.ensures.upper_bound.1 in
    omega (arith, h, c.well_formed)

pub loop-at-smaller : goal.loop-at-smaller
loop-at-smaller c =
    let a = c.args in
    let s = a.s.now in
    let h : c.loop-at.at + c.piece-length.result ≤ length s - 1 = fits_piece s a.start.bit c.loop-at.at c.piece-length.result c.requires.0 c.requires.1 c.loop-at-test.true c.piece-length.ensures.upper_bound.1 in
    let g : 0 < c.piece-length.result = some-piece s a.start.bit c.loop-at.at c.piece-length.result (length c.loop-at.room) c.requires.0 c.requires.1 c.loop-at-test.true (omega (arith, c.loop-at.invariant.2, c.requires.3)) c.piece-length.ensures.upper_bound.2 in
    omega arith

pub loop-at-preserved : goal.loop-at-preserved
loop-at-preserved c =
    let a = c.args in
    let s = a.s.now in
    let n = length s - 1 in
    let d = c.loop-at.chain in
    let mem = c.loop-at.mem in
    let at = c.loop-at.at in
    let m = c.piece-length.result in
    let b = assembled s c.loop-at.room a.start.bit at m c.requires.1 c.piece-length.ensures.upper_bound.0 _ c.piece-length.ensures.out_after in
    let h : at + m ≤ n = fits_piece s a.start.bit at m c.requires.0 c.requires.1 c.loop-at-test.true c.piece-length.ensures.upper_bound.1 in
    let r : Run = run_of (run d mem more) (bytes_from s (8 * at + a.start.bit) m) in
    let f = c.taken-fed.ensures.value ∙ ap (λ (x : List ℕ). fed_of (run_of (run d mem more) x)) b in
    let z : r.number ≡ more = sym (number_is r) ∙ ap (λ (x : Fed). x.answer.number) (sym f) ∙ c.if-fed-ne-MORE.false in
    let g = c.taken-fed.ensures.mem_after ∙ ap (λ (x : List ℕ). (run_of (run d mem more) x).memory) b in (
      h,
      ap (λ (x : List ℕ). length x) g ∙ (run_lasts _ (run d mem more)).memory ∙ c.loop-at.invariant.1,
      ap (λ (x : List ℕ). length x) c.piece-length.ensures.out_after ∙ length-sets (c.loop-at.room) 0 (bytes_from s (8 * at + a.start.bit % 8) m) ∙ c.loop-at.invariant.2,
      c.loop-at.invariant.3 ∙ piece-more s a.start.bit n at m h d mem z
          ∙ ap (λ (x : Fed). run_of (run x.chain r.memory more) (rest_from s a.start.bit n (at + m))) (sym f)
          ∙ ap (λ (x : List ℕ). run_of (run c.taken-fed.result.chain x more) (rest_from s a.start.bit n (at + m))) (sym g),
    )

pub returns : goal.returns
returns c =
    let a = c.args in
    let s = a.s.now in
    let n = length s - 1 in
    let w = ap (run_of (run a.c a.mem.now more)) (all_from_lem s a.start.byte a.start.bit c.requires.0 c.requires.1 c.requires.2) ∙ c.loop-at.invariant.3 ∙ rest-none s a.start.bit n c.loop-at.at (omega arith) c.loop-at.chain c.loop-at.mem in
    record { value = c.going_on.ensures ∙ fed_is c.loop-at.chain c.loop-at.mem ∙ ap fed_of (sym w); mem_after = ap (λ (x : Run). x.memory) (sym w) }
