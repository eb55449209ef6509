use Rattle.std.proofs.Common.{arith, ◌≡◌, ◌∙◌, ◌-◌, ◌++◌, sym, ap, ℕ, List, length, take, drop}
use Rattle.chain.specs.Mode.{mode_number}
use Rattle.sheet.specs.Count.{cells_stored}
use Rattle.sheet.specs.Steps.{puts_left, Walk}
use Rattle.sheet.proofs.Times.{put-length}
use Rattle.sheet.proofs.Stored.{size_small}
use Rattle.sheet.proofs.Counted.{part_small, part_length, bits_between, settled, row_made}
use Rattle.sheet.proofs.row.row.Goals as goal

-- `sheet::row::row` meets its contract. Assumes nothing.
pub slice_bounds-settle-end-2 : goal.slice_bounds-settle-end-2
slice_bounds-settle-end-2 c =
    let s = c.args.stores in
    let l : length c.args.mem.now ≡ length c.args.old.now =
    ap (λ (m : List ℕ). length m) c.requires.3 ∙ put-length (puts_left s.chain s.bytes.stream.now s.bytes.p s.at) c.args.old.now in
    omega (arith, c.walk-walked.ensures.inside, c.requires.0, l)

pub settle-bits-requires : goal.settle-bits-requires
settle-bits-requires c =
    let a = c.args in
    let s = a.stores in
    let w = c.walk-walked.result in
    let l : length a.mem.now ≡ length a.old.now = ap (λ (m : List ℕ). length m) c.requires.3 ∙ put-length (puts_left s.chain s.bytes.stream.now s.bytes.p s.at) a.old.now in
    (part_length a.old.now a.mem.now w.low w.top (sym l), part_small a.mem.now w.low w.top (omega (arith, l, c.requires.0, size_small s.chain s.size s.writing)))

pub returns : goal.returns
returns c =
    let a = c.args in
    let s = a.stores in
    let ps = puts_left s.chain s.bytes.stream.now s.bytes.p s.at in
    let old = a.old.now in
    let mem = a.mem.now in
    let l : length mem ≡ length old = ap (λ (m : List ℕ). length m) c.requires.3 ∙ put-length ps old in
    let w = c.walk-walked.result in
    let size = c.requires.0 in
    let x : Walk ps (length old) w = rw size c.walk-walked.ensures in
    let k = c.count-counts.ensures in
    record {
      value = row_made (mode_number a.mode) s.bytes.p a.a ps old mem x.stored (k.0 ∙ ap (λ (n : ℕ). cells_stored n 1 ps) (sym size)) (k.1 ∙ ap (λ (n : ℕ). cells_stored n 2 ps) (sym size))
          (c.settle-bits.ensures.value ∙ bits_between ps old mem c.requires.3 l w x) c.edges.ensures;
      after = ap (λ (ys : List ℕ). take w.low old ++ (ys ++ drop (w.top - w.low) (drop w.low old))) c.settle-bits.ensures.after ∙ settled ps old mem c.requires.3 l w x;
    }
