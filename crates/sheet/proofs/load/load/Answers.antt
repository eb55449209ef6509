use Rattle.std.proofs.Common.{arith, ap, ◌≡◌, ◌+◌, ◌*◌, ◌<◌, ℕ, ◌∙◌, bit_and}
use lib.Bits.{mask_lt}
use Rattle.chain.specs.Paper.{more}
use Rattle.machine.specs.Run.{run, run_of}
use Rattle.machine.specs.Calls.{fed_of}
use Rattle.hunt.proofs.Windows.{place_split}
use Rattle.sheet.specs.Steps.{bytes_after}
use Rattle.sheet.proofs.load.load.Goals as goal

-- `sheet::load::load` meets its contract. Assumes nothing.
pub returns-then-start-eq0 : goal.returns-then-start-eq0
returns-then-start-eq0 c =
    let a = c.args in
    let s = a.bytes.stream.now in
    let e : 8 * c.start-start.result.byte ≡ a.bytes.p = omega (arith, place_split a.bytes.p, c.start-start.ensures, c.if-start-eq0.true) in
    record {
      value = c.load_rest.ensures.value ∙ ap (λ (x : ℕ). fed_of (run_of (run a.c a.mem.now more) (bytes_after s x))) e;
      mem_after = c.load_rest.ensures.mem_after ∙ ap (λ (x : ℕ). (run_of (run a.c a.mem.now more) (bytes_after s x)).memory) e;
    }

pub load_pieces-requires : goal.load_pieces-requires
load_pieces-requires c =
    let b = c.args.bytes in
    let m : bit_and b.p 7 < 8 = mask_lt b.p 3 in
    let e = c.start-start.ensures in
    (omega arith, omega arith, omega (arith, place_split b.p, b.inside), c.requires)

pub returns : goal.returns
returns c =
    let a = c.args in
    let s = a.bytes.stream.now in
    let e : 8 * c.start-start.result.byte + c.start-start.result.bit ≡ a.bytes.p = omega (arith, place_split a.bytes.p, c.start-start.ensures) in
    record {
      value = c.load_pieces.ensures.value ∙ ap (λ (x : ℕ). fed_of (run_of (run a.c a.mem.now more) (bytes_after s x))) e;
      mem_after = c.load_pieces.ensures.mem_after ∙ ap (λ (x : ℕ). (run_of (run a.c a.mem.now more) (bytes_after s x)).memory) e;
    }
