use Rattle.std.proofs.Common.{ap, ℕ, ◌∙◌, List}
use Rattle.chain.specs.Paper.{more}
use Rattle.machine.specs.Run.{run, run_of}
use Rattle.machine.specs.Calls.{fed_of}
use Rattle.sheet.proofs.Pieces.{at_byte}
use Rattle.sheet.proofs.load.load_rest.Goals as goal

-- `sheet::load::load_rest` meets its contract. Assumes nothing.
pub returns : goal.returns
returns c =
    let a = c.args in
    let e = at_byte a.s.now (λ i. (c.type_inv.s i).fits) a.q c.requires in
    record {
      value = c.taken.ensures.value ∙ ap (λ (x : List ℕ). fed_of (run_of (run a.c a.mem.now more) x)) e;
      mem_after = c.taken.ensures.mem_after ∙ ap (λ (x : List ℕ). (run_of (run a.c a.mem.now more) x).memory) e;
    }
