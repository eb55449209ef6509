-- The second demand, clause (d): the byte that ends a run is taken, closes it and changes nothing. Assumes nothing.
use mathlib.Core.Path.{ap}
use Rattle.chain.specs.declared.Chain.{Chain}
use Rattle.demands.specs.Demand2.{Demand2d}
use Rattle.demands.specs.Ours.{ours}
use Rattle.demands.proofs.Numbers.Refused.{slice_ended}

pub second_d : Demand2d ours
second_d c m s k l h n =
    let e = slice_ended c m s k l h n in
    record {
      taken = e.taken_one_more;
      mismatches = e.mismatches_kept;
      kept =
          record {
            cells = e.memory;
            registers = ap (λ (x : Chain). x.registers) e.chain;
            count = ap (λ (x : Chain). x.count) e.chain;
            kinds = ap (λ (x : Chain). x.kinds) e.chain;
          };
      shut = ap (λ (x : Chain). x.place.running) e.chain;
    }
