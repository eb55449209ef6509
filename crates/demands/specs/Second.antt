-- The second demand whole: a stream that fits loads; what is written is such a stream, lists as its windows and loads; what is accepted
-- is written again from its listing; the byte that ends a run changes nothing; nothing but what fits is accepted; a check changes no cell,
-- and as far as it goes on leaves the registers that a write leaves. Assumes nothing.
use Rattle.demands.specs.Loader.{Loader}
use Rattle.demands.specs.Demand2.{Demand2a, Demand2d, Demand2e, Demand2f}
use Rattle.demands.specs.Files.{Demand2b, Demand2c}

pub record Demand2 (l : Loader) : Type 0 where
  pub a : Demand2a l
  pub b : Demand2b l
  pub c : Demand2c l
  pub d : Demand2d l
  pub e : Demand2e l
  pub f : Demand2f l
