-- The second demand of our loader. Assumes nothing.
use Rattle.demands.specs.Second.{Demand2}
use Rattle.demands.specs.Ours.{ours}
use Rattle.demands.proofs.Loads.FittingLoads.{second_a}
use Rattle.demands.proofs.Files.WrittenFits.{second_b}
use Rattle.demands.proofs.Files.AcceptedAgain.{second_c}
use Rattle.demands.proofs.Loads.LastByteTaken.{second_d}
use Rattle.demands.proofs.Loads.AcceptedFits.{second_e}
use Rattle.demands.proofs.Loads.CheckLeaves.{second_f}

pub demand2 : Demand2 ours
demand2 = record { a = second_a; b = second_b; c = second_c; d = second_d; e = second_e; f = second_f }
