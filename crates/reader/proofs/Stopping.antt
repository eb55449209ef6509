-- A reading that stopped has a number that is not 0. Assumes nothing.
use mathlib.Core.Bool.{false}
use mathlib.Core.Path.{◌≡◌, subst}
use lib.Dec.{eqb}
use Rattle.std.specs.Prelude.{Err}
use Rattle.chain.specs.Paper.{done}
use Rattle.chain.proofs.PassedUp.{not_done}
use Rattle.reader.specs.declared.stop.Stopped.{Stopped}
use Rattle.reader.specs.Stops.{Stop, stop_of}

-- what stopped gives a number that is not 0
pub ended : (e : Stopped) (x : Stop) → stop_of (Err e) ≡ x → eqb x.number done ≡ false
ended e x is = let P : Stop → Type 0 = λ (y : Stop). eqb y.number done ≡ false in subst P is (not_done e.refusal)
