use Prim.Native.Nat.{◌-◌}
use native.Mathlib.Omega.{arith}
use Rattle.hunt.proofs.Windows.{joined_is}
use Rattle.hunt.proofs.joined.Goals as goal

-- `hunt::joined` meets its contract. Assumes nothing.
pub returns : goal.returns
returns c =
    joined_is c.args.high c.args.low c.args.k (8 - c.args.k) (omega arith) c.ranges.low.fits
