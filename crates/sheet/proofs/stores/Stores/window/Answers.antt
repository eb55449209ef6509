use Rattle.std.proofs.Common.{arith}
use Rattle.sheet.proofs.Stored.{size_small}
use Rattle.sheet.proofs.stores.Stores.window.Goals as goal

-- `sheet::stores::Stores::window` meets its contract. Assumes nothing.
pub overflow_cast-self : goal.overflow_cast-self
overflow_cast-self c =
    let s = c.args.self.now in
    omega (arith, size_small s.chain s.size s.writing)
