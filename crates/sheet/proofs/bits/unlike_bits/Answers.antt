use borrow.Author.Rules.{rules}
use native.Mathlib.Omega.{arith}
use lib.Bits.{bit_xor, xor_lt}
use lib.Count.{ones-le}
use Rattle.sheet.proofs.bits.unlike_bits.Goals as goal

-- `sheet::bits::unlike_bits` meets its contract. Assumes nothing.
pub overflow_cast-result : goal.overflow_cast-result
overflow_cast-result c = omega (arith, ones-le 8 (bit_xor c.args.a c.args.b) (xor_lt 8 c.args.a c.args.b c.ranges.a.fits c.ranges.b.fits))

pub returns : goal.returns
returns c = (search rules, ones-le 8 (bit_xor c.args.a c.args.b) (xor_lt 8 c.args.a c.args.b c.ranges.a.fits c.ranges.b.fits))
