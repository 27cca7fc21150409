-- `lanes::spread_bits` meets its contract: the product's lanes. Assumes nothing.
use native.Mathlib.Omega.{arith}
use Prim.Native.Nat.{◌*◌}
use lib.Bits.{and_le_r}
use Rattle.lanes.proofs.Bits.{bits-spread}
use Rattle.lanes.proofs.spread_bits.Goals as goal

pub overflow_add-result : goal.overflow_add-result
overflow_add-result c = omega (arith, and_le_r (c.args.n * 0x0100_8040_2010_0804) 0x0101_0101_0101_0100)

pub returns : goal.returns
returns c = bits-spread c.args.n c.requires
