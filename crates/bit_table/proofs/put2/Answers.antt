-- `bit_table::put2` meets its contract: the last digit, and that of what stands in front of it. Assumes nothing.
use native.Mathlib.Numerals.{add-one}
use native.Mathlib.Omega.{arith}
use Prim.Native.Nat.{◌^◌}
use lib.ListN.{length-set}
use Rattle.bit_table.specs.Bits.{table_byte}
use Rattle.bit_table.proofs.Shift.{pair_is}
use Rattle.bit_table.proofs.put2.Goals as goal

pub bounds-buf-at-2 : goal.bounds-buf-at-2
bounds-buf-at-2 c = simp length-set (omega arith)

pub returns : goal.returns
returns c =
    let e = pair_is (table_byte c.args.table.now) (2 ^ c.args.shift) c.args.n in
    rw (e, c.last_byte-2.ensures, c.last_byte.ensures, add-one)
