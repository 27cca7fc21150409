-- `bit_table::last_byte` meets its contract: the mask of shift ones leaves the last digit. Assumes nothing.
use mathlib.Core.Path.{ap}
use native.Mathlib.Omega.{arith}
use lib.Pow.{pow_pos}
use Rattle.bit_table.specs.Bits.{table_byte}
use Rattle.bit_table.proofs.Shift.{one_shifted, last-digit, last-digit-below}
use Rattle.bit_table.proofs.last_byte.Goals as goal

pub overflow_sub-result : goal.overflow_sub-result
overflow_sub-result c = rw (one_shifted 64 c.args.shift (omega arith)) (pow_pos c.args.shift)

pub bounds-table-n : goal.bounds-table-n
bounds-table-n c = rw (last-digit 64 c.args.shift c.args.n (omega arith)) (last-digit-below c.args.shift 4 c.args.n c.requires)

pub returns : goal.returns
returns c =
    ap (table_byte c.args.table.now) (last-digit 64 c.args.shift c.args.n (omega arith))
