-- `bit_table::write_digits` meets its contract: the table gives the text. Assumes nothing.
use mathlib.Core.Path.{◌≡◌}
use Prim.Native.Nat.{◌^◌}
use lib.Pow.{pow_mono}
use Rattle.digits.specs.Text.{text}
use Rattle.bit_table.specs.Bits.{lower, table_byte}
use Rattle.digits.proofs.Powers.{above-one}
use Rattle.bit_table.proofs.Table.{table-text}
use Rattle.bit_table.proofs.write_digits.Goals as goal
use Rattle.bit_table.proofs.write_digits.Goals.{After-digit_table}

by-table : (c : After-digit_table) → text (table_byte c.digit_table.result) (2 ^ c.args.shift) c.args.n ≡ text lower (2 ^ c.args.shift) c.args.n
by-table c =
    rw c.digit_table.ensures
    (table-text 16 lower (2 ^ c.args.shift) c.args.n (above-one c.requires.0) (pow_mono c.requires.1))

pub fmt_inner-requires : goal.fmt_inner-requires
fmt_inner-requires c = rw (by-table (goal.at.fmt_inner-requires c).After-digit_table) c.requires

pub returns : goal.returns
returns c = rw (by-table (goal.at.returns c).After-digit_table) at c.fmt_inner.ensures
