-- `reader::read_numeral` meets its contract. Assumes nothing.
use Rattle.reading.specs.Formats.{form}
use Rattle.reader.proofs.read_numeral.Goals as goal

pub returns-in-Decimal : goal.returns-in-Decimal
unfolding form
returns-in-Decimal c = rw c.in-Decimal.is c.read_decimal.ensures

pub returns-in-Binary : goal.returns-in-Binary
unfolding form
returns-in-Binary c = rw c.in-Binary.is c.read_radix.ensures

pub returns-in-Octal : goal.returns-in-Octal
unfolding form
returns-in-Octal c = rw c.in-Octal.is c.read_radix-in-Octal.ensures

pub returns-in-Hex : goal.returns-in-Hex
returns-in-Hex c = rw c.in-Hex.is c.read_hex.ensures
