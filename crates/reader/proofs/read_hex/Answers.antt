-- `reader::read_hex` meets its contract. Assumes nothing.
use Rattle.reading.specs.Formats.{form}
use Rattle.reader.proofs.read_hex.Goals as goal

pub returns-in-Lower : goal.returns-in-Lower
unfolding form
returns-in-Lower c = rw c.in-Lower.is c.read_radix.ensures

pub returns-in-Upper : goal.returns-in-Upper
unfolding form
returns-in-Upper c = rw c.in-Upper.is c.read_radix-in-Upper.ensures
