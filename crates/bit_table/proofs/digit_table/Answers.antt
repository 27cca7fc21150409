-- `bit_table::digit_table` meets its contract: the table is the alphabet at each of its 16 places, which antt computes. Assumes nothing.
use mathlib.Core.Path.{refl}
use Rattle.bit_table.proofs.digit_table.Goals as goal

pub returns : goal.returns
returns c = refl
