-- `digits::decimal_pairs` meets its contract: the constant is the rule at each of its 200 places, which antt computes.
-- Assumes nothing.
use mathlib.Core.Path.{refl}
use Rattle.digits.specs.Tables.{pair_table}
use Rattle.digits.proofs.decimal_pairs.Goals as goal

pub returns : goal.returns
unfolding pair_table
returns c = refl
