-- `lanes::swapped` meets its contract. Assumes nothing.
use mathlib.Core.Path.{◌∙◌}
use native.Mathlib.Nat.{div-one}
use native.Mathlib.Omega.{arith}
use Rattle.digits.specs.Digits.{last}
use Rattle.lanes.specs.Lanes.{word}
use Rattle.lanes.proofs.swapped.Goals as goal

pub returns : goal.returns
unfolding word last
returns c = c.swap_bytes.ensures ∙ rw div-one (omega arith)
