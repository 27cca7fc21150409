-- `scaling::round_up` meets its contract: a law for each return. Assumes nothing.
use mathlib.Core.Path.{sym}
use native.Mathlib.Omega.{arith}
use Rattle.scientific.proofs.Round.{up_above, up-tie, up-under}
use Rattle.scaling.proofs.round_up.Goals as goal

pub returns-then-over-half : goal.returns-then-over-half
returns-then-over-half c = (sym (up-under _ _ _ c.if-over-half.true), omega arith)

pub returns-then-half-over : goal.returns-then-half-over
returns-then-half-over c = (sym (up_above _ _ _ c.if-half-over.true), omega arith)

pub returns : goal.returns
returns c = (sym (up-tie _ _ _ (omega arith)), omega arith)
