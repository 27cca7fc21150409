-- `encoding::exp_length` meets its contract. Assumes nothing.
use native.Mathlib.Omega.{arith}
use Rattle.encoding.proofs.Encoding.{one-exp, two-exp}
use Rattle.encoding.proofs.exp_length.Goals as goal

pub returns-then-exp-lt10 : goal.returns-then-exp-lt10
returns-then-exp-lt10 c = (omega arith, λ letter. one-exp letter _ c.if-exp-lt10.true)

pub returns : goal.returns
returns c = (omega arith, λ letter. two-exp letter _ c.if-exp-lt10.false c.requires)
