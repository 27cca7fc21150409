-- `padding::plan` meets its contract. Assumes nothing.
use native.Mathlib.Omega.{arith}
use Rattle.padding.proofs.Padding.{plan-none, plan-zeros, plan-left, plan-centre, plan-right}
use Rattle.padding.proofs.plan.Goals as goal

pub returns-then-w-len : goal.returns-then-w-len
returns-then-w-len c = (plan-none _ _ _ (omega (arith, c.if-w-len.true)), omega (arith, c.ranges.width.fits))

pub returns-then-zero_pad : goal.returns-then-zero_pad
returns-then-zero_pad c = (plan-zeros _ _ _ c.if-zero_pad.true, omega (arith, c.ranges.width.fits))

pub returns-then-align-eq1 : goal.returns-then-align-eq1
returns-then-align-eq1 c = (plan-left _ _ _ c.if-zero_pad.false c.if-align-eq1.true, omega (arith, c.ranges.width.fits))

pub returns-then-align-eq2 : goal.returns-then-align-eq2
returns-then-align-eq2 c = (plan-centre _ _ _ c.if-zero_pad.false c.if-align-eq2.true, omega (arith, c.ranges.width.fits))

pub returns : goal.returns
returns c = (plan-right _ _ _ c.if-zero_pad.false c.if-align-eq1.false c.if-align-eq2.false, omega (arith, c.ranges.width.fits))
