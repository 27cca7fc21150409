-- `scaling::short` meets its contract. The invariant: so many zeros were dropped from n, and more than nothing is left, which is the measure.
-- Assumes nothing.
use native.Mathlib.Omega.{arith}
use Rattle.scaling.proofs.Scaling.{scales-one, drops-none, drops-more}
use Rattle.scaling.proofs.short.Goals as goal

pub returns-then-n-lt10 : goal.returns-then-n-lt10
returns-then-n-lt10 c = scales-one _ _ c.requires (omega (arith, c.ranges.n.fits)) c.if-n-lt10.true

pub loop-coef-init : goal.loop-coef-init
loop-coef-init c = drops-none _ _ (omega arith)

pub overflow_sub-coef_prec : goal.overflow_sub-coef_prec
overflow_sub-coef_prec c = (drops-more c.loop-coef.invariant c.requires 4 c.loop-coef-test.true).0

pub loop-coef-smaller : goal.loop-coef-smaller
loop-coef-smaller c = omega (arith, c.loop-coef.invariant.some)

pub loop-coef-preserved : goal.loop-coef-preserved
loop-coef-preserved c = (drops-more c.loop-coef.invariant c.requires 4 c.loop-coef-test.true).1

pub overflow_sub-coef_prec-then-coef-eq0 : goal.overflow_sub-coef_prec-then-coef-eq0
overflow_sub-coef_prec-then-coef-eq0 c = (drops-more c.loop-coef.invariant c.requires 2 c.if-coef-eq0.true).0
