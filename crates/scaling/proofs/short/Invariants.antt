-- `scaling::short` meets its contract. The invariant: so many zeros were dropped from n, and more than nothing is left, which is the measure.
-- Assumes nothing.
use Rattle.scaling.proofs.Scaling.{Drops}
use Rattle.scaling.proofs.short.Given as goal

abbrev pub invariant-loop-coef : goal.invariant-loop-coef
invariant-loop-coef l = Drops l.n l.exp l.coef l.coef_prec

abbrev pub decreases-loop-coef : goal.decreases-loop-coef
decreases-loop-coef l = l.coef
