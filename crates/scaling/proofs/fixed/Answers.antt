-- `scaling::fixed` meets its contract: one law for each return. Assumes nothing.
use mathlib.Core.Path.{sym, ◌∙◌}
use native.Mathlib.Omega.{arith}
use Rattle.scientific.proofs.Tens as T
use Rattle.scaling.proofs.Scaling.{two, scales-long, scales-carry, scales-stay}
use Rattle.scaling.proofs.fixed.Goals as goal

pub returns-then-exp-fmt_prec : goal.returns-then-exp-fmt_prec
returns-then-exp-fmt_prec c = scales-long _ _ _ c.requires.0 (omega (arith, c.ranges.n.fits)) c.if-exp-fmt_prec.true c.requires.1

pub power-requires : goal.power-requires
power-requires c = omega (arith, T.le 19 c.args.n (omega (arith, c.ranges.n.fits)))

pub scale_down-coef-requires : goal.scale_down-coef-requires
scale_down-coef-requires c = rw c.power.ensures (two _ (omega arith))

pub power-requires-2 : goal.power-requires-2
power-requires-2 c = omega (arith, T.le 19 c.args.n (omega (arith, c.ranges.n.fits)))

pub overflow_add-result : goal.overflow_add-result
overflow_add-result c = omega (arith, T.le 19 c.args.n (omega (arith, c.ranges.n.fits)))

pub returns-then-coef-power : goal.returns-then-coef-power
returns-then-coef-power c =
    scales-carry _ _ _ c.requires.0 (omega (arith, c.ranges.n.fits)) _ _ c.if-exp-fmt_prec.false c.power.ensures c.scale_down-coef.ensures (c.if-coef-power.true ∙ c.power-2.ensures)

pub returns : goal.returns
returns c =
    scales-stay _ _ _ c.requires.0 (omega (arith, c.ranges.n.fits)) _ _ c.if-exp-fmt_prec.false c.power.ensures c.scale_down-coef.ensures (λ e. c.if-coef-power.false (e ∙ sym c.power-2.ensures))
