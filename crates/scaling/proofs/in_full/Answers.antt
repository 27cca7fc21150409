-- `scaling::in_full` meets its contract. Assumes nothing.
use native.Mathlib.Omega.{arith}
use Rattle.scientific.proofs.Tens as T
use Rattle.scaling.proofs.Scaling.{drops-none, drops-done}
use Rattle.scaling.proofs.in_full.Goals as goal

pub overflow_sub-exp : goal.overflow_sub-exp
overflow_sub-exp c = omega (arith, T.decimal-are c.args.n)

pub returns-then-n-ne0 : goal.returns-then-n-ne0
returns-then-n-ne0 c =
    drops-done (drops-none _ _ (omega (arith, c.if-n-ne0.true))) (omega (arith, c.digit_count-exp.ensures, T.decimal-are c.args.n)) (omega (arith, c.ranges.n.fits)) c.if-n-ne0.true

pub short-requires : goal.short-requires
short-requires c = omega (arith, c.digit_count-exp.ensures, T.decimal-are c.args.n)
