-- `exponent_texts::times_power` meets its contract. Assumes nothing.
use native.Mathlib.Omega.{arith}
use Rattle.exponent_texts.proofs.Exponents.{product-zero, product-over, large}
use Rattle.exponent_texts.proofs.times_power.Goals as goal

pub returns-then-n-eq0 : goal.returns-then-n-eq0
returns-then-n-eq0 c = product-zero _ _ c.if-n-eq0.true

pub returns-then-k-gt19 : goal.returns-then-k-gt19
returns-then-k-gt19 c = product-over _ _ (large _ _ (omega arith) c.if-k-gt19.true)

pub returns : goal.returns
returns c = rw (← c.power-p.ensures) c.checked_mul.ensures
