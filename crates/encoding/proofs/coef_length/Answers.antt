-- `encoding::coef_length` meets its contract. Assumes nothing.
use native.Mathlib.Omega.{arith}
use Rattle.encoding.proofs.Encoding.{one-length, fraction-length}
use Rattle.encoding.proofs.coef_length.Goals as goal

pub returns-then-coef_prec-more_prec-eq0 : goal.returns-then-coef_prec-more_prec-eq0
returns-then-coef_prec-more_prec-eq0 c = (omega arith, λ m. one-length m _ _ c.if-coef_prec-more_prec-eq0.true)

pub returns : goal.returns
returns c = (omega arith, λ m. fraction-length m _ _ c.if-coef_prec-more_prec-eq0.false)
