-- `exponent::size` meets its contract. Assumes nothing.
use native.Mathlib.Omega.{arith}
use Rattle.exponent.proofs.Joined.{scaled-length}
use Rattle.exponent.proofs.size.Goals as goal

pub coef_length-coef_len-requires : goal.coef_length-coef_len-requires
coef_length-coef_len-requires c = (c.requires.few, c.requires.zeros)

pub exp_length-requires : goal.exp_length-requires
exp_length-requires c = c.requires.high

pub overflow_add-result : goal.overflow_add-result
overflow_add-result c = omega (arith, c.requires.zeros, c.exp_length.ensures.0)

pub overflow_add-result-2 : goal.overflow_add-result-2
overflow_add-result-2 c = omega (arith, c.requires.zeros, c.exp_length.ensures.0, c.coef_length-coef_len.ensures.0)

pub returns : goal.returns
returns c =
    (omega (arith, c.requires.zeros, c.exp_length.ensures.0, c.coef_length-coef_len.ensures.0), λ letter. omega (arith, scaled-length letter c.args.scaled, c.coef_length-coef_len.ensures.1 c.args.scaled.coef, c.exp_length.ensures.1 letter))
