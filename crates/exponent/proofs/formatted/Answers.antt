-- `exponent::formatted` meets its contract: the parts that it answers are the text. Assumes nothing.
use native.Mathlib.Omega.{arith}
use Rattle.exponent.proofs.Joined.{coef-length, exp-most, texts}
use Rattle.exponent.proofs.formatted.Goals as goal

pub encode_exp-exp_len-requires : goal.encode_exp-exp_len-requires
encode_exp-exp_len-requires c =
    let l = coef-length c.scale-scaled.result.coef c.scale-scaled.result.coef_prec c.scale-scaled.result.more_prec in
    (omega arith, omega (arith, c.scale-scaled.ensures.few, exp-most c.args.letter c.scale-scaled.result.exp (omega arith)))

pub returns : goal.returns
returns c =
    rw (c.copy.ensures, c.zero.ensures, c.copy-2.ensures) (texts _ _ _ _ c.scale-scaled.ensures _ _ _ _ _ c.encode_coef-coef_len.ensures.0 c.encode_exp-exp_len.ensures.0 c.encode_coef-coef_len.ensures.1 c.encode_exp-exp_len.ensures.1 (omega arith) (omega arith))
