-- `exponent::write_at` meets its contract: from the end on, the exponent, the zeros and the coefficient. Assumes nothing.
use mathlib.Core.List.{◌∷◌}
use mathlib.Core.Path.{◌≡◌}
use Prim.Native.Nat.{◌+◌}
use native.Mathlib.Omega.{arith}
use lib.ListN.{length}
use Rattle.digits.specs.Text.{decimal}
use Rattle.exponent.specs.Coefficient.{scaled_text}
use Rattle.encoding.proofs.Encoding.{exp-least}
use Rattle.exponent.proofs.Joined.{coef-least, scaled-length, written}
use Rattle.exponent.proofs.write_at.Goals as goal
use Rattle.exponent.proofs.write_at.Goals.{After-coef_length-coef_len}

pub coef_length-coef_len-requires : goal.coef_length-coef_len-requires
coef_length-coef_len-requires c = (c.requires.0.few, c.requires.0.zeros)

-- the whole length, by the pieces that the code has
pieces : (c : After-coef_length-coef_len) →
    length (scaled_text c.args.letter c.args.scaled) ≡ c.coef_length-coef_len.result + (c.args.scaled.more_prec + length (c.args.letter ∷ decimal c.args.scaled.exp))
pieces c =
    omega (arith, scaled-length c.args.letter c.args.scaled, c.coef_length-coef_len.ensures.1 c.args.scaled.coef)

pub overflow_add-behind : goal.overflow_add-behind
overflow_add-behind c = omega (arith, c.requires.1, pieces (goal.at.overflow_add-behind c).After-coef_length-coef_len)

pub overflow_add-behind-2 : goal.overflow_add-behind-2
overflow_add-behind-2 c = omega (arith, c.requires.1, pieces (goal.at.overflow_add-behind-2 c).After-coef_length-coef_len)

pub encode_exp-requires : goal.encode_exp-requires
encode_exp-requires c =
    (c.requires.0.high, omega (arith, c.requires.1, pieces (goal.at.encode_exp-requires c).After-coef_length-coef_len))

pub fill-requires : goal.fill-requires
fill-requires c =
    (omega arith, omega (arith, c.requires.1, pieces (goal.at.fill-requires c).After-coef_length-coef_len))

pub encode_coef-requires : goal.encode_coef-requires
encode_coef-requires c =
    (c.requires.0.lead, c.requires.0.zeros, omega (arith, c.requires.1, pieces (goal.at.encode_coef-requires c).After-coef_length-coef_len, c.coef_length-coef_len.ensures.1 c.args.scaled.coef, coef-least c.args.scaled.coef c.args.scaled.coef_prec c.args.scaled.more_prec, exp-least c.args.letter c.args.scaled.exp))

pub returns : goal.returns
returns c =
    written c.args.letter c.args.scaled c.args.buf.now c.encode_exp.new.buf c.fill.new.buf c.encode_coef.new.buf c.args.at (c.args.at + c.coef_length-coef_len.result + c.args.scaled.more_prec) c.encode_exp.result c.encode_coef.result c.encode_exp.ensures.0 c.encode_coef.ensures.0
    (omega (arith, c.encode_coef.ensures.0, c.coef_length-coef_len.ensures.1 c.args.scaled.coef)) c.requires.1 c.encode_exp.ensures.1 c.fill.ensures c.encode_coef.ensures.1
