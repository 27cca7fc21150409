-- `values::write_hex` meets its contract, for all options that put nothing around the digits. Assumes nothing.
use native.Mathlib.Omega.{arith}
use Rattle.values.proofs.Plain.{digit-places}
use Rattle.values.proofs.write_hex.Goals as goal

pub returns : goal.returns
returns c o p U = digit-places c.args.value c.args.format c.shown-number.result c.shown-number.ensures.text o p U (c.shown-number.ensures.bare (λ z. omega (arith, c.requires.0))) c.write_hex.ensures
