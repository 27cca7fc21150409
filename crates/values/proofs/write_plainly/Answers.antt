-- `values::write_plainly` meets its contract, for all options that put nothing around the digits. Assumes nothing.
use native.Mathlib.Omega.{arith}
use Rattle.values.proofs.Plain.{bare-places, digit-places}
use Rattle.values.proofs.write_plainly.Goals as goal

pub returns-then-format-gt2 : goal.returns-then-format-gt2
returns-then-format-gt2 c o p U = digit-places c.args.value c.args.format c.shown-number.result c.shown-number.ensures.text o p U (c.shown-number.ensures.bare (λ z. omega (arith, c.if-format-gt2.true))) c.write_hex.ensures

pub returns-then-format-eq0 : goal.returns-then-format-eq0
returns-then-format-eq0 c o p U = bare-places c.args.value c.args.format c.shown-number.result c.shown-number.ensures.text o p U c.write_bare.ensures

pub returns : goal.returns
returns c o p U = bare-places c.args.value c.args.format c.shown-number.result c.shown-number.ensures.text o p U c.write_bare-2.ensures
