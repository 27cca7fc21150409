-- `twenty_digits::up_to_seven` meets its contract. Assumes nothing.
use Rattle.std.proofs.Common.{arith}
use Rattle.twenty_digits.proofs.Numbers.{faultless, seven-number}
use Rattle.twenty_digits.proofs.up_to_seven.Goals as goal

pub number_around-requires : goal.number_around-requires
number_around-requires c = (c.faults.ensures c.if-faults-ne0.false, omega arith)

pub returns : goal.returns
returns c =
    seven-number c.args.text.now c.load4.result c.load4-2.result c.figures-w.result _ c.requires.0 c.requires.1 c.load4.ensures.0 c.load4.ensures.1 c.load4-2.ensures.0
    (faultless (c.faults.ensures c.if-faults-ne0.false) c.figures-w.ensures) c.number_around.ensures c.if-w-eq0.false
