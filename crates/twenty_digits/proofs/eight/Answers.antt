-- `twenty_digits::eight` meets its contract. Assumes nothing.
use Rattle.std.proofs.Common.{lit≤}
use Rattle.twenty_digits.proofs.Numbers.{faultless, eight-number}
use Rattle.twenty_digits.proofs.eight.Goals as goal

pub number-requires : goal.number-requires
number-requires c = (lit≤ tt, lit≤ tt, c.faults.ensures c.if-faults-ne0.false)

pub returns : goal.returns
returns c =
    eight-number c.args.text.now c.load8.result c.figures-w.result _ c.requires c.load8.ensures (faultless (c.faults.ensures c.if-faults-ne0.false) c.figures-w.ensures) c.number.ensures.0 c.if-w-eq0.false
