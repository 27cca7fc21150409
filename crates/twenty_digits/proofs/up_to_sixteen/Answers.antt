-- `twenty_digits::up_to_sixteen` meets its contract. Assumes nothing.
use Rattle.std.proofs.Common.{arith, lit≤}
use Rattle.digit_words.proofs.Masks.{or-zero}
use Rattle.twenty_digits.proofs.Numbers.{faultless, sixteen-number}
use Rattle.twenty_digits.proofs.up_to_sixteen.Goals as goal

pub number_before-requires : goal.number_before-requires
number_before-requires c = (c.faults-2.ensures (or-zero c.faults.result c.faults-2.result c.if-faults-ne0.false).1, omega arith)

pub number-requires : goal.number-requires
number-requires c = (lit≤ tt, lit≤ tt, c.faults.ensures (or-zero c.faults.result c.faults-2.result c.if-faults-ne0.false).0)

pub returns : goal.returns
returns c =
    let o = or-zero c.faults.result c.faults-2.result c.if-faults-ne0.false in
    sixteen-number c.args.text.now c.load8.result c.figures-w.result c.load8-2.result c.figures-x.result _ _ c.requires.0 c.requires.1
    c.load8.ensures (faultless (c.faults.ensures o.0) c.figures-w.ensures) c.number.ensures.0 c.load8-2.ensures (faultless (c.faults-2.ensures o.1) c.figures-x.ensures) c.number_before.ensures.0
    c.if-x-eq0.false
