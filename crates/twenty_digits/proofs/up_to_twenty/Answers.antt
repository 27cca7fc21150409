-- `twenty_digits::up_to_twenty` meets its contract. Assumes nothing.
use Rattle.std.proofs.Common.{arith, lit≤}
use lib.Bits.{bit_or}
use Rattle.digit_words.proofs.Masks.{or-zero}
use Rattle.twenty_digits.proofs.Numbers.{faultless, twenty-number}
use Rattle.twenty_digits.proofs.up_to_twenty.Goals as goal

pub number_before-top-requires : goal.number_before-top-requires
number_before-top-requires c = (c.faults-3.ensures (or-zero c.faults-2.result c.faults-3.result (or-zero c.faults.result (bit_or c.faults-2.result c.faults-3.result) c.if-faults-ne0.false).1).1, omega arith)

pub number-requires : goal.number-requires
number-requires c = (lit≤ tt, lit≤ tt, c.faults-2.ensures (or-zero c.faults-2.result c.faults-3.result (or-zero c.faults.result (bit_or c.faults-2.result c.faults-3.result) c.if-faults-ne0.false).1).0)

pub number-requires-2 : goal.number-requires-2
number-requires-2 c = (lit≤ tt, lit≤ tt, c.faults.ensures (or-zero c.faults.result (bit_or c.faults-2.result c.faults-3.result) c.if-faults-ne0.false).0)

pub returns : goal.returns
returns c =
    let o = or-zero c.faults.result (bit_or c.faults-2.result c.faults-3.result) c.if-faults-ne0.false in
    let p = or-zero c.faults-2.result c.faults-3.result o.1 in
    twenty-number c.args.text.now c.load8.result c.figures-w.result c.load8-2.result c.figures-m.result c.load8-3.result c.figures-x.result _ _ _ c.requires.0 c.requires.1
    c.load8.ensures (faultless (c.faults.ensures o.0) c.figures-w.ensures) c.number-2.ensures.0
    c.load8-2.ensures (faultless (c.faults-2.ensures p.0) c.figures-m.ensures) c.number.ensures.0
    c.load8-3.ensures (faultless (c.faults-3.ensures p.1) c.figures-x.ensures) c.number_before-top.ensures.0 c.if-x-eq0.false
