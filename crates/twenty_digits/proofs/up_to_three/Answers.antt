-- `twenty_digits::up_to_three` meets its contract. Assumes nothing.
use Rattle.std.proofs.Common.{arith}
use Rattle.twenty_digits.proofs.Numbers.{three-number}
use Rattle.twenty_digits.proofs.up_to_three.Goals as goal
use Rattle.twenty_digits.proofs.up_to_three.Goals.{then-a-eq0+else-n-gt1, else-a-eq0}

pub returns : goal.returns
returns c =
    three-number c.args.text.now c.digit-a.result c.digit-b.result c.digit-c.result _ c.requires.0 c.requires.1 c.digit-a.ensures c.digit-b.ensures c.digit-c.ensures
    (omega (arith, c.if-a-gt9.false)) (omega (arith, c.if-b-gt9.false)) (omega (arith, c.if-c-gt9.false)) c.three.ensures
    (elim c.if-a-eq0.branch [ then-a-eq0+else-n-gt1 w ↦ λ z. w.if-n-gt1.false | else-a-eq0 w ↦ λ z. absurd (w.if-a-eq0.false z) ])
