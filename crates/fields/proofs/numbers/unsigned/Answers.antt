-- `fields::numbers::unsigned` meets its contract. Assumes nothing.
use Rattle.std.proofs.Common.{rules}
use Rattle.fields.proofs.Digits.{next_digit}
use Rattle.fields.proofs.numbers.unsigned.Goals as goal

pub loop-byte-preserved : goal.loop-byte-preserved
loop-byte-preserved c = next_digit c.args.field.now c.loop-byte.byte-index c.loop-byte.n c.in_ok-n.n (search rules) c.loop-byte.invariant c.in_ok-n.ensures
