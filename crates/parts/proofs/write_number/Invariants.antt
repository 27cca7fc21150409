-- `parts::write_number` meets its contract. The invariant: the decimal of what is left completes the buffer. The measure is what is left.
-- Assumes nothing.
use Rattle.buffer.proofs.Left.{Left}
use Rattle.digits.specs.Text.{decimal}
use Rattle.parts.proofs.write_number.Given as goal

abbrev pub invariant-loop-rest : goal.invariant-loop-rest
invariant-loop-rest l = Left l.initial.out l.end (decimal l.v) (decimal l.rest) l.at l.out

abbrev pub decreases-loop-rest : goal.decreases-loop-rest
decreases-loop-rest l = l.rest
