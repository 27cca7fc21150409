-- `pairs::fmt_inner` meets its contract. The invariant: what is left of the text, written so that it ends at the offset, completes the buffer (`Left`).
-- The measure is the number that is left. Assumes nothing.
use Rattle.pairs.proofs.Pending.{Rest}
use Rattle.pairs.proofs.fmt_inner.Given as goal

abbrev pub invariant-loop-remain : goal.invariant-loop-remain
invariant-loop-remain l = Rest l.n l.end l.initial.buf l.remain l.offset l.buf

abbrev pub decreases-loop-remain : goal.decreases-loop-remain
decreases-loop-remain l = l.remain
