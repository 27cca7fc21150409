-- `bit_eights::binary` meets its contract. The invariant: what is left of the text, written so that it ends at the offset, completes the buffer (`Left`).
-- The measure is how many digits are left. Assumes nothing.
use mathlib.Core.Path.{◌≡◌}
use Prim.Native.Nat.{◌<◌}
use lib.ListN.{length}
use Rattle.buffer.proofs.Left.{Left}
use Rattle.digits.specs.Text.{ascii, text}
use Rattle.bit_eights.proofs.binary.Given as goal

abbrev pub invariant-loop-remain : goal.invariant-loop-remain
invariant-loop-remain l = Left l.initial.buf l.end (text ascii 2 l.n) (text ascii 2 l.remain) l.offset l.buf × (l.left ≡ length (text ascii 2 l.remain)) × (8 < l.left)

abbrev pub decreases-loop-remain : goal.decreases-loop-remain
decreases-loop-remain l = l.left
