-- `bit_table::fmt_inner` meets its contract. The invariant: what is left of the text, written so that it ends at the offset, completes the buffer (`Left`).
-- The measure is the number that is left. Assumes nothing.
use Prim.Native.Nat.{◌^◌}
use Rattle.buffer.proofs.Left.{Left}
use Rattle.digits.specs.Text.{text}
use Rattle.bit_table.specs.Bits.{table_byte}
use Rattle.bit_table.proofs.fmt_inner.Given as goal

abbrev pub invariant-loop-remain : goal.invariant-loop-remain
invariant-loop-remain l =
    Left l.initial.buf l.end (text (table_byte l.table) (2 ^ l.shift) l.n) (text (table_byte l.table) (2 ^ l.shift) l.remain) l.offset l.buf

abbrev pub decreases-loop-remain : goal.decreases-loop-remain
decreases-loop-remain l = l.remain
