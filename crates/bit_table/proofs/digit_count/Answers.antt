-- `bit_table::digit_count` meets its contract: the bits over the shift, rounded up. Assumes nothing.
use mathlib.Core.Path.{sym, ◌∙◌}
use Prim.Native.Nat.{◌≤◌}
use native.Mathlib.Nat.{div-le_self, lt_of_le_of_lt}
use native.Mathlib.Omega.{arith}
use lib.Dec.{lit<}
use Rattle.digits.proofs.Digits.{digits-length-le}
use Rattle.bit_table.proofs.Rounded.{rounded-sum, length-rounded}
use Rattle.bit_table.proofs.digit_count.Goals as goal
use Rattle.bit_table.proofs.digit_count.Goals.{After-bit_length}

bits_most : (c : After-bit_length) → c.bit_length.result ≤ 64
bits_most c = rw c.bit_length.ensures (digits-length-le 2 (lit< tt) 64 c.args.n (lit< tt) c.ranges.n.fits)

pub overflow_add-result : goal.overflow_add-result
overflow_add-result c = omega (arith, bits_most (goal.at.overflow_add-result c).After-bit_length)

pub overflow_cast-result : goal.overflow_cast-result
overflow_cast-result c = record { fits = lt_of_le_of_lt (div-le_self _ _) (omega (arith, bits_most (goal.at.overflow_cast-result c).After-bit_length)) }

pub returns : goal.returns
returns c =
    rw c.bit_length.ensures (rounded-sum c.args.shift c.requires.0 _ ∙ sym (length-rounded c.args.shift c.requires.0 c.args.n))
