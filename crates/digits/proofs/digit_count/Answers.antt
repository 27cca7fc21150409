-- `digits::digit_count` meets its contract: the digits that the bits of n | 1 are worth, or one more. Assumes nothing.
use mathlib.Core.Path.{◌≡◌, refl, sym, ◌∙◌}
use Prim.Native.Nat.{ℕ}
use lib.Bits.{bit_or}
use lib.Count.{leading_le}
use lib.Dec.{lit<}
use lib.ListN.{length}
use Rattle.digits.specs.Digits.{digits}
use Rattle.digits.specs.Text.{ascii, decimal}
use Rattle.digits.proofs.Count.{odd-length, odd-some, odd-fits, count_less, count-more}
use Rattle.digits.proofs.Text.{length-text}
use Rattle.digits.proofs.digit_count.Goals as goal

pub overflow_sub-t : goal.overflow_sub-t
overflow_sub-t c = leading_le 64 _

-- n | 1 has as many digits
same : (n : ℕ) → length (digits 10 (bit_or n 1)) ≡ length (decimal n)
same n = odd-length 5 (lit< tt) n ∙ sym (length-text ascii 10 (lit< tt) n)

pub returns-then-x-power : goal.returns-then-x-power
returns-then-x-power c =
    count_less (bit_or c.args.n 1) (odd-some c.args.n) (odd-fits c.args.n c.ranges.n.fits) _ refl (rw (← c.power.ensures) c.if-x-power.true) ∙ same c.args.n

pub returns : goal.returns
returns c =
    count-more (bit_or c.args.n 1) (odd-some c.args.n) (odd-fits c.args.n c.ranges.n.fits) _ refl (rw (← c.power.ensures) c.if-x-power.false) ∙ same c.args.n
