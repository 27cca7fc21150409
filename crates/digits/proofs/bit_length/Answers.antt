-- `digits::bit_length` meets its contract: x | 1 has as many binary digits, and its highest bit tells how many. Assumes nothing.
use mathlib.Core.Path.{◌∙◌}
use lib.Bits.{bit_or}
use lib.Count.{leading_le}
use lib.Dec.{lit<}
use Rattle.digits.proofs.Count.{odd-length, odd-some, odd-fits}
use Rattle.digits.proofs.Length.{bits-leading}
use Rattle.digits.proofs.bit_length.Goals as goal

pub overflow_sub-result : goal.overflow_sub-result
overflow_sub-result c = leading_le 64 _

pub returns : goal.returns
returns c = bits-leading 64 (bit_or c.args.x 1) (odd-some c.args.x) (odd-fits c.args.x c.ranges.x.fits) ∙ odd-length 1 (lit< tt) c.args.x
