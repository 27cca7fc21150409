-- `lanes::spelled` meets its contract: each digit becomes its byte in its lane. Assumes nothing.
use Prim.Native.Nat.{◌+◌, ◌*◌, ◌/◌, ◌^◌, ◌≤◌}
use native.Mathlib.Nat.{lt_of_le_of_lt}
use native.Mathlib.Omega.{arith}
use lib.Dec.{lit<}
use Rattle.lanes.specs.Lanes.{word}
use Rattle.lanes.proofs.Letters.{bytes_most, letters-most, text-most, hex-bytes}
use Rattle.lanes.proofs.spelled.Goals as goal
use Rattle.lanes.proofs.spelled.Goals.{Start}

few : (c : Start) → c.args.x ≤ 0x0101_0101_0101_0101 * 15
unfolding word
few c = bytes_most 8 c.args.x 15 c.ranges.x.fits c.requires.2

pub overflow_add-tens : goal.overflow_add-tens
overflow_add-tens c = omega (arith, few (goal.at.overflow_add-tens c).Start)

pub overflow_add-result : goal.overflow_add-result
overflow_add-result c = omega (arith, few (goal.at.overflow_add-result c).Start)

pub overflow_mul-result : goal.overflow_mul-result
overflow_mul-result c = record { fits = lt_of_le_of_lt (letters-most ((c.args.x + 0x0606_0606_0606_0606) / 2 ^ 4) 0x0101_0101_0101_0101 c.args.letter c.requires.1) (lit< tt) }

pub overflow_add-result-2 : goal.overflow_add-result-2
overflow_add-result-2 c = record { fits = lt_of_le_of_lt (text-most ((c.args.x + 0x0606_0606_0606_0606) / 2 ^ 4) 0x0101_0101_0101_0101 c.args.letter c.requires.1 c.args.x (few (goal.at.overflow_add-result-2 c).Start)) (lit< tt) }

pub returns : goal.returns
unfolding word
returns c = hex-bytes 8 c.args.x c.ranges.x.fits c.requires.2 c.args.letter c.requires.0 c.requires.1
