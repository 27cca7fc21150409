-- `lanes::shown` meets its contract: no lane runs over. Assumes nothing.
use native.Mathlib.Omega.{arith}
use Prim.Native.Nat.{◌≤◌}
use lib.Dec.{lit≤}
use Rattle.lanes.specs.Lanes.{word}
use Rattle.lanes.proofs.Letters.{bytes-more, bytes_most}
use borrow.Author.Rules.{rules}
use Rattle.lanes.proofs.shown.Goals as goal
use Rattle.lanes.proofs.shown.Goals.{Start}

few : (c : Start) → c.args.x ≤ 0x0909_0909_0909_0909
unfolding word
few c = bytes_most 8 c.args.x 9 (search rules) c.requires

pub overflow_add-result : goal.overflow_add-result
overflow_add-result c = omega (arith, few (goal.at.overflow_add-result c).Start)

pub returns : goal.returns
unfolding word
returns c = bytes-more 8 c.args.x 10 (search rules) c.requires 48 (lit≤ tt)
