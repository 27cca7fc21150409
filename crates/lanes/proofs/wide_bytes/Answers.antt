-- `lanes::wide_bytes` meets its contract: two steps, each of which gives what it moves room above it. Assumes nothing.
use native.Mathlib.Omega.{arith}
use Rattle.lanes.proofs.Wider.{bytes-wider}
use Rattle.lanes.proofs.wide_bytes.Goals as goal

pub returns : goal.returns
returns c = bytes-wider c.args.n c.swapped-x.result (omega arith) c.swapped-x.ensures
