-- `lanes::spread8` meets its contract: the two digits of each byte. Assumes nothing.
use mathlib.Core.Path.{refl}
use lib.Dec.{lit<}
use Rattle.lanes.specs.Lanes.{word}
use Rattle.lanes.proofs.Halves.{halves_in}
use Rattle.lanes.proofs.spread8.Goals as goal

pub returns : goal.returns
unfolding word
returns c = halves_in 0 4 8 refl 64 4 c.args.n c.wide_bytes-bytes.result 0x0f0f_0f0f_0f0f_0f0f (lit< tt) c.wide_bytes-bytes.ensures refl (lit< tt)
