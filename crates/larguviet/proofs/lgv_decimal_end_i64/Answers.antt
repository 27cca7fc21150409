-- `larguviet::lgv_decimal_end_i64` meets its contract: it is the promise of what it calls. Assumes nothing.
use mir.Facts.{to_z-of_z}
use Rattle.larguviet.proofs.lgv_decimal_end_i64.Goals as goal

pub returns : goal.returns
returns c = simp (to_z-of_z c.ranges.value) at c.end_at.ensures
