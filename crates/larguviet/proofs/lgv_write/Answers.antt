-- `larguviet::lgv_write` meets its contract. It is the promise of what it calls. Assumes nothing.
use Rattle.edge.proofs.Edge.{edged}
use Rattle.larguviet.proofs.lgv_write.Goals as goal

pub returns : goal.returns
returns c = edged (rw c.precision_from-digits.ensures at c.write.ensures) c.from.ensures.0 c.from.ensures.1
