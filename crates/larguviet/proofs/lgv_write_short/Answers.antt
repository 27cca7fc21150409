-- `larguviet::lgv_write_short` meets its contract. It is the promise of what it calls. Assumes nothing.
use Rattle.edge.proofs.Edge.{edged}
use Rattle.larguviet.proofs.lgv_write_short.Goals as goal

pub returns : goal.returns
returns c = edged c.write_short.ensures c.from.ensures.0 c.from.ensures.1
