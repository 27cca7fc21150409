-- `edge::read_any` meets its contract. It is the promise of what it calls. Assumes nothing.
use Rattle.edge.proofs.Edge.{at_once}
use Rattle.edge.proofs.read_any.Goals as goal

pub returns-in-Some : goal.returns-in-Some
returns-in-Some c = at_once c.in-Some.ensures
