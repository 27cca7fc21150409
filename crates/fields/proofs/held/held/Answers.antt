-- `fields::held::held` meets its contract. Assumes nothing.
use Rattle.std.proofs.Common.{rules}
use Rattle.fields.proofs.held.held.Goals as goal

pub returns : goal.returns
returns g c = (c.try_from.result, c.try_from.ensures, search rules)
