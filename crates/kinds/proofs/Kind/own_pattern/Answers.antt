-- `kinds::Kind::own_pattern` meets its contract. Assumes nothing.
use mathlib.Core.Path.{◌∙◌}
use Rattle.kinds.proofs.Patterns.{own-meaning, shifted_back}
use Rattle.kinds.proofs.Kind.own_pattern.Goals as goal

pub returns : goal.returns
returns c =
    shifted_back 64 c.args.self.bits c.args.p c.requires.1 ∙ own-meaning 64 c.args.self.bits c.args.self.signed c.args.p c.requires.0 c.requires.1 c.ranges.p.fits c.requires.2
