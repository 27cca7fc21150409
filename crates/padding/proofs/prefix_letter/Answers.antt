-- `padding::prefix_letter` meets its contract. Assumes nothing.
use Rattle.padding.proofs.Padding.{prefix-hex}
use Rattle.padding.proofs.prefix_letter.Goals as goal

pub returns : goal.returns
returns c = prefix-hex c.args.code c.requires.0 c.requires.1 c.if-code-eq1.false c.if-code-eq2.false
