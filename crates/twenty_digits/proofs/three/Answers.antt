-- `twenty_digits::three` meets its contract. Assumes nothing.
use Rattle.twenty_digits.proofs.Numbers.{three-is}
use Rattle.twenty_digits.proofs.three.Goals as goal

pub returns : goal.returns
returns c = three-is c.args.a c.args.b c.args.c c.args.k c.requires.0 c.requires.1 c.requires.3
