-- `sixteen_digits::behind` meets its contract. Assumes nothing.
use Rattle.sixteen_digits.proofs.Splices.{behind-is, behind-fits}
use Rattle.sixteen_digits.proofs.behind.Goals as goal

pub overflow_add-result : goal.overflow_add-result
overflow_add-result c = record { fits = behind-fits c.args.a c.args.k c.args.c c.args.m c.requires.0 c.requires.2 c.requires.3 }

pub returns : goal.returns
returns c = behind-is c.args.a c.args.k c.args.c c.args.m c.requires.0 c.requires.2 c.requires.3
