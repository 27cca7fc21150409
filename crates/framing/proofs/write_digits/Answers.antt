-- `framing::write_digits` meets its contract. Assumes nothing.
use mathlib.Core.Path.{ap, ◌∙◌}
use native.Mathlib.Omega.{arith}
use lib.ListN.{length}
use Rattle.framing.proofs.Laid.{numeral-decimal}
use Rattle.framing.proofs.write_digits.Goals as goal

pub write_before-requires : goal.write_before-requires
write_before-requires c = (omega (arith, c.requires.0 ∙ ap length (numeral-decimal c.args.format c.args.n c.if-format-eq0.true), c.requires.1), c.requires.2)

pub returns-then-format-eq0 : goal.returns-then-format-eq0
returns-then-format-eq0 c = rw (numeral-decimal c.args.format c.args.n c.if-format-eq0.true) c.write_before.ensures.1
