-- `framing::count_digits` meets its contract. Assumes nothing.
use mathlib.Core.Path.{sym, ap, ◌∙◌}
use lib.ListN.{length}
use Rattle.framing.proofs.Laid.{numeral-decimal, numeral-radix}
use Rattle.framing.proofs.count_digits.Goals as goal

pub returns-then-format-eq0 : goal.returns-then-format-eq0
returns-then-format-eq0 c = c.digit_count.ensures ∙ sym (ap length (numeral-decimal c.args.format c.args.n c.if-format-eq0.true))

pub returns : goal.returns
returns c = c.count.ensures ∙ sym (ap length (numeral-radix c.args.format c.args.n c.if-format-eq0.false))
