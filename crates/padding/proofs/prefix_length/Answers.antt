-- `padding::prefix_length` meets its contract. Assumes nothing.
use mathlib.Core.Path.{sym, ap}
use lib.ListN.{length}
use Rattle.padding.proofs.Padding.{prefix-two, no-prefix-low, no-prefix-high}
use Rattle.padding.proofs.prefix_length.Goals as goal

pub returns-then-code-le4 : goal.returns-then-code-le4
returns-then-code-le4 c = rw c.if-alternate.true (sym (prefix-two c.args.code c.if-code-ge1.true c.if-code-le4.true))

pub returns-else-code-le4 : goal.returns-else-code-le4
returns-else-code-le4 c = rw c.if-alternate.true (sym (ap length (no-prefix-high c.args.code c.if-code-le4.false)))

pub returns-else-code-ge1 : goal.returns-else-code-ge1
returns-else-code-ge1 c = rw c.if-alternate.true (sym (ap length (no-prefix-low c.args.code c.if-code-ge1.false)))
