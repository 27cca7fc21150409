-- `lanes::eight_octal` meets its contract: octal digits are below ten. Assumes nothing.
use mathlib.Core.List.{map}
use mathlib.Core.Path.{ap, ◌∙◌}
use lib.Dec.{lit<, lit≤}
use Rattle.digits.specs.Text.{ascii, last_text}
use Rattle.lanes.proofs.Lanes.{below_more}
use Rattle.lanes.proofs.Letters.{bytes-last, below_last}
use Rattle.lanes.proofs.eight_octal.Goals as goal

pub shown-requires : goal.shown-requires
shown-requires c = below_more (lit≤ tt) _ (below_last 8 8 c.args.n (lit< tt) (lit≤ tt) c.spread_octal.ensures)

pub returns : goal.returns
unfolding last_text
returns c = c.shown.ensures ∙ ap (map ascii) (bytes-last 8 8 c.args.n (lit< tt) (lit≤ tt) c.spread_octal.ensures)
