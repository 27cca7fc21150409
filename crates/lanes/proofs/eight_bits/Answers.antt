-- `lanes::eight_bits` meets its contract: binary digits are below ten. Assumes nothing.
use mathlib.Core.List.{map}
use mathlib.Core.Path.{ap, ◌∙◌}
use lib.Dec.{lit<, lit≤}
use Rattle.digits.specs.Text.{ascii, last_text}
use Rattle.lanes.proofs.Lanes.{below_more}
use Rattle.lanes.proofs.Letters.{bytes-last, below_last}
use Rattle.lanes.proofs.eight_bits.Goals as goal

pub shown-requires : goal.shown-requires
shown-requires c = below_more (lit≤ tt) _ (below_last 2 8 c.args.n (lit< tt) (lit≤ tt) c.spread_bits.ensures)

pub returns : goal.returns
unfolding last_text
returns c = c.shown.ensures ∙ ap (map ascii) (bytes-last 2 8 c.args.n (lit< tt) (lit≤ tt) c.spread_bits.ensures)
