-- `lanes::eight` meets its contract. Assumes nothing.
use mathlib.Core.List.{map}
use mathlib.Core.Path.{ap, ◌∙◌}
use lib.Dec.{lit<, lit≤}
use Rattle.digits.specs.Text.{last_text}
use Rattle.lanes.specs.Letters.{digit_byte}
use Rattle.lanes.proofs.Letters.{bytes-last, below_last}
use Rattle.lanes.proofs.eight.Goals as goal

pub spelled-requires : goal.spelled-requires
spelled-requires c = (c.requires.0, c.requires.1, below_last 16 8 c.args.n (lit< tt) (lit≤ tt) c.spread8.ensures)

pub returns : goal.returns
unfolding last_text
returns c =
    c.spelled.ensures ∙ ap (map (digit_byte c.args.letter)) (bytes-last 16 8 c.args.n (lit< tt) (lit≤ tt) c.spread8.ensures)
