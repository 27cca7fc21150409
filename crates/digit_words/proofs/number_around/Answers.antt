-- `digit_words::number_around` meets its contract. Assumes nothing.
use Rattle.std.proofs.Common.{◌∙◌, lit≤}
use Rattle.digit_words.proofs.Shifts.{padded-below, padded-value, around, around-below}
use Rattle.digit_words.proofs.number_around.Goals as goal

pub number-requires : goal.number-requires
number-requires c = (lit≤ tt, lit≤ tt, padded-below _ c.args.k _ (around c.args.w c.args.k c.requires.1) (around-below c.args.w c.args.k c.requires.0))

pub returns : goal.returns
returns c = c.number.ensures.0 ∙ padded-value _ c.args.k _ (around c.args.w c.args.k c.requires.1)
