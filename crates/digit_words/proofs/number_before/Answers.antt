-- `digit_words::number_before` meets its contract. Assumes nothing.
use Rattle.std.proofs.Common.{◌-◌, ◌∙◌, lit≤}
use Rattle.words.specs.Bytes.{bytes_of}
use Rattle.digit_words.proofs.Shifts.{Below-take, padded-below, padded-value, before}
use Rattle.digit_words.proofs.number_before.Goals as goal

pub number-requires : goal.number-requires
number-requires c = (lit≤ tt, lit≤ tt, padded-below _ c.args.k _ (before c.args.w c.args.k c.requires.1) (Below-take 10 (8 - c.args.k) (bytes_of 8 c.args.w) c.requires.0))

pub returns : goal.returns
returns c = (c.number.ensures.0 ∙ padded-value _ c.args.k _ (before c.args.w c.args.k c.requires.1), c.number.ensures.1)
