-- `digit_words::figures` meets its contract. Assumes nothing.
use Rattle.digit_words.proofs.Values.{text_of}
use Rattle.std.proofs.Common.{rules}
use Rattle.digit_words.proofs.figures.Goals as goal

pub returns : goal.returns
returns c = λ d. text_of c.args.u c.wrapping_sub_u64.result (search rules) c.wrapping_sub_u64.ensures.value d
