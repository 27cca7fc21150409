-- `digit_words::faults` meets its contract. Assumes nothing.
use Rattle.lanes.specs.Lanes.{word}
use Rattle.digit_words.proofs.Masks.{faultless}
use Rattle.digit_words.proofs.faults.Goals as goal

pub returns : goal.returns
unfolding word
returns c = λ z. faultless c.args.w _ c.ranges.w.fits c.wrapping_add_u64-more.ensures.value z
