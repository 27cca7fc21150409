-- `digit_words::number` meets its contract. Assumes nothing.
use Rattle.std.proofs.Common.{arith}
use Rattle.digit_words.proofs.Values.{Steps, steps}
use Rattle.digit_words.proofs.number.Goals as goal
use Rattle.digit_words.proofs.number.Goals.{Start}

are : (c : Start) → Steps c.args.base c.args.w
are c = steps c.args.base c.args.w c.requires.0 c.requires.1 c.ranges.w.fits c.requires.2

pub overflow_mul-square : goal.overflow_mul-square
overflow_mul-square c = omega (arith, (are (goal.at.overflow_mul-square c).Start).square)

pub overflow_mul-p : goal.overflow_mul-p
overflow_mul-p c = omega (arith, (are (goal.at.overflow_mul-p c).Start).twos_fit)

pub overflow_add-p : goal.overflow_add-p
overflow_add-p c = record { fits = (are (goal.at.overflow_add-p c).Start).twos_fit }

pub overflow_mul-q : goal.overflow_mul-q
overflow_mul-q c = omega (arith, (are (goal.at.overflow_mul-q c).Start).fours-fit)

pub overflow_add-q : goal.overflow_add-q
overflow_add-q c = record { fits = (are (goal.at.overflow_add-q c).Start).fours-fit }

pub overflow_mul-result : goal.overflow_mul-result
overflow_mul-result c = omega (arith, (are (goal.at.overflow_mul-result c).Start).fourth)

pub overflow_mul-result-2 : goal.overflow_mul-result-2
overflow_mul-result-2 c = omega (arith, (are (goal.at.overflow_mul-result-2 c).Start).product)

pub overflow_add-result : goal.overflow_add-result
overflow_add-result c = omega (arith, (are (goal.at.overflow_add-result c).Start).product, (are (goal.at.overflow_add-result c).Start).fours-most)

pub returns : goal.returns
returns c = (are (goal.at.returns c).Start).number
