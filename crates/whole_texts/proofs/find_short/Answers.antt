-- `whole_texts::find_short` meets its contract. Assumes nothing.
use borrow.Author.Tests.{lt-ltb}
use Rattle.digit_runs.proofs.Runs.{front-inside, front-allowed}
use Rattle.whole_texts.proofs.Shorts.{short-decimal}
use Rattle.whole_texts.proofs.find_short.Goals as goal

pub slice_bounds-number_of-count : goal.slice_bounds-number_of-count
slice_bounds-number_of-count c = front-inside c.front-start.ensures c.requires

pub slice_bounds-number_of-start : goal.slice_bounds-number_of-start
slice_bounds-number_of-start c = front-inside c.front-start.ensures c.requires

pub returns : goal.returns
returns c = (
  front-allowed c.front-start.ensures,
  λ f. short-decimal c.args.text.now _ _ (front-inside c.front-start.ensures c.requires) c.in_ok-magnitude.ensures c.args.may c.front-start.ensures (λ h. f (lt-ltb 0 c.front-start.result h)),
)
