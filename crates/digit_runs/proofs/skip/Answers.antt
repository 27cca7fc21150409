-- `digit_runs::skip` meets its contract. Assumes nothing.
use Rattle.std.proofs.Common.{arith}
use Rattle.digit_runs.proofs.Runs.{no-digits, run_more}
use Rattle.digit_runs.proofs.skip.Goals as goal

pub loop-i-init : goal.loop-i-init
loop-i-init c = no-digits _ _ _ _ c.requires

pub loop-i-preserved : goal.loop-i-preserved
loop-i-preserved c = run_more _ _ _ _ _ c.loop-i.invariant c.args.numerals.few.0 _ (omega arith) c.in-Some.ensures
