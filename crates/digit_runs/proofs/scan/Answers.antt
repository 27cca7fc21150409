-- `digit_runs::scan` meets its contract. Assumes nothing.
use Rattle.std.proofs.Common.{arith}
use Rattle.digit_runs.proofs.Runs.{sofar-none, sofar-more, scanned, scanned-all, scanned-over}
use Rattle.digit_runs.proofs.scan.Goals as goal

pub loop-i-init : goal.loop-i-init
loop-i-init c = sofar-none _ _ _ _ _ c.requires c.ranges.before.fits

pub returns-in_default : goal.returns-in_default
returns-in_default c = scanned c.loop-i.invariant (λ h. c.in_default.ensures)

pub returns-in_default-appended : goal.returns-in_default-appended
returns-in_default-appended c =
    scanned-over _ _ _ _ _ _ _ _ c.args.numerals.few.0 c.loop-i.invariant (omega arith) c.in-Some.ensures _ (omega (arith, c.in_default-appended.ensures)) c.skip.ensures

pub loop-i-preserved : goal.loop-i-preserved
loop-i-preserved c =
    let e = c.in-Some-appended.ensures in
    rw e.1 (sofar-more _ _ _ _ _ _ _ _ c.args.numerals.few.0 c.loop-i.invariant (omega arith) c.in-Some.ensures e.0)

pub returns : goal.returns
returns c = scanned-all c.loop-i.invariant (omega (arith, c.loop-i.auto.i-end c.requires))
