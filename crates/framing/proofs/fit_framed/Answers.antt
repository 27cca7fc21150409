-- `framing::fit_framed` meets its contract. Assumes nothing.
use mathlib.Core.Path.{sym}
use native.Mathlib.Omega.{arith}
use Rattle.writing.specs.Text.{numeral}
use Rattle.framing.proofs.Laid.{numeral-few, around-done}
use Rattle.framing.proofs.fit_framed.Goals as goal

pub put_around-requires : goal.put_around-requires
put_around-requires c = (c.requires, omega (arith, c.count_digits-count.ensures, numeral-few c.args.format c.args.n c.ranges.n.fits))

pub returns : goal.returns
returns c = around-done (c.in_ok-layout.ensures (numeral c.args.format c.args.n) (sym c.count_digits-count.ensures)) c.write_digits.ensures
