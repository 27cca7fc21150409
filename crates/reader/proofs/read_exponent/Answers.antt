-- `reader::read_exponent` meets its contract. Assumes nothing.
use mathlib.Core.Path.{◌∙◌}
use Rattle.std.proofs.lemmas.Result.{err_from_is_err_and}
use Rattle.formats.specs.Formats.{letter_from}
use Rattle.reader.proofs.Answers.{exponent-signed, exponent-some, exponent-over, exponent-held}
use Rattle.reader.proofs.read_exponent.Goals as goal

pub returns-in_err-found : goal.returns-in_err-found
returns-in_err-found c =
    let p = err_from_is_err_and c.from_residual-in_err-found.result c.from_residual-in_err-found.ensures.1 in
    rw (p.1, p.2) (exponent-over _ _ _ c.args.target.fits.0 c.args.target.fits.1 (letter_from c.args.case 101) c.in_ok-find_exponent.ensures c.in_err-found.ensures)

pub of_magnitude-requires : goal.of_magnitude-requires
of_magnitude-requires c = (
  λ m. exponent-signed _ _ _ c.args.target.fits.0 c.args.target.fits.1 (letter_from c.args.case 101) c.in_ok-find_exponent.ensures (c.in_ok-found.ensures.0 ∙ m),
  exponent-some _ _ _ c.args.target.fits.0 c.args.target.fits.1 (letter_from c.args.case 101) c.in_ok-find_exponent.ensures c.in_ok-found.ensures,
)

pub returns : goal.returns
returns c = exponent-held _ _ _ c.args.target.fits.0 c.args.target.fits.1 (letter_from c.args.case 101) c.in_ok-find_exponent.ensures c.in_ok-found.ensures c.of_magnitude.ensures
