-- `writer::write` meets its contract. Assumes nothing.
use mathlib.Core.Path.{ap}
use Rattle.std.specs.Prelude.{Err}
use Rattle.std.proofs.lemmas.Result.{err_from_is_err_and}
use Rattle.writer.proofs.Judged.{of_value, of_misfit}
use Rattle.writer.proofs.write.Goals as goal

pub returns-in_err-value : goal.returns-in_err-value
returns-in_err-value c =
    let p = err_from_is_err_and c.from_residual.result c.from_residual.ensures.1 in
    let no = c.in_err-value.ensures in
    rw (p.1, p.2) (of_misfit c.args.kind c.args.value c.in_err-value.field-0.0 c.args.format c.args.options c.args.out.now (λ e. no.no_type (ap Err e)) (λ e. no.no_value (ap Err e)))

pub returns : goal.returns
returns c = of_value c.args.kind c.args.value c.in_ok-value.value c.args.format c.args.options c.in_ok-value.ensures.fits c.write_value.ensures
