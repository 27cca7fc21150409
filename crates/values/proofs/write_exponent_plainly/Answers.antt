-- `values::write_exponent_plainly` meets its contract, for all options that put nothing around the digits. Assumes nothing.
use mathlib.Core.Path.{refl}
use lib.ListN.{length}
use Rattle.kinds.specs.Values.{stands_for}
use Rattle.scientific.specs.Layout.{exp_text}
use Rattle.writing.specs.Text.{exponent_letter}
use Rattle.writing.proofs.Cases.{exponent-writes, unframes}
use Rattle.values.proofs.write_exponent_plainly.Goals as goal

pub returns : goal.returns
returns c o U k =
    exponent-writes c.args.value.kind.bits (stands_for c.args.value) c.args.format o (length c.args.out.now) c.split_pattern-split.result c.split_pattern-split.ensures k c.args.out.now c.write_bare_exponent.result c.write_bare_exponent.new.out refl c.requires
    (rw (unframes o c.split_pattern-split.result.negative c.args.format (exp_text (exponent_letter c.args.format) o.precision c.split_pattern-split.result.magnitude) U, U.precision) c.write_bare_exponent.ensures)
