-- `values::write_framed` meets its contract. Assumes nothing.
use mathlib.Core.Path.{refl}
use lib.ListN.{length}
use Rattle.kinds.specs.Values.{stands_for}
use Rattle.writing.proofs.Cases.{plain-writes, exponent-writes, settles}
use Rattle.values.proofs.write_framed.Goals as goal

pub returns-then-format-le4 : goal.returns-then-format-le4
returns-then-format-le4 c =
    plain-writes c.args.value.kind.bits (stands_for c.args.value) c.args.format c.args.options (length c.args.out.now) c.requires c.args.out.now c.settle.result c.write_framed-need.new.out refl c.if-format-le4.true
    (rw (c.shown-number.ensures.text c.args.options) (settles c.write_framed-need.ensures c.settle.ensures))

pub returns : goal.returns
returns c =
    exponent-writes c.args.value.kind.bits (stands_for c.args.value) c.args.format c.args.options (length c.args.out.now) c.split_pattern-split.result c.split_pattern-split.ensures c.requires c.args.out.now c.write_framed_exponent.result c.write_framed_exponent.new.out refl c.if-format-le4.false c.write_framed_exponent.ensures
