-- `values::write_value` meets its contract. Assumes nothing.
use mathlib.Core.Path.{refl, sym, ◌∙◌}
use lib.ListN.{length}
use Rattle.kinds.specs.Values.{stands_for}
use Rattle.writing.proofs.Cases.{options-refused, plain-writes, settles}
use Rattle.values.proofs.write_value.Goals as goal

pub returns-then-not-options_known : goal.returns-then-not-options_known
returns-then-not-options_known c =
    rw (options-refused c.args.value.kind.bits (stands_for c.args.value) c.args.format c.args.options (length c.args.out.now) (sym c.options_known.ensures ∙ c.if-not-options_known.true)) (record { answers = refl; leaves = refl })

pub returns-then-format-le4 : goal.returns-then-format-le4
returns-then-format-le4 c =
    plain-writes c.args.value.kind.bits (stands_for c.args.value) c.args.format c.args.options (length c.args.out.now) (sym c.options_known.ensures ∙ c.if-not-options_known.false) c.args.out.now c.settle.result c.write_plainly.new.out refl c.if-format-le4.true
    (settles (c.write_plainly.ensures c.args.options c.args.options.precision (record { width = c.if-options-ne0.false; plus = c.if-options.false; alternate = c.if-options-2.false; precision = refl })) c.settle.ensures)
