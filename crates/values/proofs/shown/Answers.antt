-- `values::shown` meets its contract. Assumes nothing.
use Rattle.kinds.specs.Values.{stands_for}
use Rattle.writing.proofs.Cases.{decimal-shown, radix-shown}
use Rattle.values.proofs.shown.Goals as goal

pub returns-then-format-eq0-clause-text : goal.returns-then-format-eq0-clause-text
returns-then-format-eq0-clause-text c o =
    decimal-shown c.args.value.kind.bits (stands_for c.args.value) c.args.format o 0 c.split_pattern.result c.split_pattern.ensures c.if-format-eq0.true

pub returns-clause-text : goal.returns-clause-text
returns-clause-text c o =
    radix-shown c.args.value.kind.bits (stands_for c.args.value) c.args.format o 0 c.own_pattern.result c.own_pattern.ensures c.if-format-eq0.false c.requires
