-- `reader::read_short` meets its contract. Assumes nothing.
use Rattle.std.proofs.Common.{ap, arith, rules}
use Rattle.std.proofs.lemmas.Option.{IfSome_then}
use Rattle.kinds.specs.Kinds.{known}
use Rattle.reader.proofs.Outcomes.{short-answer}
use Rattle.reader.proofs.read_short.Goals as goal

pub returns-then-bits-eq64 : goal.returns-then-bits-eq64
returns-then-bits-eq64 c = IfSome_then c.of_short.result c.of_short.ensures
    (λ v o. short-answer c.args.kind.signed c.args.kind.bits c.args.text.now (ap known c.if-bits-eq64.true) (omega (arith, c.if-text-eq0.false)) (c.in_ok-found.ensures.1 o.0) o.1)

pub returns : goal.returns
returns c = IfSome_then c.of_short-2.result c.of_short-2.ensures
    (λ v o. short-answer c.args.kind.signed c.args.kind.bits c.args.text.now (search rules) (omega (arith, c.if-text-eq0.false)) (c.in_ok-found.ensures.1 o.0) o.1)
