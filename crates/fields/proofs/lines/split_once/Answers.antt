-- `fields::lines::split_once` meets its contract: the byte at the place that was found is the one looked for. Assumes nothing.
use Rattle.std.proofs.Common.{rules, arith, eqb}
use Rattle.std.proofs.lemmas.Grind.{common_steps}
use Rattle.std.proofs.lemmas.List.Quantifiers.{position-Some}
use Rattle.fields.proofs.lines.split_once.Goals as goal

pub returns : goal.returns
returns c =
    let found = position-Some (λ each. eqb each c.args.byte) c.args.text.now c.in_ok-at.at 0 (search rules) in
    (grind (arith, common_steps), grind (arith, common_steps))
