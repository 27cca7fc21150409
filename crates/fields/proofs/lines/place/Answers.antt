-- `fields::lines::place` meets its contract. Assumes nothing.
use Rattle.std.proofs.Common.{rules, arith, sym}
use Rattle.fields.proofs.Places.{found, nowhere}
use Rattle.fields.proofs.lines.place.Goals as goal

pub returns-then-text-at : goal.returns-then-text-at
returns-then-text-at c = sym (found c.args.byte c.args.text.now c.loop-at.at (omega arith) c.loop-at.invariant (search rules))

pub returns : goal.returns
returns c = sym (nowhere c.args.byte c.args.text.now (λ k h. c.loop-at.invariant k (omega arith)))
