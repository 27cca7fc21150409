-- `framed_exponents::letter_of` meets its contract. Assumes nothing.
use borrow.Author.Tests.{eq-eqb, ne_eqb}
use Rattle.framed_exponents.proofs.letter_of.Goals as goal

pub returns-then-format-eq5 : goal.returns-then-format-eq5
returns-then-format-eq5 c = simp (eq-eqb c.args.format 5 c.if-format-eq5.true)

pub returns : goal.returns
returns c = simp (ne_eqb c.args.format 5 c.if-format-eq5.false)
