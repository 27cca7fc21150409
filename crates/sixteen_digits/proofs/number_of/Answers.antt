-- `sixteen_digits::number_of` meets its contract. Assumes nothing.
use Rattle.std.proofs.lemmas.Option.{IfSome_then}
use Rattle.sixteen_digits.proofs.Splices.{whole}
use Rattle.sixteen_digits.proofs.number_of.Goals as goal
use Rattle.sixteen_digits.proofs.number_of.Goals.{then-s-eq48+else-s-gt1, else-s-eq48}

pub returns : goal.returns
returns c = IfSome_then c.number_in.result c.number_in.ensures (λ n. whole c.args.letter.first c.args.s.now n c.requires (elim c.if-s-eq48.branch [ then-s-eq48+else-s-gt1 w ↦ λ z. w.if-s-gt1.false | else-s-eq48 w ↦ λ z. absurd (w.if-s-eq48.false z) ]))
