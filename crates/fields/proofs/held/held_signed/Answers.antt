-- `fields::held::held_signed` meets its contract. Assumes nothing.
use Rattle.std.proofs.Common.{rules, subst}
use Rattle.std.proofs.lemmas.Int.{to_z-of_z}
use mir.Syntax.{w64}
use Rattle.fields.proofs.held.held_signed.Goals as goal

pub returns-then-value-lt0-clause-negative : goal.returns-then-value-lt0-clause-negative
returns-then-value-lt0-clause-negative g c = λ h.
    (c.try_from.result, subst (λ v. g.T.TryFrom.try_from_gives v c.try_from.result) (to_z-of_z w64 c.args.value c.ranges.value) c.try_from.ensures, search rules)

pub returns-else-value-lt0-clause-others : goal.returns-else-value-lt0-clause-others
returns-else-value-lt0-clause-others g c = λ h.
    (c.try_from-else-value-lt0.result, subst (λ v. g.T.TryFrom.try_from_gives v c.try_from-else-value-lt0.result) (to_z-of_z w64 c.args.value c.ranges.value) c.try_from-else-value-lt0.ensures, search rules)
