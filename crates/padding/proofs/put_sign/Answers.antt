-- `padding::put_sign` meets its contract. Assumes nothing.
use mathlib.Core.Bool.{Bool, false}
use mathlib.Core.List.{[], ◌∷◌}
use mathlib.Core.Path.{◌≡◌, ap, ◌∙◌}
use native.Mathlib.Omega.{arith}
use lib.ListN.{length}
use Rattle.padding.specs.Padding.{sign_of}
use Rattle.padding.proofs.Padding.{put-none, put_one}
use Rattle.padding.proofs.put_sign.Goals as goal
use Rattle.padding.proofs.put_sign.Goals.{Then-negative, Then-plus}

minus : (c : Then-negative) → sign_of c.args.negative c.args.plus ≡ 45 ∷ []
minus c = ap (λ (n : Bool). sign_of n c.args.plus) c.if-negative.true

plus-sign : (c : Then-plus) → sign_of c.args.negative c.args.plus ≡ 43 ∷ []
plus-sign c = ap (λ (n : Bool). sign_of n c.args.plus) c.if-negative.false ∙ ap (sign_of false) c.if-plus.true

pub overflow_sub-out : goal.overflow_sub-out
overflow_sub-out c = omega (arith, ap length (minus (goal.at.overflow_sub-out c).Then-negative), c.requires.0)

pub bounds-out-end : goal.bounds-out-end
bounds-out-end c = omega (arith, ap length (minus (goal.at.bounds-out-end c).Then-negative), c.requires.0, c.requires.1)

pub returns-then-negative : goal.returns-then-negative
returns-then-negative c = put_one _ _ _ 45 (minus (goal.at.returns-then-negative c).Then-negative) c.requires.0 c.requires.1

pub overflow_sub-out-then-plus : goal.overflow_sub-out-then-plus
overflow_sub-out-then-plus c = omega (arith, ap length (plus-sign (goal.at.overflow_sub-out-then-plus c).Then-plus), c.requires.0)

pub bounds-out-end-then-plus : goal.bounds-out-end-then-plus
bounds-out-end-then-plus c = omega (arith, ap length (plus-sign (goal.at.bounds-out-end-then-plus c).Then-plus), c.requires.0, c.requires.1)

pub returns-then-plus : goal.returns-then-plus
returns-then-plus c = put_one _ _ _ 43 (plus-sign (goal.at.returns-then-plus c).Then-plus) c.requires.0 c.requires.1

pub returns-else-plus : goal.returns-else-plus
returns-else-plus c = put-none _ _ _ (ap (λ (n : Bool). sign_of n c.args.plus) c.if-negative.false ∙ ap (sign_of false) c.if-plus.false)
