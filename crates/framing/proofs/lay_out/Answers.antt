-- `framing::lay_out` meets its contract. Assumes nothing.
use mathlib.Core.Path.{◌≡◌, refl, subst}
use Prim.Native.Nat.{ℕ, ◌+◌, ◌-◌, ◌≤◌}
use native.Mathlib.Omega.{arith}
use lib.ListN.{length}
use Rattle.padding.specs.Padding.{Planned, sign_of, prefix_of}
use Rattle.padding.proofs.Padding.{sign-few, prefix-few, padded-length}
use Rattle.framing.proofs.lay_out.Goals as goal
use Rattle.framing.proofs.lay_out.Goals.{After-prefix_length-prefix}

-- sign and prefix are short
few : (c : After-prefix_length-prefix) → (c.sign_length-sign.result ≤ 1) × (c.prefix_length-prefix.result ≤ 2)
few c =
    (omega (arith, c.sign_length-sign.ensures, sign-few c.args.negative c.args.options.plus), omega (arith, c.prefix_length-prefix.ensures, prefix-few c.args.options.alternate c.args.format))

pub overflow_add-len : goal.overflow_add-len
overflow_add-len c = record { fits = omega (arith, few (goal.at.overflow_add-len c).After-prefix_length-prefix, c.requires) }

pub overflow_add-len-2 : goal.overflow_add-len-2
overflow_add-len-2 c = record { fits = omega (arith, few (goal.at.overflow_add-len-2 c).After-prefix_length-prefix, c.requires) }

pub overflow_add-end : goal.overflow_add-end
overflow_add-end c = record { fits = omega (arith, few (goal.at.overflow_add-end c).After-prefix_length-prefix, c.plan-pad.ensures.1) }

pub overflow_add-end-2 : goal.overflow_add-end-2
overflow_add-end-2 c = record { fits = omega (arith, few (goal.at.overflow_add-end-2 c).After-prefix_length-prefix, c.plan-pad.ensures.1) }

pub overflow_add-end-3 : goal.overflow_add-end-3
overflow_add-end-3 c = record { fits = omega (arith, few (goal.at.overflow_add-end-3 c).After-prefix_length-prefix, c.plan-pad.ensures.1) }

pub overflow_add-end-4 : goal.overflow_add-end-4
overflow_add-end-4 c = record { fits = omega (arith, few (goal.at.overflow_add-end-4 c).After-prefix_length-prefix, c.plan-pad.ensures.1, c.requires) }

pub overflow_add-result : goal.overflow_add-result
overflow_add-result c = record { fits = omega (arith, few (goal.at.overflow_add-result c).After-prefix_length-prefix, c.plan-pad.ensures.1, c.requires) }

pub returns : goal.returns
returns c = λ digits e.
    let sgn = sign_of c.args.negative c.args.options.plus in
    let pre = prefix_of c.args.options.alternate c.args.format in
    let w : c.sign_length-sign.result + (c.prefix_length-prefix.result + c.args.count) ≡ length sgn + (length pre + length digits) = omega arith in
    let q = subst (λ (n : ℕ). Planned c.args.options.zero c.args.options.align (c.args.options.width - n) c.plan-pad.result.before c.plan-pad.result.zeros c.plan-pad.result.behind) w c.plan-pad.ensures.0 in
    record { planned = q; ends = refl; whole = omega (arith, padded-length c.args.options.zero c.args.options.fill c.args.options.align c.args.options.width sgn pre digits q) }
