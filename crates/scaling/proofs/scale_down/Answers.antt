-- `scaling::scale_down` meets its contract. Assumes nothing.
use mathlib.Core.Path.{ap}
use Prim.Native.Nat.{ℕ, ◌+◌, ◌/◌}
use native.Mathlib.Omega.{arith}
use Rattle.scientific.specs.Sci.{rounded}
use Rattle.scaling.proofs.Scaling.{halved}
use Rattle.scaling.proofs.scale_down.Goals as goal

pub overflow_add-result : goal.overflow_add-result
overflow_add-result c = omega (arith, halved c.args.coef c.args.scale (omega arith))

pub returns : goal.returns
unfolding rounded
returns c = ap (λ (d : ℕ). c.args.coef / c.args.scale + d) c.«round_up».ensures.0
