-- `larguviet::lgv_read` meets its contract. It is the promise of what it calls. Assumes nothing.
use Rattle.std.specs.Prelude.{Ok}
use mathlib.Core.Path.{◌≡◌, subst}
use native.Mathlib.Omega.{arith}
use Prim.Native.Nat.{ℕ}
use Rattle.reader.specs.Answers.{Answers}
use Rattle.edge.specs.Edge.{set}
use Rattle.edge.proofs.Edge.{at_once}
use Rattle.larguviet.proofs.lgv_read.Goals as goal

pub returns-in-Some : goal.returns-in-Some
returns-in-Some c =
    let decimal : 0 ≡ c.args.format = omega arith in
    at_once (subst (λ (f : ℕ). Answers (set c.args.is_signed) c.args.bits f c.args.text.now (Ok c.in-Some.value)) decimal c.in-Some.ensures)
