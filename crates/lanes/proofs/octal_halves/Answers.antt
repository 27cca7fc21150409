-- `lanes::octal_halves` meets its contract. Assumes nothing.
use mathlib.Core.Path.{◌≡◌}
use Prim.Native.Nat.{◌*◌, ◌%◌, ◌^◌}
use native.Mathlib.Nat.{mod-eq_of_lt}
use native.Mathlib.Omega.{arith}
use lib.Dec.{lit<}
use Rattle.lanes.proofs.Lanes.{spread-first}
use Rattle.lanes.proofs.octal_halves.Goals as goal

pub returns : goal.returns
returns c =
    let e : c.args.n % 4096 * 2 ^ 32 % 2 ^ 64 ≡ c.args.n % 4096 * 2 ^ 32 = mod-eq_of_lt (omega arith) in
    rw e (spread-first (2 ^ 32) 4096 c.args.n (lit< tt) c.requires)
