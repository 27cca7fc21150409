-- `padding::put_letter` meets its contract. Assumes nothing.
use mathlib.Core.List.{[], ◌∷◌}
use mathlib.Core.Path.{◌≡◌}
use Prim.Native.Nat.{suc, ◌-◌}
use native.Mathlib.Omega.{arith}
use lib.ListN.{length-set}
use Rattle.buffer.proofs.AtEnd.{ended-sets}
use Rattle.padding.proofs.put_letter.Goals as goal

pub bounds-out-end-2 : goal.bounds-out-end-2
bounds-out-end-2 c = simp length-set (omega arith)

pub returns : goal.returns
returns c =
    let i : c.args.end - 1 ≡ suc (c.args.end - 2) = omega arith in
    rw i (ended-sets c.args.out.now (c.args.end - 2) c.args.end (48 ∷ c.args.letter ∷ []) (omega arith) c.requires.1)
