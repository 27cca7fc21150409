-- `parts::write_number` meets its contract. The invariant: the decimal of what is left completes the buffer. The measure is what is left.
-- Assumes nothing.
use mathlib.Core.Path.{refl}
use mathlib.Core.List.{[], ◌∷◌}
use Prim.Native.Nat.{◌-◌, ◌/◌, ◌%◌, ◌<◌}
use native.Mathlib.Omega.{arith}
use lib.Dec.{lit<}
use lib.ListN.{length-set}
use Rattle.buffer.proofs.Left.{left-start, left-store, left-last}
use Rattle.digits.specs.Text.{ascii, decimal}
use Rattle.digits.proofs.Text.{text-step, text-small, text-some}
use Rattle.parts.proofs.write_number.Goals as goal

ten : 1 < 10
ten = lit< tt

pub loop-rest-init : goal.loop-rest-init
loop-rest-init c = left-start _ _ _ _ refl c.requires.0 c.requires.1

pub overflow_sub-at : goal.overflow_sub-at
overflow_sub-at c = omega (arith, text-some ascii 10 ten c.loop-rest.rest, c.loop-rest.invariant.room)

pub bounds-out-at : goal.bounds-out-at
bounds-out-at c = omega (arith, text-some ascii 10 ten c.loop-rest.rest, c.loop-rest.invariant.room, c.loop-rest.invariant.within)

pub loop-rest-preserved : goal.loop-rest-preserved
loop-rest-preserved c =
    left-store
    c.loop-rest.invariant
    (decimal (c.loop-rest.rest / 10))
    (ascii (c.loop-rest.rest % 10) ∷ [])
    (c.loop-rest.at - 1)
    (text-step ascii 10 ten c.loop-rest.rest c.loop-rest-test.true)
    (omega (arith, text-some ascii 10 ten c.loop-rest.rest, c.loop-rest.invariant.room))

pub overflow_sub-at-2 : goal.overflow_sub-at-2
overflow_sub-at-2 c = omega (arith, text-some ascii 10 ten c.loop-rest.rest, c.loop-rest.invariant.room)

pub bounds-out-at-2 : goal.bounds-out-at-2
bounds-out-at-2 c = omega (arith, text-some ascii 10 ten c.loop-rest.rest, c.loop-rest.invariant.room, c.loop-rest.invariant.within)

pub shape_of-out : goal.shape_of-out
shape_of-out c = simp length-set c.loop-rest.invariant.same

pub returns : goal.returns
returns c =
    left-last
    c.loop-rest.invariant
    (ascii c.loop-rest.rest ∷ [])
    (c.loop-rest.at - 1)
    (text-small ascii 10 ten c.loop-rest.rest (omega arith))
    (omega (arith, text-some ascii 10 ten c.loop-rest.rest, c.loop-rest.invariant.room))
