-- `buffer::copy` meets its contract: the bytes lent are the run of the source. Assumes nothing.
use mathlib.Core.Path.{ap, ◌∙◌}
use Prim.Native.Nat.{ℕ}
use native.Mathlib.Omega.{arith}
use lib.ListN.{take, drop, length-drop}
use lib.Seq.{length-take-le}
use Rattle.buffer.proofs.AtEnd.{ended_lent}
use Rattle.buffer.proofs.copy.Goals as goal

pub returns : goal.returns
returns c =
    ended_lent c.args.buf.now c.args.end c.args.len
    (c.copy_from_slice.ensures.after ∙ ap (λ (i : ℕ). take i (drop c.args.from c.args.src.now)) (omega arith))
    (length-take-le c.args.len (drop c.args.from c.args.src.now) (omega (arith, length-drop c.args.from c.args.src.now)))
    c.requires.1 c.requires.2
