-- `buffer::fill` meets its contract: the bytes lent are the copies. Assumes nothing.
use mathlib.Core.Path.{ap, ◌∙◌}
use Prim.Native.Nat.{ℕ}
use lib.ListN.{replicate, length-replicate}
use Rattle.buffer.proofs.AtEnd.{lent_length, ended_lent}
use Rattle.buffer.proofs.fill.Goals as goal

pub returns : goal.returns
returns c =
    ended_lent c.args.buf.now c.args.end c.args.count
    (c.fill.ensures.after (λ y e. e) ∙ ap (λ (i : ℕ). replicate i c.args.byte) (lent_length c.args.buf.now c.args.end c.args.count c.requires.0 c.requires.1))
    (length-replicate c.args.count c.args.byte) c.requires.0 c.requires.1
