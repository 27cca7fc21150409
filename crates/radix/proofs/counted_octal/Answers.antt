-- `radix::counted_octal` meets its contract: of octal digits none is a letter. Assumes nothing.
use native.Mathlib.Omega.{arith}
use lib.Dec.{lit<, lit≤}
use Rattle.bit_table.proofs.Table.{plain-text}
use Rattle.radix.proofs.counted_octal.Goals as goal

pub octal-requires : goal.octal-requires
octal-requires c =
    rw (plain-text 8 c.args.n (lit< tt) (lit≤ tt)) (c.requires.0, omega (arith, c.if-len-le4.false), c.requires.1, c.requires.2)

pub returns : goal.returns
returns c = rw (plain-text 8 c.args.n (lit< tt) (lit≤ tt)) at c.octal.ensures
