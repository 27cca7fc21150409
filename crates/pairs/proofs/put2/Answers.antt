-- `pairs::put2` meets its contract: the two bytes of a pair are the text of the last two digits. Assumes nothing.
use native.Mathlib.Numerals.{add-one}
use native.Mathlib.Omega.{arith}
use lib.ListN.{length-set}
use Rattle.digits.proofs.Tables.{pair-text}
use Rattle.pairs.proofs.put2.Goals as goal

pub bounds-buf-at-2 : goal.bounds-buf-at-2
bounds-buf-at-2 c = simp length-set (omega arith)

pub returns : goal.returns
returns c =
    let e = pair-text c.args.k c.requires.1 in
    rw (c.requires.0, e, add-one)
