-- `sixteen_digits::up_to_seven` meets its contract. Assumes nothing.
use mathlib.Core.Path.{sym, subst}
use native.Mathlib.Nat.{lt_of_le_of_lt, mod-lt}
use native.Mathlib.Omega.{arith}
use lib.Dec.{lit<, lit≤}
use lib.Pow.{shr_le}
use Rattle.sixteen_digits.specs.Hex.{Digits}
use Rattle.sixteen_digits.proofs.Splices.{seven-digits}
use Rattle.sixteen_digits.proofs.up_to_seven.Goals as goal

pub behind-requires : goal.behind-requires
behind-requires c =
    let f = c.in_ok-v.ensures.1 in
    (lt_of_le_of_lt (shr_le c.in_ok-v.v 16) f, omega (arith, c.requires.0), mod-lt c.in_ok-v.v (lit< tt), lit≤ tt)

pub returns : goal.returns
returns c =
    let both = c.in_ok-v.ensures in
    subst (Digits c.args.letter.first c.args.s.now) (sym c.behind.ensures)
    (seven-digits c.args.letter.first c.args.s.now c.load4.result c.load4-2.result c.in_ok-v.v c.requires.0 c.requires.1 c.load4.ensures.0 c.load4.ensures.1 c.load4-2.ensures.0 both.0 both.1)
