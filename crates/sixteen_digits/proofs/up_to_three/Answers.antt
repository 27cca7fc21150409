-- `sixteen_digits::up_to_three` meets its contract. Assumes nothing.
use mathlib.Core.Path.{sym, subst}
use Prim.Native.Nat.{◌/◌, ◌^◌}
use native.Mathlib.Nat.{lt_of_le_of_lt, mod-lt}
use native.Mathlib.Omega.{arith}
use lib.Dec.{lit<, lit≤}
use lib.Pow.{shr_le}
use Rattle.sixteen_digits.specs.Hex.{Digits}
use Rattle.sixteen_digits.proofs.Splices.{three-digits}
use Rattle.sixteen_digits.proofs.up_to_three.Goals as goal

pub behind-requires : goal.behind-requires
behind-requires c =
    let f = c.in_ok-v.ensures.1 in
    (lt_of_le_of_lt (shr_le (c.in_ok-v.v / 2 ^ 20) 4) (lt_of_le_of_lt (shr_le c.in_ok-v.v 20) f), omega (arith, c.requires.0), mod-lt (c.in_ok-v.v / 2 ^ 20) (lit< tt), lit≤ tt)

pub returns : goal.returns
returns c =
    let all = c.in_ok-v.ensures in
    subst (Digits c.args.letter.first c.args.s.now) (sym c.behind.ensures)
    (three-digits c.args.letter.first c.args.s.now c.wide.result c.wide-2.result c.wide-3.result c.in_ok-v.v c.requires.0 c.requires.1 c.wide.ensures.0 c.wide.ensures.1 c.wide-2.ensures.0 c.wide-2.ensures.1 c.wide-3.ensures.0 c.wide-3.ensures.1 all.0 all.1)
