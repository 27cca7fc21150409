-- `sixteen_digits::up_to_sixteen` meets its contract. Assumes nothing.
use mathlib.Core.Path.{sym, subst}
use native.Mathlib.Omega.{arith}
use lib.Dec.{lit≤}
use Rattle.sixteen_digits.specs.Hex.{Digits}
use Rattle.sixteen_digits.proofs.Splices.{sixteen-digits}
use Rattle.sixteen_digits.proofs.up_to_sixteen.Goals as goal

pub behind-requires : goal.behind-requires
behind-requires c =
    (c.in_ok-w.ensures.1, omega (arith, c.requires.0), c.in_ok-v.ensures.1, lit≤ tt)

pub returns : goal.returns
returns c =
    let last = c.in_ok-v.ensures in
    let first = c.in_ok-w.ensures in
    subst (Digits c.args.letter.first c.args.s.now) (sym c.behind.ensures)
    (sixteen-digits c.args.letter.first c.args.s.now c.load8.result c.in_ok-v.v c.load8-2.result c.in_ok-w.w c.requires.0 c.requires.1 c.load8.ensures last.0 last.1 c.load8-2.ensures first.0 first.1)
