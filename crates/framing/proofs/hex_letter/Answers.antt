-- `framing::hex_letter` meets its contract: small letters by the code 3, capital ones beyond. Assumes nothing.
use mathlib.Core.Path.{ap}
use Prim.Native.Nat.{ℕ}
use native.Mathlib.Omega.{arith}
use borrow.Author.Tests.{ne_eqb}
use lib.Dec.{lit<, lit≤}
use Rattle.writing.specs.Text.{numeral}
use Rattle.framing.proofs.hex_letter.Goals as goal

pub returns-then-format-eq3 : goal.returns-then-format-eq3
returns-then-format-eq3 c = (lit< tt, lit≤ tt, λ n. ap (λ (f : ℕ). numeral f n) c.if-format-eq3.true)

pub returns : goal.returns
returns c =
    (lit< tt, lit≤ tt, λ n. rw (ne_eqb c.args.format 0 (λ e. omega (arith, c.requires)), ne_eqb c.args.format 1 (λ e. omega (arith, c.requires)), ne_eqb c.args.format 2 (λ e. omega (arith, c.requires)), ne_eqb c.args.format 3 c.if-format-eq3.false))
