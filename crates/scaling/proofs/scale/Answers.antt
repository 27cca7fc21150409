-- `scaling::scale` meets its contract. Assumes nothing.
use native.Mathlib.Omega.{arith}
use borrow.Author.Rules.{rules}
use Rattle.scientific.proofs.Tens as T
use Rattle.scaling.proofs.scale.Goals as goal

pub overflow_sub-digit_count : goal.overflow_sub-digit_count
overflow_sub-digit_count c = omega (arith, T.decimal-are c.args.n)

pub fixed-requires : goal.fixed-requires
fixed-requires c = (omega (arith, c.digit_count.ensures, T.decimal-are c.args.n), search rules)

pub returns-in-None : goal.returns-in-None
returns-in-None c = rw c.in-None.is c.in_full.ensures

pub returns-in-Some : goal.returns-in-Some
returns-in-Some c = rw c.in-Some.is c.fixed.ensures
