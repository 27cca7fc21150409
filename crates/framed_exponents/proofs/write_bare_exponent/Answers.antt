-- `framed_exponents::write_bare_exponent` meets its contract. What was scaled is the text. Assumes nothing.
use Rattle.std.specs.Prelude.{None}
use native.Mathlib.Omega.{arith}
use Rattle.exponent.proofs.Joined.{expo-is, sized, text-is}
use Rattle.writing.specs.Text.{exponent_letter}
use Rattle.writing.proofs.Cases.{settles, exponent-refused, exponent-kept}
use Rattle.framed_exponents.proofs.write_bare_exponent.Goals as goal

pub returns-in_default : goal.returns-in_default
returns-in_default c =
    rw c.in_default.is (exponent-kept None c.args.n _ c.args.out.now _ _ c.write_bare_in_full.ensures.0 (settles c.write_bare_in_full.ensures.1 c.settle.ensures))

pub returns-then-scaled-gt99 : goal.returns-then-scaled-gt99
returns-then-scaled-gt99 c =
    exponent-refused c.args.precision c.args.n _ c.args.out.now (omega (arith, c.if-scaled-gt99.true, expo-is 0 c.scale-scaled.result c.args.n c.args.precision c.scale-scaled.ensures))

pub write_scaled-requires : goal.write_scaled-requires
write_scaled-requires c =
    sized 0 c.scale-scaled.result c.args.n c.args.precision c.scale-scaled.ensures c.if-scaled-gt99.false

pub returns : goal.returns
returns c =
    exponent-kept c.args.precision c.args.n _ c.args.out.now _ _ (omega (arith, c.if-scaled-gt99.false, expo-is 0 c.scale-scaled.result c.args.n c.args.precision c.scale-scaled.ensures))
    (rw (← text-is (exponent_letter c.args.format) c.scale-scaled.result c.args.n c.args.precision c.scale-scaled.ensures) (settles c.write_scaled.ensures c.settle-2.ensures))
