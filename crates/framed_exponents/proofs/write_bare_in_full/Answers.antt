-- `framed_exponents::write_bare_in_full` meets its contract. What was scaled is the text. Assumes nothing.
use Rattle.std.specs.Prelude.{None}
use native.Mathlib.Omega.{arith}
use Rattle.exponent.proofs.Joined.{expo-is, sized, text-is}
use Rattle.writing.specs.Text.{exponent_letter}
use Rattle.framed_exponents.proofs.write_bare_in_full.Goals as goal

pub write_scaled-requires : goal.write_scaled-requires
write_scaled-requires c =
    sized 0 c.in_full.result c.args.n None c.in_full.ensures (omega (arith, c.in_full.ensures.high))

pub returns : goal.returns
returns c = (
  omega (arith, expo-is 0 c.in_full.result c.args.n None c.in_full.ensures, c.in_full.ensures.high),
  rw (← text-is (exponent_letter c.args.format) c.in_full.result c.args.n None c.in_full.ensures) c.write_scaled.ensures,
)
