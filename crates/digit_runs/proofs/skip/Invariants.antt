-- `digit_runs::skip` meets its contract. The invariant: up to i there are digits. Assumes nothing.
use Rattle.radix.specs.Radix.{digit_byte}
use Rattle.digit_runs.specs.Runs.{Digits}
use Rattle.digit_runs.proofs.skip.Given as goal

abbrev pub invariant-loop-i : goal.invariant-loop-i
invariant-loop-i l = Digits (digit_byte l.numerals.letter) l.numerals.base l.text l.from l.i
