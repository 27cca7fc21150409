-- `digit_runs::scan` meets its contract. The invariant: up to i there are digits, and the value is what they stand for. Assumes nothing.
use Rattle.radix.specs.Radix.{digit_byte}
use Rattle.digit_runs.proofs.Runs.{Sofar}
use Rattle.digit_runs.proofs.scan.Given as goal

abbrev pub invariant-loop-i : goal.invariant-loop-i
invariant-loop-i l = Sofar (digit_byte l.numerals.letter) l.numerals.base l.before l.text l.from l.i l.value
