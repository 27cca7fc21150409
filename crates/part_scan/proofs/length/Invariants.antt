-- `part_scan::length` meets its contract. The invariant: the answer so far is that for the first i parts.
-- Assumes nothing.
use Rattle.std.proofs.Common.{take, ◌≡◌}
use Rattle.part_answers.specs.Answers.{measured}
use Rattle.part_scan.proofs.length.Given as goal

abbrev pub invariant-loop-i : goal.invariant-loop-i
invariant-loop-i l = l.past ≡ measured l.source l.fn.sign (take l.i l.list)
