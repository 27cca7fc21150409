-- `part_walk::write_before` meets its contract. The invariant: the text of the parts that are left, behind the sign, completes the buffer.
-- Assumes nothing.
use Rattle.std.specs.Iterator.Adapters.{rev_source}
use Rattle.std.specs.Slice.Iter.{iter_rest}
use Rattle.part_walk.proofs.Back.{Turn}
use Rattle.part_walk.proofs.write_before.Given as goal

abbrev pub invariant-loop-part : goal.invariant-loop-part
invariant-loop-part l = Turn l.sign l.src l.initial.out l.end l.list (iter_rest (rev_source l.part-iterator)) l.at l.out
