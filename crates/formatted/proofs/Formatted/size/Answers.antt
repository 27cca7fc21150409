-- `formatted::Formatted::size` meets its contract. Assumes nothing.
use native.Mathlib.Omega.{arith}
use Rattle.parts.specs.Parts.{true_length, parts_length}
use Rattle.formatted.proofs.Formatted.size.Goals as goal

pub overflow_add-three : goal.overflow_add-three
unfolding true_length parts_length
overflow_add-three c = omega arith

pub overflow_add-three-2 : goal.overflow_add-three-2
unfolding true_length parts_length
overflow_add-three-2 c = omega arith

pub overflow_add-result : goal.overflow_add-result
unfolding true_length parts_length
overflow_add-result c = omega arith

pub returns : goal.returns
unfolding true_length parts_length
returns c = omega arith
