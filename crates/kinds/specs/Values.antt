-- The number that a value of a type is.
use Rattle.std.specs.Prelude.{ℤ}
use Rattle.kinds.specs.Kinds.{meaning}
use Rattle.kinds.specs.declared.Value.{Value}

abbrev pub stands_for : Value → ℤ
stands_for v = meaning 64 v.kind.signed v.pattern
