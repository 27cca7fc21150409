-- `fields::numbers::unsigned`: the number so far is that of the digits so far.
use Rattle.std.proofs.Common.{◌≡◌, take}
use Rattle.std.specs.Str.Parse.{AllDigits, digits_value}
use Rattle.fields.proofs.numbers.unsigned.Given as goal

abbrev pub invariant-loop-byte : goal.invariant-loop-byte
invariant-loop-byte l = AllDigits 10 (take l.byte-index l.field) × (digits_value 10 (take l.byte-index l.field) ≡ l.n)
