-- Document 01's number of each answer to reading and what it returns, and the answer for a value and for a pattern.
use Rattle.std.specs.Prelude.{Bool, cond, ℕ, ◌^◌, ltb, ℤ, Result, Ok, Err}
use Rattle.kinds.specs.Kinds.{is_in_type, pattern, meaning}
use Rattle.outcomes.specs.declared.Fault.{Fault}
use Rattle.outcomes.specs.declared.Fault.TheVariants as fault

-- What became of reading: the value, or why there is none.
abbrev pub Outcome : Type 0
Outcome = Result ℕ Fault

-- Document 01's number of each refusal, and what it returns.
abbrev pub fault_number : Fault → ℕ
fault_number fault.Empty = 1
fault_number (fault.Shape k) = 2
fault_number fault.NotCanonical = 3
fault_number fault.Range = 4
fault_number fault.Type = 5
fault_number fault.Options = 6

abbrev pub fault_value : Fault → ℕ
fault_value fault.Empty = 0
fault_value (fault.Shape k) = k
fault_value fault.NotCanonical = 0
fault_value fault.Range = 0
fault_value fault.Type = 0
fault_value fault.Options = 0

-- And of each answer.
abbrev pub number_of : Outcome → ℕ
number_of (Ok v) = 0
number_of (Err e) = fault_number e

abbrev pub value_of : Outcome → ℕ
value_of (Ok v) = v
value_of (Err e) = fault_value e

-- The answer for the number z that a canonical text stands for.
abbrev pub value_outcome : Bool → ℕ → ℤ → Outcome
value_outcome sgn bits z = cond (is_in_type sgn bits z) (Ok (pattern 64 z)) (Err fault.Range)

-- The answer for a pattern of the type's bits; one beyond them is RANGE.
abbrev pub pattern_outcome : Bool → ℕ → ℕ → Outcome
pattern_outcome sgn bits p = cond (ltb p (2 ^ bits)) (Ok (pattern 64 (meaning bits sgn p))) (Err fault.Range)
