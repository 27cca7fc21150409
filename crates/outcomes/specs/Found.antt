-- What a text is found to be before its type is asked: a number, or why it is none. The same for texts of digits and exponent texts.
use Rattle.std.specs.Prelude.{Bool, List, Some, None, SomeIff, Result, Ok, Err, ◌≡◌, ℕ, ◌^◌, ◌≤◌, ◌<◌}
use Rattle.kinds.specs.declared.Split.{Split}
use Rattle.reading.specs.Form.{Shape, Reads, Place}
use Rattle.outcomes.specs.declared.WideSplit.{WideSplit}
use Rattle.outcomes.specs.declared.Fault.{Fault}
use Rattle.outcomes.specs.declared.Fault.TheVariants as fault

-- A shape with its rules of writing, and the sign and the magnitude that the parts of a text have.
pub record Numbered : Type 1 where
  pub shape : Shape
  pub Canonical : shape.Parts → Type 0
  pub minus : shape.Parts → Bool
  pub magnitude : shape.Parts → ℕ

-- t is canonical, and n is its number.
pub record IsNumber (F : Numbered) (t : List ℕ) (n : Split) : Type 0 where
  pub parts : F.shape.Parts
  pub reads : Reads F.shape t parts
  pub canonical : F.Canonical parts
  pub sign : F.minus parts ≡ n.negative
  pub held : n.magnitude ≡ F.magnitude parts

-- t is canonical, and its number is over 64 bits.
pub record IsBeyond (F : Numbered) (t : List ℕ) : Type 0 where
  pub parts : F.shape.Parts
  pub reads : Reads F.shape t parts
  pub canonical : F.Canonical parts
  pub beyond : 2 ^ 64 ≤ F.magnitude parts

-- t is canonical, n has its sign, and its magnitude if that has 64 bits.
pub record IsFound (F : Numbered) (t : List ℕ) (n : WideSplit) : Type 0 where
  pub parts : F.shape.Parts
  pub reads : Reads F.shape t parts
  pub canonical : F.Canonical parts
  pub sign : F.minus parts ≡ n.negative
  pub held : SomeIff n.magnitude (F.magnitude parts < 2 ^ 64) (F.magnitude parts)

abbrev pub Found : Numbered → List ℕ → Result WideSplit Fault → Type 0
Found F t (Ok n) = IsFound F t n
Found F t (Err (fault.Shape k)) = Place F.shape t k
Found F t (Err fault.NotCanonical) = (x : F.shape.Parts) × Reads F.shape t x × (F.Canonical x → ⊥)
Found F t (Err fault.Range) = ⊥
Found F t (Err fault.Empty) = ⊥
Found F t (Err fault.Type) = ⊥
Found F t (Err fault.Options) = ⊥

-- The number n, or RANGE if it is over 64 bits.
abbrev pub SplitOf : WideSplit → Result Split Fault → Type 0
SplitOf n (Ok s) = (n.negative ≡ s.negative) × (n.magnitude ≡ Some s.magnitude)
SplitOf n (Err e) = (n.magnitude ≡ None) × (e ≡ fault.Range)
