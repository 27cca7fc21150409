-- What is found of a text of the shape (document 01, the table of refusals): NOT_CANONICAL, RANGE or DONE. A text of another shape has a `Place`.
use Rattle.std.specs.Prelude.{Bool, true, List, ◌≡◌, ℕ, ℤ}
use Rattle.kinds.specs.Kinds as kinds
use Rattle.reading.specs.Form.{Form, Reads}

-- NOT_CANONICAL: shape is right, rules of writing broken.
pub record NotCanonical (F : Form) (t : List ℕ) : Type 0 where
  pub parts : F.shape.Parts
  pub reads : Reads F.shape t parts
  pub broken : F.Canonical parts → ⊥

-- RANGE: the value isn't in the type.
pub record OutOfRange (F : Form) (sgn : Bool) (bits : ℕ) (t : List ℕ) : Type 0 where
  pub parts : F.shape.Parts
  pub reads : Reads F.shape t parts
  pub canonical : F.Canonical parts
  pub outside : (z : ℤ) → kinds.is_in_type sgn bits z ≡ true → F.Stands parts z → ⊥

-- DONE: none of these applies; v is the value, as the pattern of a word.
pub record Accepted (F : Form) (sgn : Bool) (bits word : ℕ) (t : List ℕ) (v : ℕ) : Type 0 where
  pub parts : F.shape.Parts
  pub reads : Reads F.shape t parts
  pub canonical : F.Canonical parts
  pub number : ℤ
  pub inside : kinds.is_in_type sgn bits number ≡ true
  pub stands : F.Stands parts number
  pub pattern : v ≡ kinds.pattern word number
