-- Texts of digits, behind a minus or none (document 01, "Reading", codes 0 to 4): shape, canonical. Over the alphabet and the base.
use Rattle.std.specs.Prelude.{Bool, true, List, ◌∷◌, ◌++◌, map, ◌≡◌, ℕ, ◌<◌, ℤ, length}
use Rattle.digits.specs.Digits.{value, Below}
use Rattle.scientific.specs.Shape.{sign}
use Rattle.reading.specs.Form.{Shape, Form}

-- What stands in such a text. A digit is its number.
pub record Whole : Type 0 where
  pub minus : Bool
  pub digits : List ℕ

-- One or more digits of the base, in front a minus only where one may stand.
pub record ShapedWhole (may : Bool) (b : ℕ) (x : Whole) : Type 0 where
  pub minus : x.minus ≡ true → may ≡ true
  pub each : Below b x.digits
  pub some : 0 < length x.digits

-- What is written of them, where the alphabet α gives the byte of each digit.
abbrev pub written_whole : (ℕ → ℕ) → Whole → List ℕ
written_whole α x = sign x.minus ++ map α x.digits

pub record CanonicalWhole (b : ℕ) (x : Whole) : Type 0 where
  -- no leading zero before further digits
  pub lead : (d : ℕ) (ds : List ℕ) → x.digits ≡ 0 ∷ d ∷ ds → ⊥
  -- no minus before a value of zero
  pub minus : x.minus ≡ true → value b x.digits ≡ 0 → ⊥

abbrev pub whole_shape : Bool → (ℕ → ℕ) → ℕ → Shape
whole_shape may α b = record { Parts = Whole; Shaped = ShapedWhole may b; written = written_whole α }

-- The format, by what its texts stand for.
abbrev pub whole_form : Bool → (ℕ → ℕ) → ℕ → (Whole → ℤ → Type 0) → Form
whole_form may α b stands = record { shape = whole_shape may α b; Canonical = CanonicalWhole b; Stands = stands }
