-- What the reader's code finds at the front of an exponent text: its lead digit, its fraction and its letter.
use Rattle.std.specs.Prelude.{Bool, true, Some, Result, Ok, Err, List, ◌∷◌, ◌++◌, ◌⊎◌, ◌≡◌, ℕ, ◌+◌, ◌<◌, length, get_or, drop}
use Rattle.digits.specs.Digits.{value, Below}
use Rattle.digits.specs.Text.{ascii}
use Rattle.radix.specs.Radix.{lower}
use Rattle.scientific.specs.Shape as shape
use Rattle.reading.specs.Form.{Place}
use Rattle.reading.specs.Formats.{exponent_shape}
use Rattle.digit_runs.specs.Runs.{Scanned, Held}
use Rattle.digit_runs.specs.declared.Run.{Run}
use Rattle.coefficients.specs.declared.Coefficient.{Coefficient}
use Rattle.outcomes.specs.declared.Fault.{Fault}
use Rattle.outcomes.specs.declared.Fault.TheVariants as fault

-- No point stands at `at`: nothing is read.
pub record NoPoint (t : List ℕ) (at lead : ℕ) (r : Run) : Type 0 where
  pub is : r ≡ record { end = at; value = Some lead }
  pub next : at < length t → get_or t at 0 ≡ 46 → ⊥

-- A point stands at `at`: the digits behind it are read.
pub record Point (t : List ℕ) (at lead : ℕ) (r : Run) : Type 0 where
  pub here : at < length t
  pub point : get_or t at 0 ≡ 46
  pub scanned : Scanned lower 10 lead t (at + 1) r

abbrev pub FractionOf : List ℕ → ℕ → ℕ → Run → Type 0
FractionOf t at lead r = NoPoint t at lead r ⊎ Point t at lead r

-- t begins with a minus or none, the lead digit, the fraction, and the letter at `end`.
pub record IsCoefficient (sgn : Bool) (letter : ℕ) (t : List ℕ) (c : Coefficient) : Type 0 where
  pub allowed : c.minus ≡ true → sgn ≡ true
  pub digit : c.lead < 10
  pub frac : List ℕ
  pub each : Below 10 frac
  pub fits : c.size ≡ length (shape.fraction frac)
  pub inside : c.end < length t
  pub front : c.end ≡ length (shape.sign c.minus ++ (ascii c.lead ∷ shape.fraction frac))
  pub text : t ≡ shape.sign c.minus ++ (ascii c.lead ∷ shape.fraction frac ++ letter ∷ drop (c.end + 1) t)
  pub number : Held c.value (value 10 (c.lead ∷ frac))

abbrev pub CoefficientOf : Bool → ℕ → List ℕ → Result Coefficient Fault → Type 0
CoefficientOf sgn letter t (Ok c) = IsCoefficient sgn letter t c
CoefficientOf sgn letter t (Err (fault.Shape k)) = Place (exponent_shape sgn letter) t k
CoefficientOf sgn letter t (Err fault.Empty) = ⊥
CoefficientOf sgn letter t (Err fault.NotCanonical) = ⊥
CoefficientOf sgn letter t (Err fault.Range) = ⊥
CoefficientOf sgn letter t (Err fault.Type) = ⊥
CoefficientOf sgn letter t (Err fault.Options) = ⊥
