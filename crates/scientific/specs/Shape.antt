-- What an exponent text is (document 01, "Reading", the shape for 5 and 6), its parts, and the number that it denotes (document 01, "Exponent").
use Rattle.std.specs.Prelude.{Bool, true, false, List, [], ◌∷◌, ◌++◌, map, ◌≡◌, ℕ, ◌+◌, ◌-◌, ◌*◌, ◌^◌, ◌≤◌, ◌<◌, length}
use Rattle.digits.specs.Digits.{value, Below}
use Rattle.digits.specs.Text.{ascii}
use Rattle.scientific.specs.Sci.{Sci}

-- What stands in an exponent text: a minus or none, the lead digit, the digits behind the point (none: no point), the exponent's digits.
-- A digit is its number, 0 to 9.
pub record Parts : Type 0 where
  pub minus : Bool
  pub lead : ℕ
  pub frac : List ℕ
  pub expo : List ℕ

abbrev pub sign : Bool → List ℕ
sign true = 45 ∷ []
sign false = []

-- Optionally a point and one or more digits.
unfoldable pub fraction : List ℕ → List ℕ
fraction [] = []
fraction (d ∷ ds) = 46 ∷ map ascii (d ∷ ds)

-- The text of these parts.
unfoldable pub written : ℕ → Parts → List ℕ
written letter x = sign x.minus ++ (ascii x.lead ∷ fraction x.frac ++ letter ∷ map ascii x.expo)

-- A minus only if signed; the digits are digits; the exponent has one or two.
pub record Shaped (signed : Bool) (x : Parts) : Type 0 where
  pub minus : x.minus ≡ true → signed ≡ true
  pub lead : x.lead < 10
  pub frac : Below 10 x.frac
  pub expo : Below 10 x.expo
  pub one : 1 ≤ length x.expo
  pub two : length x.expo ≤ 2

-- t is an exponent text, and these are its parts.
pub record Reads (signed : Bool) (letter : ℕ) (t : List ℕ) (x : Parts) : Type 0 where
  pub shaped : Shaped signed x
  pub text : t ≡ written letter x

-- The digits, the point left out, read as one number M; f fraction digits; exponent k.
abbrev pub number : Parts → Sci
number x = record { coef = value 10 (x.lead ∷ x.frac); frac = length x.frac; expo = value 10 x.expo }

-- M times 10^k.
abbrev pub scaled : Sci → ℕ
scaled s = s.coef * 10 ^ s.expo

-- What is denoted, M times 10^k over 10^f, is the whole number d (behind a minus: -d).
abbrev pub Denotes : Sci → ℕ → Type 0
Denotes s d = scaled s ≡ d * 10 ^ s.frac

-- How far a (behind a minus: -a) is from b.
abbrev pub apart : Bool → ℕ → ℕ → ℕ
apart false a b = (a - b) + (b - a)
apart true a b = a + b
