-- What the reader's code finds in an exponent text behind its coefficient: its exponent, whether the rules of writing hold; and the whole text by sign and magnitude.
use Rattle.std.specs.Prelude.{Bool, true, false, Option, Some, None, List, ◌≡◌, ℕ, ◌+◌, ◌-◌, ◌≤◌, ◌<◌, length, get_or}
use Rattle.digits.specs.Digits.{value}
use Rattle.radix.specs.Radix.{lower}
use Rattle.scientific.specs.Shape as shape
use Rattle.scientific.specs.Canonical.{CanonicalParts, magnitude}
use Rattle.reading.specs.Formats.{exponent_shape}
use Rattle.outcomes.specs.Found.{Numbered}
use Rattle.digit_runs.specs.Runs.{Digits, IsDigit}
use Rattle.exponent_texts.specs.declared.Short.{Short}

-- r is the digit that stands at a place of t, if one does.
abbrev pub DigitAt : List ℕ → ℕ → Option ℕ → Type 0
DigitAt t i (Some d) = (i < length t) × IsDigit lower 10 (get_or t i 0) (Some d)
DigitAt t i None = i < length t → IsDigit lower 10 (get_or t i 0) None

-- From a place on t has two digits, or fewer and then no further one.
pub record AtMostTwo (t : List ℕ) (from : ℕ) (r : Short) : Type 0 where
  pub run : Digits lower 10 t from r.end
  pub few : length run.digits ≤ 2
  pub stop : length run.digits < 2 → DigitAt t r.end None
  pub is : r.value ≡ value 10 run.digits

-- The rules of writing, of a text of the shape whose letter stands at `end`, behind `size` bytes of point and fraction, and whose exponent is k.
pub record Rules (t : List ℕ) (lead size end k : ℕ) : Type 0 where
  pub zero : lead ≡ 0 → (length t ≡ 3) × (k ≡ 0)
  pub spare : 0 < size → get_or t (end - 1) 0 ≡ 48 → ⊥
  pub two : end + 2 < length t → get_or t (end + 1) 0 ≡ 48 → ⊥
  pub enough : size ≤ k + 1

-- r tells whether P holds.
pub record Tells (P : Type 0) (r : Bool) : Type 0 where
  pub yes : r ≡ true → P
  pub no : r ≡ false → P → ⊥

-- Exponent texts, by their sign and magnitude.
abbrev pub exponents : Bool → ℕ → Numbered
exponents sgn letter = record { shape = exponent_shape sgn letter; Canonical = CanonicalParts; minus = λ (x : shape.Parts). x.minus; magnitude = magnitude }
