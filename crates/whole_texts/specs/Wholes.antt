-- Texts of digits behind a minus or none, by their sign and the number of the digits.
use Rattle.std.specs.Prelude.{Bool, ℕ}
use Rattle.digits.specs.Digits.{value}
use Rattle.reading.specs.Whole.{Whole, whole_shape, CanonicalWhole}
use Rattle.outcomes.specs.Found.{Numbered}

abbrev pub wholes : Bool → (ℕ → ℕ) → ℕ → Numbered
wholes may α b = record { shape = whole_shape may α b; Canonical = CanonicalWhole b; minus = λ (x : Whole). x.minus; magnitude = λ (x : Whole). value b x.digits }
