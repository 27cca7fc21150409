-- The codes of the formats (document 01, "Inputs"): 0 decimal, 1 to 4 binary, octal, lower and upper hex, 5 exponent with `e`, 6 with `E`.
use Rattle.std.specs.Prelude.{◌≡◌, ℕ, ◌-◌, ◌<◌, Result, MatchResult}
use Rattle.formats.specs.declared.Case.{Case}
use Rattle.formats.specs.declared.Case.TheVariants.{Lower, Upper}
use Rattle.formats.specs.declared.Numeral.{Numeral}
use Rattle.formats.specs.declared.Numeral.TheVariants.{Decimal, Binary, Octal, Hex}
use Rattle.formats.specs.declared.Format.{Format}
use Rattle.formats.specs.declared.Format.TheVariants as format
use Rattle.formats.specs.declared.UnknownFormat.{UnknownFormat}

abbrev pub numeral_code : Numeral → ℕ
numeral_code Decimal = 0
numeral_code Binary = 1
numeral_code Octal = 2
numeral_code (Hex Lower) = 3
numeral_code (Hex Upper) = 4

abbrev pub exponent_code : Case → ℕ
exponent_code Lower = 5
exponent_code Upper = 6

abbrev pub format_code : Format → ℕ
format_code (format.Numeral numeral) = numeral_code numeral
format_code (format.Exponent case) = exponent_code case

-- The format that has the code, or that none has it.
abbrev pub Decodes : ℕ → Result Format UnknownFormat → Type 0
Decodes code r = MatchResult r (λ form. format_code form ≡ code) (λ e. 6 < code)

-- A small letter's byte, or that of its capital.
abbrev pub letter_from : Case → ℕ → ℕ
letter_from Lower small = small
letter_from Upper small = small - 32
