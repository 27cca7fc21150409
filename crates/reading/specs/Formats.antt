-- The seven formats by their code (document 01, "Inputs", "Reading"), and the plain text of a value in each.
use Rattle.std.specs.Prelude.{None, Bool, true, false, List, ◌++◌, ◌≡◌, ℕ, zero, suc, ℤ, pos, negsuc, nat_abs}
use Rattle.digits.specs.Digits.{value}
use Rattle.digits.specs.Text.{signed}
use Rattle.kinds.specs.Kinds.{pattern, negative}
use Rattle.radix.specs.Radix.{lower, upper, radix}
use Rattle.scientific.specs.Layout.{exp_text}
use Rattle.scientific.specs.Shape.{Parts, Shaped, written, sign, number, Denotes}
use Rattle.scientific.specs.Canonical.{CanonicalParts}
use Rattle.reading.specs.Form.{Shape, Form}
use Rattle.reading.specs.Whole.{Whole, whole_form}

-- The number of a magnitude, behind a minus or none.
abbrev pub whole : Bool → ℕ → ℤ
whole false n = pos n
whole true zero = pos zero
whole true (suc k) = negsuc k

-- Decimal, whose digits need no letters: a minus for signed types only; the digits are the magnitude.
abbrev pub decimal_form : Bool → Form
decimal_form sgn = whole_form sgn lower 10 (λ (x : Whole) (z : ℤ). z ≡ whole x.minus (value 10 x.digits))

-- Binary, octal, hex: the digits are the pattern at the type's bits. A pattern beyond them is no value's.
abbrev pub radix_form : (ℕ → ℕ) → ℕ → ℕ → Form
radix_form α b bits = whole_form false α b (λ (x : Whole) (z : ℤ). value b x.digits ≡ pattern bits z)

-- Exponent form with its letter: what is denoted is a whole number.
abbrev pub exponent_shape : Bool → ℕ → Shape
exponent_shape sgn letter = record { Parts = Parts; Shaped = Shaped sgn; written = written letter }

abbrev pub exponent_form : Bool → ℕ → Form
exponent_form sgn letter = record {
  shape = exponent_shape sgn letter;
  Canonical = CanonicalParts;
  Stands = λ (x : Parts) (z : ℤ). (n : ℕ) × Denotes (number x) n × (z ≡ whole x.minus n);
}

-- What the codes 0 to 6 stand for. Who asks has refused any code beyond.
abbrev pub by_format {ℓ} : {A : Type ℓ} → ℕ → A → A → A → A → A → A → A → A
by_format zero a b c d e f g = a
by_format (suc zero) a b c d e f g = b
by_format (suc (suc zero)) a b c d e f g = c
by_format (suc (suc (suc zero))) a b c d e f g = d
by_format (suc (suc (suc (suc zero)))) a b c d e f g = e
by_format (suc (suc (suc (suc (suc zero))))) a b c d e f g = f
by_format (suc (suc (suc (suc (suc (suc k)))))) a b c d e f g = g

-- 0 decimal, 1 binary, 2 octal, 3 lower hex, 4 upper hex, 5 exponent with `e` (101), 6 exponent with `E` (69).
unfoldable pub form : Bool → ℕ → ℕ → Form
form sgn bits format =
    by_format format (decimal_form sgn) (radix_form lower 2 bits) (radix_form lower 8 bits) (radix_form lower 16 bits) (radix_form upper 16 bits)
    (exponent_form sgn 101) (exponent_form sgn 69)

-- The exponent text of a whole number, without precision.
abbrev pub exponent_text : ℕ → ℤ → List ℕ
exponent_text letter z = sign (negative z) ++ exp_text letter None (nat_abs z)

-- The plain text of a value of a type: no plus, prefix, padding or precision.
unfoldable pub plain : ℕ → ℕ → ℤ → List ℕ
plain bits format z =
    by_format format (signed z) (radix 1 (pattern bits z)) (radix 2 (pattern bits z)) (radix 3 (pattern bits z)) (radix 4 (pattern bits z))
    (exponent_text 101 z) (exponent_text 69 z)
