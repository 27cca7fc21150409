-- The text of a value by format and options (document 01, "Digits", "Exponent", "Sign and prefix", "Padding"): one definition, over the bits and all whole numbers.
use Rattle.std.specs.Prelude.{Option, Bool, false, cond, List, ◌++◌, ℕ, eqb, leb, ℤ, nat_abs}
use Rattle.digits.specs.Text.{decimal}
use Rattle.kinds.specs.Kinds.{negative, pattern}
use Rattle.padding.specs.Padding.{sign_of, prefix_of, padded}
use Rattle.radix.specs.Radix.{radix}
use Rattle.scientific.specs.Layout.{exp_text}
use Rattle.writing.specs.declared.Options.{Options}

-- Format codes: 0 decimal, 1 to 4 binary, octal, lower and upper hex, 5 exponent with `e` (101), 6 with `E` (69).
abbrev pub exponent_letter : ℕ → ℕ
exponent_letter format = cond (eqb format 5) 101 69

-- The digits: of the magnitude in decimal and exponent forms, of the pattern at the type's own bits in binary, octal and hex.
abbrev pub body : ℕ → ℕ → Option ℕ → ℤ → List ℕ
body format bits p z =
    cond (eqb format 0) (decimal (nat_abs z))
    (cond (leb format 4) (radix format (pattern bits z))
    (exp_text (exponent_letter format) p (nat_abs z)))

-- Whether a minus is shown: a pattern counts as nonnegative.
abbrev pub minus : ℕ → ℤ → Bool
minus format z = cond (eqb format 0) (negative z) (cond (leb format 4) false (negative z))

-- Digits with what the options put around them.
abbrev pub framed : Options → Bool → ℕ → List ℕ → List ℕ
framed o negative format digits = padded o.zero o.fill o.align o.width (sign_of negative o.plus) (prefix_of o.alternate format) digits

-- The text.
unfoldable pub text_of : ℕ → ℤ → ℕ → Options → List ℕ
text_of bits z format o = framed o (minus format z) format (body format bits o.precision z)

-- The digits of the forms that need no more than a number, decimal and radix: what the layers below count and write.
abbrev pub numeral : ℕ → ℕ → List ℕ
numeral format n = cond (eqb format 0) (decimal n) (radix format n)

-- Digits with nothing around them but a minus.
abbrev pub unframed : Bool → List ℕ → List ℕ
unframed negative digits = sign_of negative false ++ digits
