-- Demand 2: what the text is, by document 01's rules; and that plain texts are read back, and they alone. Over every type, format and value.
use Rattle.std.specs.Prelude.{Ok, Option, None, Some, ◌≡◌, ℕ, suc, ◌+◌, ◌-◌, ◌/◌, ◌^◌, ◌<◌, ◌≤◌, max, Bool, true, false, cond, ◌⊎◌, ◌↔◌, List, [], ◌∷◌, ◌++◌, length, replicate, ℤ, pos, negsuc, ◌==◌, ◌≢◌, unsigned_abs}
use Rattle.std.specs.Int.Count.{count_leading_zeros}
use Rattle.digits.specs.Digits.{Canonical, digits}
use Rattle.digits.specs.Text.{ascii, last_text, decimal}
use Rattle.edge.specs.Edge as edge
use Rattle.kinds.specs.Kinds.{known, is_in_type, pattern, negative, Greatest}
use Rattle.outcomes.specs.Outcomes.{Outcome, number_of, value_of}
use Rattle.padding.specs.Padding.{sign_of, prefix_of}
use Rattle.radix.specs.Radix.{radix, digit_bits, rounded_up}
use Rattle.reader.specs.Answers.{Answers}
use Rattle.reading.specs.Form.{Place}
use Rattle.reading.specs.Formats.{form}
use Rattle.reading.specs.Judged.{NotCanonical, OutOfRange}
use Rattle.scientific.specs.Layout.{point, exp_text}
use Rattle.scientific.specs.Sci.{exponent_of}
use Rattle.writing.specs.Text.{minus, body, unframed, text_of}
use Rattle.writing.specs.Promise.{house, Unframed}
use Rattle.writing.specs.declared.Options.{Options}

-- Digits: they stand for the number, zero is the one digit 0, none leads with a zero else; and nothing else is so.
pub record OfDigits : Type 0 where
  pub are : (b n : ℕ) → 1 < b → Canonical b n (digits b n)
  pub only : (b n : ℕ) (ds : List ℕ) → 1 < b → Canonical b n ds → ds ≡ digits b n

-- The text at the house default, by the format; in exponent form with a precision also.
pub record OfText : Type 0 where
  pub zero : (bits : ℕ) → text_of bits (pos 0) 0 house ≡ 48 ∷ []
  pub decimal-is : (bits n : ℕ) → text_of bits (pos n) 0 house ≡ decimal n
  -- decimal of a negative is `-` and its magnitude
  pub negative-is : (bits k : ℕ) → text_of bits (negsuc k) 0 house ≡ 45 ∷ decimal (suc k)
  -- binary, octal and hex show the two's complement pattern at the type's own bits
  pub radix-is : (bits format : ℕ) (z : ℤ) → 1 ≤ format → format ≤ 4 → text_of bits z format house ≡ radix format (pattern bits z)
  -- exponent form, with precision p or none; a negative is `-` and the text of its magnitude. Demand 3 speaks of `exp_text`
  pub exponent-is : (bits : ℕ) (z : ℤ) (o : Options) (p : Option ℕ) → Unframed o p
      → (text_of bits z 5 o ≡ unframed (negative z) (exp_text 101 p (unsigned_abs z))) × (text_of bits z 6 o ≡ unframed (negative z) (exp_text 69 p (unsigned_abs z)))
  -- if p is at least e, the digits of n and then p - e zeros, exponent e
  pub exponent-long : (letter n p : ℕ) → exponent_of n ≤ p → exp_text letter (Some p) n
      ≡ (ascii (n / 10 ^ exponent_of n) ∷ point p ++ last_text ascii 10 (exponent_of n) n) ++ (replicate (p - exponent_of n) 48 ++ letter ∷ decimal (exponent_of n))
  -- zero has p fraction zeros and exponent 0; without precision it is `0e0`
  pub exponent-zero : (letter p : ℕ) → exp_text letter (Some p) 0 ≡ 48 ∷ point p ++ (replicate p 48 ++ letter ∷ 48 ∷ [])
  pub exponent-none : (letter : ℕ) → exp_text letter None 0 ≡ 48 ∷ letter ∷ 48 ∷ []

-- What s lacks to the width.
abbrev pub lacking : Options → List ℕ → ℕ
lacking o s = o.width - length s

-- t is the text with padding, where front is sign and prefix.
pub record Padded (o : Options) (front digits t : List ℕ) : Type 0 where
  -- only if it is shorter than the width
  pub wide : o.width ≤ length (front ++ digits) → t ≡ front ++ digits
  -- under the zero flag, zeros between sign and prefix in front and the digits behind; fill and alignment are ignored
  pub zeros : o.zero ≡ true → t ≡ front ++ (replicate (lacking o (front ++ digits)) 48 ++ digits)
  -- otherwise fill: left, right, unset meaning right
  pub left : o.zero ≡ false → o.align ≡ 1 → t ≡ (front ++ digits) ++ replicate (lacking o (front ++ digits)) o.fill
  pub right : o.zero ≡ false → o.align ≡ 3 → t ≡ replicate (lacking o (front ++ digits)) o.fill ++ (front ++ digits)
  pub unset : o.zero ≡ false → o.align ≡ 0 → t ≡ replicate (lacking o (front ++ digits)) o.fill ++ (front ++ digits)
  -- centre: half in front, rounded down, and the extra byte behind
  pub centre : o.zero ≡ false → o.align ≡ 2
      → t ≡ replicate (lacking o (front ++ digits) / 2) o.fill ++ ((front ++ digits) ++ replicate (lacking o (front ++ digits) - lacking o (front ++ digits) / 2) o.fill)

abbrev pub with_precision : Options → Option ℕ → Options
with_precision o p = record { plus = o.plus; alternate = o.alternate; zero = o.zero; fill = o.fill; align = o.align; width = o.width; precision = p }

-- The text with options: sign and prefix, the digits, padding.
pub record OfOptions : Type 0 where
  pub padding : (bits : ℕ) (z : ℤ) (format : ℕ) (o : Options)
      → Padded o (sign_of (minus format z) o.plus ++ prefix_of o.alternate format) (body format bits o.precision z) (text_of bits z format o)
  -- `-` for a negative in decimal and exponent forms
  pub minus-sign : (format k : ℕ) (plus : Bool) → (format ≡ 0) ⊎ (4 < format) → sign_of (minus format (negsuc k)) plus ≡ 45 ∷ []
  -- else `+` under the plus flag; binary, octal and hex count as nonnegative
  pub plus-sign : (format n : ℕ) → (sign_of (minus format (pos n)) true ≡ 43 ∷ []) × (sign_of (minus format (pos n)) false ≡ [])
  pub pattern-sign : (format : ℕ) (z : ℤ) → 1 ≤ format → format ≤ 4 → (sign_of (minus format z) true ≡ 43 ∷ []) × (sign_of (minus format z) false ≡ [])
  -- the alternate flag puts `0b`, `0o`, `0x` for codes 1 to 4 and does nothing for others
  pub binary : prefix_of true 1 ≡ 48 ∷ 98 ∷ []
  pub octal : prefix_of true 2 ≡ 48 ∷ 111 ∷ []
  pub hex : (prefix_of true 3 ≡ 48 ∷ 120 ∷ []) × (prefix_of true 4 ≡ 48 ∷ 120 ∷ [])
  pub no-prefix : (alternate : Bool) (format : ℕ) → (alternate ≡ false) ⊎ ((format ≡ 0) ⊎ (4 < format)) → prefix_of alternate format ≡ []
  -- precision is ignored outside the exponent forms
  pub no-precision : (bits : ℕ) (z : ℤ) (format : ℕ) (o : Options) (p : Option ℕ) → format ≤ 4 → text_of bits z format (with_precision o p) ≡ text_of bits z format o

-- Lengths: binary has as many digits as the bits the pattern needs, octal and hex a third and a quarter of them, rounded up.
pub record OfLengths : Type 0 where
  -- the bits it needs: 64, those of the word, less its leading zeros, but 1 for zero
  pub bits : (word n : ℕ) → n < 2 ^ word → length (digits 2 n) ≡ cond (n == 0) 1 (word - count_leading_zeros word n)
  pub lengths : (format n : ℕ) → length (radix format n) ≡ rounded_up (length (digits 2 n)) (digit_bits format)
  -- with options: the width, or what stands there without it if that is longer
  pub padded : (bits : ℕ) (z : ℤ) (format : ℕ) (o : Options)
      → length (text_of bits z format o)
      ≡ max o.width (length (sign_of (minus format z) o.plus) + (length (prefix_of o.alternate format) + length (body format bits o.precision z)))

-- Sizes: the greatest decimal length of each type.
pub record OfSizes : Type 0 where
  pub u8 : Greatest false 8 3
  pub i8 : Greatest true 8 4
  pub u16 : Greatest false 16 5
  pub i16 : Greatest true 16 6
  pub u32 : Greatest false 32 10
  pub i32 : Greatest true 32 11
  pub u64 : Greatest false 64 20
  pub i64 : Greatest true 64 20

-- Of a type and a format: what the short form writes is read back, and what is read was written so.
pub record RoundTrip (sgn : Bool) (bits format : ℕ) : Type 0 where
  -- reading the plain text of a value gives back the value, as a 64-bit pattern, and nothing else
  pub back : (z : ℤ) (r : Outcome) → is_in_type sgn bits z ≡ true → Answers sgn bits format (text_of bits z format house) r → r ≡ Ok (pattern 64 z)
  pub answered : (z : ℤ) → is_in_type sgn bits z ≡ true → Answers sgn bits format (text_of bits z format house) (Ok (pattern 64 z))
  -- the accepted texts are exactly the written plain texts
  pub only : (t : List ℕ) (v : ℕ) → Answers sgn bits format t (Ok v) → (z : ℤ) × (is_in_type sgn bits z ≡ true) × (t ≡ text_of bits z format house) × (v ≡ pattern 64 z)
  -- a text that no value of the type has is refused
  pub refused : (t : List ℕ) (r : Outcome) → ((z : ℤ) → is_in_type sgn bits z ≡ true → t ≢ text_of bits z format house) → Answers sgn bits format t r → number_of r ≢ 0
  -- two values with one text are one
  pub apart : (y z : ℤ) → is_in_type sgn bits y ≡ true → is_in_type sgn bits z ≡ true → text_of bits y format house ≡ text_of bits z format house → y ≡ z

-- The checks before that of the shape pass: the type is known, the format is known, and the text is not empty.
pub record Asked (bits format : ℕ) (t : List ℕ) : Type 0 where
  pub type : known bits ≡ true
  pub code : format ≤ 6
  pub some : 0 < length t

-- n is the number of the answer to reading t, and v what it returns: each refusal exactly when document 01 says, in its order 5, 6, 1, 2, 3, 4.
pub record Refuses (sgn : Bool) (bits format : ℕ) (t : List ℕ) (n v : ℕ) : Type 0 where
  pub type : (n ≡ 5) ↔ (known bits ≡ false)
  pub options : (n ≡ 6) ↔ ((known bits ≡ true) × (6 < format))
  pub empty : (n ≡ 1) ↔ ((known bits ≡ true) × (format ≤ 6) × (t ≡ []))
  -- SHAPE returns the place
  pub shape : (k : ℕ) → ((n ≡ 2) × (v ≡ k)) ↔ (Asked bits format t × Place (form sgn bits format).shape t k)
  pub not-canonical : (n ≡ 3) ↔ (Asked bits format t × NotCanonical (form sgn bits format) t)
  pub range : (n ≡ 4) ↔ (Asked bits format t × OutOfRange (form sgn bits format) sgn bits t)
  -- every other refusal returns 0, and there is none beyond these
  pub nothing : 1 ≤ n → (n ≢ 2) → v ≡ 0
  pub numbers : n ≤ 6

pub record OfReading : Type 0 where
  pub round_trip : (sgn : Bool) (bits format : ℕ) → known bits ≡ true → format ≤ 6 → RoundTrip sgn bits format
  pub refuses : (sgn : Bool) (bits format : ℕ) (t : List ℕ) (r : Outcome) → Answers sgn bits format t r → Refuses sgn bits format t (number_of r) (value_of r)
  -- the same of the C edge, whose answer is the two numbers
  pub edge-back : (sgn : Bool) (bits format : ℕ) → known bits ≡ true → format ≤ 6 → (z : ℤ) (n v : ℕ) → is_in_type sgn bits z ≡ true
      → edge.Reads sgn bits format (text_of bits z format house) n v → (n ≡ 0) × (v ≡ pattern 64 z)
  pub edge-only : (sgn : Bool) (bits format : ℕ) → known bits ≡ true → format ≤ 6 → (t : List ℕ) (v : ℕ)
      → edge.Reads sgn bits format t 0 v → (z : ℤ) × (is_in_type sgn bits z ≡ true) × (t ≡ text_of bits z format house) × (v ≡ pattern 64 z)
  pub edge-refuses : (sgn : Bool) (bits format : ℕ) (t : List ℕ) (n v : ℕ) → edge.Reads sgn bits format t n v → Refuses sgn bits format t n v
