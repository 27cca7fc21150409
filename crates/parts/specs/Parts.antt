-- Parts (document 01, "Parts"): a sign, then parts over one lent source. Their text and its length, over a list of any length.
use Rattle.std.specs.Prelude.{◌≡◌, Bool, true, false, ◌&&◌, List, [], ◌∷◌, ◌++◌, ℕ, zero, suc, ◌+◌, ◌-◌, ◌^◌, min, ltb, length, take, drop, replicate}
use Rattle.digits.specs.Text.{decimal}
use Rattle.parts.specs.declared.Part.{Part}
use Rattle.parts.specs.declared.Part.TheVariants.{Zero, Num, Copy}
use Rattle.parts.specs.declared.Part.TheVariants as part
use Rattle.parts.specs.declared.Sign.{Sign}
use Rattle.parts.specs.declared.Sign.TheVariants as sign

-- A sign code: 0 none, 1 minus, 2 plus. A code above 2 is unknown: it is refused, and has the text of a plus.
abbrev pub sign_of : ℕ → Sign
sign_of zero = sign.None
sign_of (suc zero) = sign.Minus
sign_of (suc (suc zero)) = sign.Plus
sign_of (suc (suc (suc code))) = sign.Unknown

-- A part by the code of its kind: 0, n zeros; 1, a number; 2, the run of len bytes of the source from start on. A code above 2 is as unknown, and has the text of that run.
abbrev pub part_of : (kind number zeros start len : ℕ) → Part
part_of zero number n start len = Zero n
part_of (suc zero) number n start len = Num number
part_of (suc (suc zero)) number n start len = Copy start len
part_of (suc (suc (suc kind))) number n start len = part.Unknown start len

abbrev pub known : Sign → Bool
known sign.Unknown = false
known _ = true

abbrev pub known_part : Part → Bool
known_part (part.Unknown start len) = false
known_part _ = true

unfoldable pub all_known : List Part → Bool
all_known [] = true
all_known (p ∷ ps) = known_part p && all_known ps

unfoldable pub sign_text : Sign → List ℕ
sign_text sign.None = []
sign_text sign.Minus = 45 ∷ []
sign_text sign.Plus = 43 ∷ []
sign_text sign.Unknown = 43 ∷ []

-- Zeros, a number in decimal, a copied run of the source.
unfoldable pub part_text : List ℕ → Part → List ℕ
part_text src (Zero n) = replicate n 48
part_text src (Num v) = decimal v
part_text src (Copy start len) = take len (drop start src)
part_text src (part.Unknown start len) = take len (drop start src)

unfoldable pub parts_text : List ℕ → List Part → List ℕ
parts_text src [] = []
parts_text src (p ∷ ps) = part_text src p ++ parts_text src ps

-- The text: the sign, then each part.
unfoldable pub text_of : Sign → List ℕ → List Part → List ℕ
text_of sign src ps = sign_text sign ++ parts_text src ps

-- A copied run leaves a source of n bytes exactly when the true sum of start and length exceeds n.
unfoldable pub leaves_source : ℕ → Part → Bool
leaves_source n (Copy start len) = ltb n (start + len)
leaves_source n (part.Unknown start len) = ltb n (start + len)
leaves_source n _ = false

-- No part leaves its source.
unfoldable pub Inside : ℕ → List Part → Type 0
Inside n [] = Unit
Inside n (p ∷ ps) = (leaves_source n p ≡ false) × Inside n ps

-- The length is the sum, sign included: the true one, and held at 2^64 - 1.
unfoldable pub part_length : Part → ℕ
part_length (Zero n) = n
part_length (Num v) = length (decimal v)
part_length (Copy start len) = len
part_length (part.Unknown start len) = len

unfoldable pub parts_length : List Part → ℕ
parts_length [] = 0
parts_length (p ∷ ps) = part_length p + parts_length ps

unfoldable pub true_length : Sign → List Part → ℕ
true_length sign ps = length (sign_text sign) + parts_length ps

abbrev pub held : ℕ → ℕ
held n = min n (2 ^ 64 - 1)

-- The parts that the Rust names Zero, Num and Copy.
abbrev pub zero_part : ℕ → Part
zero_part n = Zero n

abbrev pub num_part : ℕ → Part
num_part v = Num v

abbrev pub copy_part : ℕ → ℕ → Part
copy_part start len = Copy start len
