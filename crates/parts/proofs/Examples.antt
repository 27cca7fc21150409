-- The text on examples, which antt computes.
-- Assumes nothing.
use mathlib.Core.Path.{◌≡◌, refl}
use mathlib.Core.List.{List, [], ◌∷◌}
use Prim.Native.Nat.{ℕ}
use Rattle.digits.specs.Digits.{up_to, bare, digits}
use Rattle.digits.specs.Text.{text}
use Rattle.parts.specs.Parts.{sign_of, sign_text, part_of, part_text, parts_text, text_of, zero_part, num_part, copy_part}
use Rattle.parts.specs.declared.Sign.TheVariants as sign

-- the source `abc`
abc : List ℕ
abc = 97 ∷ 98 ∷ 99 ∷ []

-- `-` 65535 `00` `bc`
text-is : text_of sign.Minus abc (num_part 65535 ∷ zero_part 2 ∷ copy_part 1 2 ∷ []) ≡ 45 ∷ 54 ∷ 53 ∷ 53 ∷ 51 ∷ 53 ∷ 48 ∷ 48 ∷ 98 ∷ 99 ∷ []
unfolding text_of sign_text parts_text part_text text digits bare up_to abc
text-is = refl

-- `+1.50e3` as the exponent form has it: copied digits, a zero, the copied rest
exponent-is : text_of sign.Plus (49 ∷ 46 ∷ 53 ∷ 101 ∷ 51 ∷ []) (copy_part 0 3 ∷ zero_part 1 ∷ copy_part 3 2 ∷ []) ≡ 43 ∷ 49 ∷ 46 ∷ 53 ∷ 48 ∷ 101 ∷ 51 ∷ []
unfolding text_of sign_text parts_text part_text
exponent-is = refl

-- no part at all, and no sign
nothing_is : text_of sign.None abc [] ≡ []
unfolding text_of sign_text parts_text
nothing_is = refl

-- a code above 2 is refused; its text is that of 2: `+` for a sign, and `bc` for a part that came with a run
unknown-sign : sign_text (sign_of 3) ≡ 43 ∷ []
unfolding sign_text
unknown-sign = refl

unknown-part : part_text abc (part_of 3 0 0 1 2) ≡ 98 ∷ 99 ∷ []
unfolding part_text abc
unknown-part = refl
