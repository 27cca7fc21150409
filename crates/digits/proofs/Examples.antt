-- The definitions on examples, which antt computes: document 01's, and the ends of the types.
-- Assumes nothing.
use mathlib.Core.Path.{◌≡◌, refl}
use mathlib.Core.List.{[], ◌∷◌}
use Prim.Native.Nat.{◌-◌, ◌^◌}
use lib.IntN.{negsuc}
use lib.ListN.{length}
use Rattle.digits.specs.Digits.{up_to, bare, digits, last}
use Rattle.digits.specs.Text.{text, decimal, signed}

zero_is : decimal 0 ≡ 48 ∷ []
unfolding text digits bare up_to
zero_is = refl

minus-1972-is : signed (negsuc 1971) ≡ 45 ∷ 49 ∷ 57 ∷ 55 ∷ 50 ∷ []
unfolding signed text digits bare up_to
minus-1972-is = refl

least-i64-is : length (signed (negsuc (2 ^ 63 - 1))) ≡ 20
unfolding signed text digits bare up_to
least-i64-is = refl

-- 128 bits: the greatest has 39 digits in decimal and 43 in octal
greatest-u128-is : length (digits 10 (2 ^ 128 - 1)) ≡ 39
unfolding digits bare up_to
greatest-u128-is = refl

octal-u128-is : length (digits 8 (2 ^ 128 - 1)) ≡ 43
unfolding digits bare up_to
octal-u128-is = refl

-- a fraction keeps the zeros in front of it
last-three-of-12007 : last 10 3 12007 ≡ 0 ∷ 0 ∷ 7 ∷ []
unfolding last
last-three-of-12007 = refl
