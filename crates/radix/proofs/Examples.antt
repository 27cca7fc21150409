-- The definitions on examples, which antt computes: document 01's, and the ends of 64 and 128 bits.
-- Assumes nothing.
use mathlib.Core.Path.{◌≡◌, refl}
use mathlib.Core.List.{[], ◌∷◌}
use Prim.Native.Nat.{◌-◌, ◌^◌}
use lib.ListN.{length, replicate}
use Rattle.digits.specs.Digits.{up_to, bare, digits}
use Rattle.digits.specs.Text.{text}
use Rattle.radix.specs.Radix.{radix}

-- `0`
zero_is : radix 1 0 ≡ 48 ∷ []
unfolding text digits bare up_to
zero_is = refl

-- i8 -1 is the pattern 255: `ff`
lower-255-is : radix 3 255 ≡ 102 ∷ 102 ∷ []
unfolding text digits bare up_to
lower-255-is = refl

-- `2AF9`
upper-11001-is : radix 4 11001 ≡ 50 ∷ 65 ∷ 70 ∷ 57 ∷ []
unfolding text digits bare up_to
upper-11001-is = refl

-- `101`
binary-5-is : radix 1 5 ≡ 49 ∷ 48 ∷ 49 ∷ []
unfolding text digits bare up_to
binary-5-is = refl

-- 64 times `1`
binary-greatest-u64-is : radix 1 (2 ^ 64 - 1) ≡ replicate 64 49
unfolding text digits bare up_to
binary-greatest-u64-is = refl

-- 43 octal digits: 128 bits over 3, rounded up
octal-greatest-u128-is : length (radix 2 (2 ^ 128 - 1)) ≡ 43
unfolding text digits bare up_to
octal-greatest-u128-is = refl
