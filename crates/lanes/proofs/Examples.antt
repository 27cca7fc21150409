-- The definitions on examples, which antt computes.
-- Assumes nothing.
use mathlib.Core.Path.{◌≡◌, refl}
use Rattle.digits.specs.Digits.{last}
use Rattle.lanes.specs.Lanes.{word}
use Rattle.lanes.specs.Letters.{digit_byte}

first-is-lowest : word 256 (last 16 4 0x1972) ≡ 0x0207_0901
unfolding word last
first-is-lowest = refl

bits-of-five : word 256 (last 2 8 5) ≡ 0x0100_0100_0000_0000
unfolding word last
bits-of-five = refl

small-ten : digit_byte 97 10 ≡ 97
small-ten = refl

capital-fifteen : digit_byte 65 15 ≡ 70
capital-fifteen = refl
