-- The definition on an example, which antt computes: 128 bits in octal.
-- Assumes nothing.
use mathlib.Core.Path.{◌≡◌, refl}
use Rattle.bit_table.specs.Bits.{rounded_up}

rounded-128-over-3 : rounded_up 128 3 ≡ 43
unfolding rounded_up
rounded-128-over-3 = refl
