-- The steps from a number to its digits in a word, one a byte, the first in the lowest: pairs of digits, and the digits of each pair.
use Rattle.std.specs.Prelude.{ℕ, ◌+◌, ◌*◌, ◌/◌, ◌%◌}

-- The two pairs of a number of four digits, in halves of 16 bits, the first in the lower.
unfoldable pub pairs_of : ℕ → ℕ
pairs_of n = n % 100 * 65536 + n / 100

-- The digits of two numbers of two digits, which stand in halves of 16 bits.
unfoldable pub tens_of : ℕ → ℕ
tens_of y = y % 65536 / 10 + y % 65536 % 10 * 256 + y / 65536 / 10 * 65536 + y / 65536 % 10 * 16777216
