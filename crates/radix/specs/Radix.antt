-- The text of a pattern in binary, octal, lower and upper hex, by document 01's format codes 1 to 4, and its length ("Lengths"). Over all naturals.
use Rattle.std.specs.Prelude.{cond, List, ℕ, eqb}
use Rattle.digits.specs.Text.{text}
pub use Rattle.bit_table.specs.Bits.{digit_byte, lower, upper, rounded_up}

-- The text by the format code: 1 binary, 2 octal, 3 lower hex, 4 upper hex. Who calls has refused any code beyond.
abbrev pub radix : ℕ → ℕ → List ℕ
radix format n = cond (eqb format 1) (text lower 2 n) (cond (eqb format 2) (text lower 8 n) (cond (eqb format 3) (text lower 16 n) (text upper 16 n)))

-- The bits that one digit stands for, by the same codes.
abbrev pub digit_bits : ℕ → ℕ
digit_bits format = cond (eqb format 1) 1 (cond (eqb format 2) 3 4)
