-- Digits that stand for so many bits each: their bytes, of figures and then letters or by a table, and how many there are. Over all naturals.
use Rattle.std.specs.Prelude.{cond, List, ℕ, ◌+◌, ◌/◌, ◌%◌, eqb, get_or}
pub use Rattle.lanes.specs.Letters.{digit_byte}

-- Small letters, from `a` on, and capital ones, from `A` on.
abbrev pub lower : ℕ → ℕ
lower d = digit_byte 97 d

abbrev pub upper : ℕ → ℕ
upper d = digit_byte 65 d

-- The alphabet that a table of the digits in order gives.
abbrev pub table_byte : List ℕ → ℕ → ℕ
table_byte t d = get_or t d 0

-- b over s, rounded up.
unfoldable pub rounded_up : ℕ → ℕ → ℕ
rounded_up b s = b / s + cond (eqb (b % s) 0) 0 1
