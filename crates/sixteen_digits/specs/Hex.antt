-- Texts of hex digits, zeros in front or not.
use Rattle.std.specs.Prelude.{List, ◌≡◌, ℕ, ◌^◌, ◌<◌, length}
use Rattle.digits.specs.Text.{last_text}
use Rattle.lanes.specs.Letters.{digit_byte}

-- All bytes of t are digits, with letters from `letter` on, and v is their number.
pub record Digits (letter : ℕ) (t : List ℕ) (v : ℕ) : Type 0 where
  pub text : t ≡ last_text (digit_byte letter) 16 (length t) v
  pub fits : v < 16 ^ length t
