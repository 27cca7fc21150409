-- The bytes of digits of which ten and more are letters (document 01, "Digits").
use Rattle.std.specs.Prelude.{cond, ℕ, ◌+◌, ◌-◌, ltb}

-- The byte of a digit: from `0` (48) on, and for 10 and more from the letter on.
abbrev pub digit_byte : ℕ → ℕ → ℕ
digit_byte letter d = cond (ltb d 10) (48 + d) (letter + (d - 10))
