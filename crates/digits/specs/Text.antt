-- Digits as bytes: the text of a natural in a base by an alphabet, the decimal text of a natural and of a whole number.
use Rattle.std.specs.Prelude.{List, ◌∷◌, map, ℕ, suc, ◌+◌, ℤ, pos, negsuc}
use Rattle.digits.specs.Digits.{digits, last}

-- The byte of a decimal digit: `0` is 48.
abbrev pub ascii : ℕ → ℕ
ascii d = 48 + d

-- The text of n in base b, where the alphabet α gives the byte of each digit.
unfoldable pub text : (ℕ → ℕ) → ℕ → ℕ → List ℕ
text α b n = map α (digits b n)

-- The text of the last k digits.
unfoldable pub last_text : (ℕ → ℕ) → ℕ → ℕ → ℕ → List ℕ
last_text α b k n = map α (last b k n)

abbrev pub decimal : ℕ → List ℕ
decimal n = text ascii 10 n

-- A negative is `-` (45) and its magnitude.
unfoldable pub signed : ℤ → List ℕ
signed (pos n) = decimal n
signed (negsuc n) = 45 ∷ decimal (suc n)
