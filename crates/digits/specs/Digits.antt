-- The digits of a natural in a base, highest first (document 01, "Digits"): all of them, and the last so many. Over all naturals and bases.
use Rattle.std.specs.Prelude.{List, [], ◌∷◌, ◌++◌, ◌≡◌, ℕ, zero, suc, ◌+◌, ◌*◌, ◌/◌, ◌%◌, ◌^◌, ◌<◌, length, get_or}

-- The digits of n with no zero in front, and so none for 0: those of n / b, and behind them n % b.
-- The first argument bounds how many are taken. n itself is bound enough, since n / b is less than n where b is above 1.
unfoldable pub up_to : ℕ → ℕ → ℕ → List ℕ
up_to zero b n = []
up_to (suc f) b zero = []
up_to (suc f) b (suc n) = up_to f b (suc n / b) ++ (suc n % b ∷ [])

unfoldable pub bare : ℕ → ℕ → List ℕ
bare b n = up_to n b n

-- The digits as they are written: 0 has the one digit 0.
unfoldable pub digits : ℕ → ℕ → List ℕ
digits b zero = 0 ∷ []
digits b (suc n) = bare b (suc n)

-- The last k digits of n, with zeros in front where n has fewer: the digit at place k, counted from the right from 0, is n / b ^ k % b.
unfoldable pub last : ℕ → ℕ → ℕ → List ℕ
last b zero n = []
last b (suc k) n = (n / b ^ k % b) ∷ last b k n

-- The number that a list of digits stands for.
unfoldable pub value_from : ℕ → ℕ → List ℕ → ℕ
value_from b acc [] = acc
value_from b acc (d ∷ ds) = value_from b (acc * b + d) ds

unfoldable pub value : ℕ → List ℕ → ℕ
value b ds = value_from b 0 ds

-- Each element is a digit: below b.
unfoldable pub Below : ℕ → List ℕ → Type 0
Below b [] = Unit
Below b (d ∷ ds) = (d < b) × Below b ds

-- What it is to be the digits of n in base b: they stand for n, each is a digit, and a zero leads in `0` alone.
pub record Canonical (b n : ℕ) (ds : List ℕ) : Type 0 where
  pub stands : value b ds ≡ n
  pub each : Below b ds
  pub some : 0 < length ds
  pub lead : 1 < length ds → 0 < get_or ds 0 0
