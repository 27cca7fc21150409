-- A word as the bytes it is stored as, the lowest first.
use Rattle.std.specs.Prelude.{List, [], ◌∷◌, ℕ, zero, suc, ◌/◌, ◌%◌}

-- The k low bytes of x.
unfoldable pub bytes_of : ℕ → ℕ → List ℕ
bytes_of zero x = []
bytes_of (suc k) x = x % 256 ∷ bytes_of k (x / 256)

-- How many zeros stand in front.
unfoldable pub zeros_front : List ℕ → ℕ
zeros_front [] = 0
zeros_front (zero ∷ l) = suc (zeros_front l)
zeros_front (suc d ∷ l) = 0
