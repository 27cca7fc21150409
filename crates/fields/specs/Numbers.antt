-- What a field of a row says: the number that its decimal digits write, or, behind a minus, the 64-bit pattern of its negative.
use Rattle.std.specs.Prelude.{◌≡◌, ℕ, ◌+◌, ◌%◌, ◌^◌, ◌∷◌, List, ◌⊎◌}
use Rattle.std.specs.Str.Parse.{IsNumeral, digits_value}

-- digits alone, which write n
abbrev pub Writes : List ℕ → ℕ → Type 0
Writes field n = IsNumeral 10 field × (digits_value 10 field ≡ n)

-- n and the number behind the minus sum up to nothing in 64 bits
abbrev pub WritesNegative : List ℕ → ℕ → Type 0
WritesNegative field n = (digits : List ℕ) × (m : ℕ) × (field ≡ 45 ∷ digits) × Writes digits m × ((n + m) % 2 ^ 64 ≡ 0)

abbrev pub Says : List ℕ → ℕ → Type 0
Says field n = Writes field n ⊎ WritesNegative field n
