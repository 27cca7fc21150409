-- The rule of a table, and that of the digit pairs (document 01, "Digits").
use Rattle.std.specs.Prelude.{cond, List, [], ◌∷◌, ℕ, zero, suc, ◌+◌, ◌/◌, ◌%◌, eqb}

-- f at n places from i on.
abbrev pub tabulate : ℕ → (ℕ → ℕ) → ℕ → List ℕ
tabulate zero f i = []
tabulate (suc n) f i = f i ∷ tabulate n f (suc i)

-- For k from 0 to 99, byte 2k is the tens digit of k and byte 2k + 1 the units digit, in ASCII.
abbrev pub pair_byte : ℕ → ℕ
pair_byte i = cond (eqb (i % 2) 0) (48 + i / 2 / 10) (48 + i / 2 % 10)

unfoldable pub pair_table : List ℕ
pair_table = tabulate 200 pair_byte 0
