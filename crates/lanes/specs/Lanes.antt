-- Numbers side by side in a word. Over all naturals.
use Rattle.std.specs.Prelude.{List, [], ◌∷◌, ℕ, ◌+◌, ◌*◌}

-- The word whose lanes hold the numbers of a list, the first in the lowest lane. A lane holds what is below b.
unfoldable pub word : ℕ → List ℕ → ℕ
word b [] = 0
word b (d ∷ ds) = word b ds * b + d
