-- Which of twelve parts a count takes.
use Rattle.std.specs.Prelude.{List, ℕ, min, take}
use Rattle.parts.specs.declared.Part.{Part}

-- The first so many, and all of them for any greater count.
abbrev pub first : ℕ → List Part → List Part
first count list = take (min count 12) list
