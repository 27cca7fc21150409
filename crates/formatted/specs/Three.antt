-- Three parts by value are a list of three.
use Rattle.std.specs.Prelude.{List, [], ◌∷◌}
use Rattle.parts.specs.declared.Part.{Part}
use Rattle.formatted.specs.declared.Formatted.{Formatted}

abbrev pub parts_of : Formatted → List Part
parts_of f = f.first ∷ f.second ∷ f.third ∷ []
