-- The text of a coefficient.
use Rattle.std.specs.Prelude.{List, ◌∷◌, ◌++◌, ℕ, ◌+◌, ◌/◌, ◌^◌}
use Rattle.digits.specs.Text.{ascii, last_text}
use Rattle.scientific.specs.Layout.{point}

-- The first digit of m leads; a point, where there are fraction digits; the f others. z zeros are to follow.
unfoldable pub coef_text : ℕ → ℕ → ℕ → List ℕ
coef_text m f z = ascii (m / 10 ^ f) ∷ point (f + z) ++ last_text ascii 10 f m
