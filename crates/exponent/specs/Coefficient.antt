-- What can be written of a coefficient and an exponent, and its text.
use Rattle.std.specs.Prelude.{List, ◌∷◌, ◌++◌, ◌≡◌, ℕ, ◌≤◌, ◌<◌, replicate}
use Rattle.digits.specs.Text.{decimal}
use Rattle.encoding.specs.Coefficient.{coef_text}
use Rattle.scaling.specs.declared.Scaled.{Scaled}
use Rattle.scientific.specs.Sci.{exponent_of}

-- What can be written: as much of `Scales` as is asked for that, and an exponent of one or two digits.
pub record Sized (s : Scaled) : Type 0 where
  pub lead : exponent_of s.coef ≡ s.coef_prec
  pub few : s.coef_prec ≤ 19
  pub zeros : s.more_prec ≤ 65535
  pub high : s.exp < 100

-- The text of what was scaled: the coefficient with its zeros, the letter, the exponent.
unfoldable pub scaled_text : ℕ → Scaled → List ℕ
scaled_text letter s = coef_text s.coef s.coef_prec s.more_prec ++ (replicate s.more_prec 48 ++ (letter ∷ decimal s.exp))
