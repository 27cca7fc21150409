-- The text of the exponent form (document 01, "Exponent"): lead digit, point, fraction, letter, exponent.
use Rattle.std.specs.Prelude.{Option, List, [], ◌∷◌, ◌++◌, ℕ, zero, suc, ◌/◌, ◌^◌}
use Rattle.digits.specs.Text.{ascii, last_text, decimal}
use Rattle.scientific.specs.Sci.{Sci, sci}

-- A point (46) exactly when there are fraction digits.
unfoldable pub point : ℕ → List ℕ
point zero = []
point (suc f) = 46 ∷ []

-- The first digit leads, the others are the fraction; behind them the letter, `e` (101) or `E` (69), and the exponent without leading zeros.
unfoldable pub layout : ℕ → Sci → List ℕ
layout letter s = ascii (s.coef / 10 ^ s.frac) ∷ point s.frac ++ (last_text ascii 10 s.frac s.coef ++ letter ∷ decimal s.expo)

-- The text of the magnitude n.
unfoldable pub exp_text : ℕ → Option ℕ → ℕ → List ℕ
exp_text letter p n = layout letter (sci p n)
