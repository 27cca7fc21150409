-- The arithmetic that the code does for the exponent form: how it stands to the definitions of `scientific`.
use Rattle.std.specs.Prelude.{Option, ◌≡◌, ℕ, ◌+◌, ◌*◌, ◌^◌, ◌≤◌}
use Rattle.scientific.specs.Sci.{exponent_of, sci}
use Rattle.scaling.specs.declared.Scaled.{Scaled}

-- The digits of coef and more_prec zeros behind them are the coefficient of n; coef has one digit in front of the point.
pub record Scales (p : Option ℕ) (n : ℕ) (s : Scaled) : Type 0 where
  pub is : sci p n ≡ record { coef = s.coef * 10 ^ s.more_prec; frac = s.coef_prec + s.more_prec; expo = s.exp }
  pub lead : exponent_of s.coef ≡ s.coef_prec
  pub few : s.coef_prec ≤ 19
  pub zeros : s.more_prec ≤ 65535
  pub high : s.exp ≤ 20
