-- The definition on document 01's trials of the exponent form that are not starred, which antt computes; the starred ones stand in claims.
-- Assumes nothing.
use mathlib.Core.List.{[], ◌∷◌}
use Rattle.std.specs.Prelude.{None, Some}
use mathlib.Core.Path.{◌≡◌, refl}
use Prim.Native.Nat.{◌-◌, ◌^◌}
use Rattle.digits.specs.Digits.{up_to, bare, digits, last}
use Rattle.digits.specs.Text.{text, last_text}
use Rattle.scientific.specs.Sci.{exponent_of, trimmed, short, up, rounded, carried, fixed_at, fixed, sci}
use Rattle.scientific.specs.Layout.{point, layout, exp_text}

pub record Trials : Type 0 where
  -- `1.23e4`, `1.24e4`
  pub below-tie : exp_text 101 (Some 2) 12345 ≡ 49 ∷ 46 ∷ 50 ∷ 51 ∷ 101 ∷ 52 ∷ []
  pub at-tie : exp_text 101 (Some 2) 12350 ≡ 49 ∷ 46 ∷ 50 ∷ 52 ∷ 101 ∷ 52 ∷ []
  -- `1e3`: rounded once, not once for each dropped digit
  pub once : exp_text 101 (Some 0) 1459 ≡ 49 ∷ 101 ∷ 51 ∷ []
  -- `1.2e3`, `0e0`, `0E0`: without precision
  pub short-1200 : exp_text 101 None 1200 ≡ 49 ∷ 46 ∷ 50 ∷ 101 ∷ 51 ∷ []
  pub short-zero : exp_text 101 None 0 ≡ 48 ∷ 101 ∷ 48 ∷ []
  pub short-upper : exp_text 69 None 0 ≡ 48 ∷ 69 ∷ 48 ∷ []
  -- `3.403e38`: the largest of 128 bits
  pub largest-128 : exp_text 101 (Some 3) (2 ^ 128 - 1) ≡ 51 ∷ 46 ∷ 52 ∷ 48 ∷ 51 ∷ 101 ∷ 51 ∷ 56 ∷ []

pub trials : Trials
unfolding exp_text layout point sci short trimmed fixed fixed_at carried rounded up exponent_of text last_text last digits bare up_to
trials = record {
  below-tie = refl;
  at-tie = refl;
  once = refl;
  short-1200 = refl;
  short-zero = refl;
  short-upper = refl;
  largest-128 = refl;
}
