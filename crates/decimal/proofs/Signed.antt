-- The text of a whole number by its sign and magnitude.
-- Assumes nothing.
use mathlib.Core.Bool.{true, false}
use mathlib.Core.List.{◌∷◌}
use mathlib.Core.Path.{◌≡◌, refl, sym, ap, ◌∙◌}
use Prim.Native.Nat.{ℕ}
use native.Mathlib.Omega.{arith}
use lib.IntN.{ℤ, pos, negsuc, nat_abs}
use Rattle.digits.specs.Text.{decimal, signed}
use Rattle.kinds.specs.Kinds.{negative, split_of}
use Rattle.kinds.specs.declared.Split.{Split}

below : (z : ℤ) → negative z ≡ true → signed z ≡ 45 ∷ decimal (nat_abs z)
unfolding signed
below (pos n) h = absurd (let o : ◌≡◌ {A = ℕ} 0 1 = cc in omega arith)
below (negsuc k) h = refl

from : (z : ℤ) → negative z ≡ false → signed z ≡ decimal (nat_abs z)
unfolding signed
from (pos n) h = refl
from (negsuc k) h = absurd (let o : ◌≡◌ {A = ℕ} 0 1 = cc in omega arith)

module _ (z : ℤ) (s : Split) (e : s ≡ split_of z) where
  sign : s.negative ≡ negative z
  sign = ap (λ (x : Split). x.negative) e

  size : nat_abs z ≡ s.magnitude
  size = sym (ap (λ (x : Split). x.magnitude) e)

  pub with-minus : s.negative ≡ true → signed z ≡ 45 ∷ decimal s.magnitude
  with-minus h = below z (sym sign ∙ h) ∙ ap (λ (m : ℕ). 45 ∷ decimal m) size

  pub no_minus : s.negative ≡ false → signed z ≡ decimal s.magnitude
  no_minus h = from z (sym sign ∙ h) ∙ ap decimal size
