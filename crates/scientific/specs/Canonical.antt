-- Which exponent texts are canonical (document 01, "Reading", NOT_CANONICAL, the clauses of the exponent form).
use Rattle.std.specs.Prelude.{None, Bool, true, List, [], ◌∷◌, ◌++◌, ◌≡◌, ℕ, ◌-◌, ◌*◌, ◌^◌, ◌≤◌, ◌<◌, length}
use Rattle.scientific.specs.Sci.{exponent_of}
use Rattle.scientific.specs.Layout.{exp_text}
use Rattle.scientific.specs.Shape.{Parts, sign, number}

pub record CanonicalParts (x : Parts) : Type 0 where
  -- no minus before a value of zero
  pub minus : x.minus ≡ true → (number x).coef ≡ 0 → ⊥
  -- no lead 0 unless the text is `0e0`
  pub lead : x.lead ≡ 0 → (x.frac ≡ []) × (x.expo ≡ 0 ∷ [])
  -- no fraction that ends in 0
  pub spare : (ds : List ℕ) → x.frac ≡ ds ++ (0 ∷ []) → ⊥
  -- no exponent of two digits that starts with 0
  pub expo : (d : ℕ) → x.expo ≡ 0 ∷ d ∷ [] → ⊥
  -- no exponent below the number of fraction digits
  pub enough : length x.frac ≤ (number x).expo

-- The magnitude that canonical parts denote.
abbrev pub magnitude : Parts → ℕ
magnitude x = (number x).coef * 10 ^ ((number x).expo - (number x).frac)

-- t is the text of the magnitude n without precision, behind a minus only if signed and n is not 0. Its exponent has one or two digits.
pub record Plain (signed : Bool) (letter : ℕ) (t : List ℕ) (minus : Bool) (n : ℕ) : Type 0 where
  pub text : t ≡ sign minus ++ exp_text letter None n
  pub signs : minus ≡ true → signed ≡ true
  pub pos : minus ≡ true → 0 < n
  pub expo : exponent_of n ≤ 99
