-- Mission demand 3, sentence by sentence, of an exponent text of the magnitude n; and what is asked of the text without precision.
use Rattle.std.specs.Prelude.{Bool, false, List, [], ◌∷◌, ◌++◌, ◌≡◌, ℕ, ◌-◌, ◌*◌, ◌/◌, ◌%◌, ◌^◌, ◌≤◌, ◌<◌, length}
use Rattle.scientific.specs.Sci.{Sci, exponent_of}
use Rattle.scientific.specs.Shape.{Parts, Reads, number, scaled, Denotes, apart}

-- s denotes D, a multiple of u; twice the distance to n is at most u; on a tie, D/u is even.
pub record Rounds (u n : ℕ) (s : Sci) (D : ℕ) : Type 0 where
  pub denotes : Denotes s D
  pub multiple : D % u ≡ 0
  pub half : 2 * apart false D n ≤ u
  pub tie : 2 * apart false D n ≡ u → (D / u) % 2 ≡ 0

-- A text of n, of e + 1 digits, at precision p, with the parts x.
pub record Demand3 (n p : ℕ) (x : Parts) : Type 0 where
  -- a magnitude has no minus
  pub plus : x.minus ≡ false
  -- the lead digit is not 0, unless n is
  pub lead : 0 < n → 0 < x.lead
  -- exactly p fraction digits
  pub places : length x.frac ≡ p
  -- it denotes n if p is at least e
  pub exact : exponent_of n ≤ p → Denotes (number x) n
  -- else a multiple of u = 10^(e-p), n rounded
  pub rounds : p < exponent_of n → (D : ℕ) × Rounds (10 ^ (exponent_of n - p)) n (number x) D
  -- no exponent text with p fraction digits, signed or not, with either letter, denotes a number nearer n
  pub nearest : (signed : Bool) (letter : ℕ) (t : List ℕ) (y : Parts) → Reads signed letter t y → length y.frac ≡ p
      → apart false (scaled (number x)) (n * 10 ^ p) ≤ apart y.minus (scaled (number y)) (n * 10 ^ p)

-- A text of n without precision, with the parts x: it denotes n and has no digit to spare.
pub record Shortest (n : ℕ) (x : Parts) : Type 0 where
  pub plus : x.minus ≡ false
  pub lead : 0 < n → 0 < x.lead
  pub denotes : Denotes (number x) n
  -- the fraction does not end in 0
  pub spare : (ds : List ℕ) → x.frac ≡ ds ++ (0 ∷ []) → ⊥
  -- the exponent is at least the number of fraction digits
  pub enough : length x.frac ≤ (number x).expo

-- t is an exponent text, its parts have the property, and it has no other reading.
pub record Only (letter : ℕ) (t : List ℕ) (P : Parts → Type 0) : Type 0 where
  pub parts : Parts
  pub reads : Reads false letter t parts
  pub holds : P parts
  pub other : (signed : Bool) (y : Parts) → Reads signed letter t y → y ≡ parts
