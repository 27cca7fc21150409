-- What the reader's code finds on the way: a digit, a run of digits, a minus in front.
use Rattle.std.specs.Prelude.{◌≡◌, ℕ, ◌^◌, ◌<◌, ◌≤◌, Bool, true, false, Option, Some, None, SomeIff, List, ◌++◌, map, length, drop, ◌≢◌, slice_index}
use Rattle.digits.specs.Digits.{value_from, Below}
use Rattle.scientific.specs.Shape.{sign}
use Rattle.digit_runs.specs.declared.Run.{Run}

-- r is the digit that the byte is, if it is one.
abbrev pub IsDigit : (ℕ → ℕ) → ℕ → ℕ → Option ℕ → Type 0
IsDigit α b byte (Some d) = (d < b) × (α d ≡ byte)
IsDigit α b byte None = (d : ℕ) → d < b → α d ≢ byte

-- From one place to another t has digits.
pub record Digits (α : ℕ → ℕ) (b : ℕ) (t : List ℕ) (from to : ℕ) : Type 0 where
  pub digits : List ℕ
  pub each : Below b digits
  pub inside : to ≤ length t
  pub text : drop from t ≡ map α digits ++ drop to t

-- And at the end of t, or behind them no further one.
pub record DigitRun (α : ℕ → ℕ) (b : ℕ) (t : List ℕ) (from to : ℕ) : Type 0 where
  pub run : Digits α b t from to
  pub stop : to < length t → (d : ℕ) → d < b → α d ≢ slice_index t to

-- r is the number n, if that has 64 bits.
abbrev pub Held : Option ℕ → ℕ → Type 0
Held r n = SomeIff r (n < 2 ^ 64) n

-- Such a run, and the number that its digits stand for behind what was read before.
pub record Scanned (α : ℕ → ℕ) (b before : ℕ) (t : List ℕ) (from : ℕ) (r : Run) : Type 0 where
  pub stops : DigitRun α b t from r.end
  pub number : Held r.value (value_from b before stops.run.digits)

-- r is the length of the minus or none in front of t, where one may stand.
pub record Front (may : Bool) (t : List ℕ) (r : ℕ) : Type 0 where
  pub minus : Bool
  pub allowed : minus ≡ true → may ≡ true
  pub size : r ≡ length (sign minus)
  pub text : t ≡ sign minus ++ drop r t
  pub none : minus ≡ false → may ≡ true → slice_index t 0 ≢ 45
