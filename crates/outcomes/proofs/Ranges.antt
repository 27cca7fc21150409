-- The answer for a number and for a pattern, by the tests that the code makes. Over the bits.
-- Assumes nothing.
use Rattle.std.specs.Prelude.{Ok, Err}
use mathlib.Core.Bool.{Bool, true, false}
use mathlib.Core.Path.{◌≡◌, ap}
use Prim.Native.Nat.{ℕ, zero, suc, ◌+◌, ◌-◌, ◌/◌, ◌^◌, ◌≤◌, ◌<◌}
use native.Mathlib.Omega.{arith}
use borrow.Author.Tests.{lt-ltb, le-ltb}
use lib.Pow.{pow_mono}
use Rattle.kinds.proofs.Patterns.{halves, read_low, read-high, in-unsigned}
use Rattle.reading.specs.Formats.{whole}
use Rattle.outcomes.specs.Outcomes.{value_outcome, pattern_outcome}
use Rattle.outcomes.specs.declared.Fault.TheVariants as fault

-- a magnitude behind a minus, as a value of a signed type
pub minus-in : (bits n : ℕ) → 0 < n → n - 1 < 2 ^ (bits - 1) → Ok ((2 ^ 64 - 1) - (n - 1)) ≡ value_outcome true bits (whole true n)
minus-in bits zero p h = absurd (omega arith)
minus-in bits (suc k) p h = let e : (2 ^ 64 - 1) - (suc k - 1) ≡ 2 ^ 64 - suc k = omega arith in rw (lt-ltb k (2 ^ (bits - 1)) (omega arith)) (ap Ok e)

pub minus-out : (bits n : ℕ) → 0 < n → 2 ^ (bits - 1) ≤ n - 1 → Err fault.Range ≡ value_outcome true bits (whole true n)
minus-out bits zero p h = absurd (omega arith)
minus-out bits (suc k) p h = rw (le-ltb k (2 ^ (bits - 1)) (omega arith))

pub signed-in : (bits n : ℕ) → n < 2 ^ (bits - 1) → Ok n ≡ value_outcome true bits (whole false n)
signed-in bits n h = rw (lt-ltb n (2 ^ (bits - 1)) h)

pub signed-out : (bits n : ℕ) → 2 ^ (bits - 1) ≤ n → Err fault.Range ≡ value_outcome true bits (whole false n)
signed-out bits n h = rw (le-ltb n (2 ^ (bits - 1)) h)

-- half of an unsigned number is below half of the type's numbers
pub unsigned-in : (bits n : ℕ) → 1 ≤ bits → n / 2 < 2 ^ (bits - 1) → Ok n ≡ value_outcome false bits (whole false n)
unsigned-in bits n one h = rw (← in-unsigned bits n one, lt-ltb (n / 2) (2 ^ (bits - 1)) h)

pub unsigned-out : (bits n : ℕ) → 1 ≤ bits → 2 ^ (bits - 1) ≤ n / 2 → Err fault.Range ≡ value_outcome false bits (whole false n)
unsigned-out bits n one h = rw (← in-unsigned bits n one, le-ltb (n / 2) (2 ^ (bits - 1)) h)

-- ---- a pattern of the type's bits

module _ (bits p : ℕ) (one : 1 ≤ bits) where
  pub pattern-out : (sgn : Bool) → 2 ^ (bits - 1) ≤ p / 2 → Err fault.Range ≡ pattern_outcome sgn bits p
  pattern-out sgn h = rw (← in-unsigned bits p one, le-ltb (p / 2) (2 ^ (bits - 1)) h)

  pub pattern-low : p / 2 < 2 ^ (bits - 1) → Ok p ≡ pattern_outcome false bits p
  pattern-low h = rw (← in-unsigned bits p one, lt-ltb (p / 2) (2 ^ (bits - 1)) h)

  pub pattern-signed-low : p / 2 < 2 ^ (bits - 1) → p < 2 ^ (bits - 1) → Ok p ≡ pattern_outcome true bits p
  pattern-signed-low h l = rw (← in-unsigned bits p one, lt-ltb (p / 2) (2 ^ (bits - 1)) h, read_low bits p l)

  -- ones in front, from the type's bits up
  pub pattern-high : p / 2 < 2 ^ (bits - 1) → 2 ^ (bits - 1) ≤ p → bits ≤ 64 → Ok (p + (((2 ^ 64 - 1) - (2 ^ (bits - 1) - 1)) - 2 ^ (bits - 1))) ≡ pattern_outcome true bits p
  pattern-high h l few = rw (← in-unsigned bits p one, lt-ltb (p / 2) (2 ^ (bits - 1)) h, read-high bits p l) (ap Ok (omega (arith, halves bits one, pow_mono {i = bits - 1} {j = 63} (omega arith))))
