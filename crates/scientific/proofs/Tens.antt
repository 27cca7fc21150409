-- Powers of ten, and the exponent of a number, which has one digit more: by the laws of its digits.
-- Assumes nothing.
use mathlib.Core.Path.{◌≡◌, ap, ◌∙◌}
use Prim.Native.Nat.{ℕ, suc, ◌-◌, ◌*◌, ◌^◌, ◌≤◌, ◌<◌}
use native.Mathlib.Nat.{one-le-pow, pow-le-pow_right, zero-lt-suc}
use native.Mathlib.Decide.{dec_le}
use native.Mathlib.Omega.{arith}
use lib.Dec.{lit<}
use lib.ListN.{length}
use lib.Pow.{pow-add}
use Rattle.digits.specs.Digits.{digits}
use Rattle.digits.specs.Text.{ascii, decimal}
use Rattle.digits.proofs.Digits.{digits-some, digits-length, digits-length-le}
use Rattle.digits.proofs.Length.{below_length, from-length, length-mono}
use Rattle.digits.proofs.Text.{length-text}
use Rattle.scientific.specs.Sci.{exponent_of}

pub ten : 1 < 10
ten = lit< tt

pub pos : (k : ℕ) → 0 < 10 ^ k
pos k = one-le-pow k 10 (zero-lt-suc 9)

pub powers : {i j : ℕ} → i ≤ j → 10 ^ i ≤ 10 ^ j
powers h = pow-le-pow_right (zero-lt-suc 9) h

-- 10^j, taken apart at i
pub split : {i j : ℕ} → i ≤ j → 10 ^ j ≡ 10 ^ (j - i) * 10 ^ i
split {i} {j} h = ap (λ (x : ℕ). 10 ^ x) (omega arith) ∙ pow-add 10 (j - i) i

-- an exponent is known by where the number lies
pub below_power : {i j n : ℕ} → 10 ^ i ≤ n → n < 10 ^ j → i < j
below_power {i} {j} {n} l h = go (dec_le (suc i) j)
  where
    go : Dec (suc i ≤ j) → i < j
    go (yes p) = p
    go (no f) = let b : 10 ^ j ≤ 10 ^ i = powers (omega arith) in omega arith

-- ---- n has as many digits as its exponent, and one more

pub digits_are : (n : ℕ) → length (digits 10 n) ≡ suc (exponent_of n)
unfolding exponent_of
digits_are n = omega (arith, digits-some 10 ten n)

-- so many bytes has its decimal text
pub decimal-are : (n : ℕ) → length (decimal n) ≡ suc (exponent_of n)
decimal-are n = length-text ascii 10 ten n ∙ digits_are n

pub lo : (n : ℕ) → 0 < n → 10 ^ exponent_of n ≤ n
unfolding exponent_of
lo n h = from-length 10 ten n h

pub hi : (n : ℕ) → n < 10 ^ suc (exponent_of n)
hi n = rw (digits_are n) at (below_length 10 ten n)

pub is : (e : ℕ) {n : ℕ} → 10 ^ e ≤ n → n < 10 ^ suc e → exponent_of n ≡ e
is e {n} l h = omega (arith, digits_are n, digits-length 10 ten e n l h)

pub mono : {n m : ℕ} → n ≤ m → exponent_of n ≤ exponent_of m
mono {n} {m} h = omega (arith, digits_are n, digits_are m, length-mono 10 ten h)

-- a number of at most d + 1 digits
pub le : (d n : ℕ) → n < 10 ^ suc d → exponent_of n ≤ d
le d n h = omega (arith, digits_are n, digits-length-le 10 ten (suc d) n (zero-lt-suc d) h)

pub small : (n : ℕ) → n < 10 → exponent_of n ≡ 0
small n h = omega (arith, le 0 n h)

-- a number of two or more digits is not 0
pub some : (n : ℕ) → 0 < exponent_of n → 0 < n
some n h = go (dec_le 1 n)
  where
    go : Dec (0 < n) → 0 < n
    go (yes p) = p
    go (no f) = absurd (let z = small n (omega arith) in omega arith)
