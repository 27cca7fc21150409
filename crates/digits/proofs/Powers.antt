-- Bases that are a power of two, 2 ^ m: their powers, and that they are above 1. Over all naturals.
-- Assumes nothing.
use mathlib.Core.Path.{◌≡◌}
use Prim.Native.Nat.{ℕ, zero, suc, ◌*◌, ◌^◌, ◌<◌}
use native.Mathlib.Nat.{pow-zero, pow-suc, mul-zero, mul-suc}
use lib.Pow.{pow-add, pow-lt}

pub pow-pow : (m k : ℕ) → (2 ^ m) ^ k ≡ 2 ^ (m * k)
pow-pow m zero = rw (pow-zero, mul-zero, pow-zero)
pow-pow m (suc k) = rw (pow-suc (2 ^ m) k, mul-suc, pow-add 2 (m * k) m, pow-pow m k)

pub above-one : {s : ℕ} → 0 < s → 1 < 2 ^ s
above-one h = pow-lt h
