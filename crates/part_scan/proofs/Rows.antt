-- That a part's place in a list can be counted, what an index has left, and the outcome of a test: laws for a walk by hand over a `&[Part]`.
-- Assumes nothing.
use mathlib.Core.Path.{◌≡◌, refl}
use Prim.Native.Nat.{ℕ, ◌+◌, ◌*◌, ◌-◌, ◌<◌, ◌^◌}
use native.Mathlib.Omega.{arith}
use mathlib.Core.Bool.{Bool, true, false}
use lib.Dec.{T}

-- a part takes no more than 32 bytes, and a slice's elements take fewer than 2^63
pub fits-32 : (i n : ℕ) → i < n → n * 32 < 2 ^ 63 → i * 32 < 2 ^ 64
fits-32 i n l r = omega arith

pub i-fits : (i n : ℕ) → i < n → n < 2 ^ 64 → i < 2 ^ 64
i-fits i n l r = omega arith

pub next_fits : (i n : ℕ) → i < n → n < 2 ^ 64 → i + 1 < 2 ^ 64
next_fits i n l r = omega arith

-- fewer are left after one more turn
pub fewer : (i n : ℕ) → i < n → n - (i + 1) < n - i
fewer i n l = omega arith

-- the outcome of a test
pub holds : (t : Bool) → T t → t ≡ true
holds true _ = refl
holds false a = absurd a

pub fails : (t : Bool) → (T t → ⊥) → t ≡ false
fails true f = absurd (f tt)
fails false _ = refl
