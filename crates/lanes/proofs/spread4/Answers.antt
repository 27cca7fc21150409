-- `lanes::spread4` meets its contract: the two bytes of n, and the two digits of each. Assumes nothing.
use mathlib.Core.Path.{◌≡◌, refl}
use Prim.Native.Nat.{ℕ, ◌+◌, ◌*◌, ◌/◌, ◌%◌, ◌^◌, ◌<◌}
use native.Mathlib.Nat.{mod-eq_of_lt}
use native.Mathlib.Omega.{arith}
use lib.Dec.{lit<}
use Rattle.digits.specs.Digits.{last}
use Rattle.lanes.specs.Lanes.{word}
use Rattle.lanes.proofs.Lanes.{spread-first}
use Rattle.lanes.proofs.Halves.{halves_in}
use Rattle.lanes.proofs.spread4.Goals as goal

abbrev Bytes : ℕ → ℕ
Bytes n = n / 2 ^ 8 + n % 256 * 2 ^ 16 % 2 ^ 32

bytes : (n : ℕ) → n < 65536 → Bytes n ≡ word (2 ^ 16) (last 256 2 n)
bytes n h =
    let e : n % 256 * 2 ^ 16 % 2 ^ 32 ≡ n % 256 * 2 ^ 16 = mod-eq_of_lt (omega arith) in
    rw e (spread-first (2 ^ 16) 256 n (lit< tt) h)

pub returns : goal.returns
unfolding word
returns c = halves_in 0 4 8 refl 32 2 c.args.n (Bytes c.args.n) 0x0f0f_0f0f (lit< tt) (bytes c.args.n c.requires) refl (lit< tt)
