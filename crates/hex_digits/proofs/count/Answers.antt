-- `hex_digits::count` meets its contract: four bits a digit, and n | 1 has as many. Assumes nothing.
use mathlib.Core.Path.{◌≡◌, ◌∙◌}
use Prim.Native.Nat.{ℕ, suc, ◌+◌, ◌*◌, ◌/◌, ◌^◌, ◌≤◌, ◌<◌}
use native.Mathlib.Nat.{le_trans, lt_of_lt_of_le, pow-suc}
use native.Mathlib.Omega.{arith}
use lib.Bits.{bit_or}
use lib.Dec.{lit<}
use lib.Pow.{pow_mono}
use Rattle.digits.proofs.Count.{odd-length, odd-some}
use Rattle.digits.proofs.Digits.{digits-length}
use Rattle.lanes.proofs.Lanes.{square}
use Rattle.hex_digits.proofs.count.Goals as goal

bits : (k : ℕ) → 16 ^ k ≡ 2 ^ (k + k + (k + k))
bits k = square 4 k ∙ square 2 (k + k)

reached : (j n : ℕ) → 2 ^ j ≤ n → 16 ^ (j / 4) ≤ n
reached j n h = rw (bits (j / 4)) (le_trans (pow_mono (omega arith)) h)

below : (j n : ℕ) → n < 2 * 2 ^ j → n < 16 ^ suc (j / 4)
below j n h =
    let up : n < 2 ^ suc j = let p = pow-suc 2 j in omega arith in
    rw (bits (suc (j / 4))) (lt_of_lt_of_le up (pow_mono (omega arith)))

pub ilog2-requires : goal.ilog2-requires
ilog2-requires c = odd-some c.args.n

pub returns : goal.returns
returns c =
    let l = digits-length 16 (lit< tt) (c.ilog2.result / 4) (bit_or c.args.n 1) (reached c.ilog2.result _ c.ilog2.ensures.power_le) (below c.ilog2.result _ c.ilog2.ensures.next_power_gt) in
    omega (arith, l, odd-length 8 (lit< tt) c.args.n)
