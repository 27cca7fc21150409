-- `lanes::spread_octal` meets its contract: four digits of base 64, and eight of base 8. Assumes nothing.
use mathlib.Core.Path.{◌≡◌, refl}
use Prim.Native.Nat.{ℕ, ◌*◌, ◌/◌, ◌%◌, ◌^◌}
use lib.Bits.{bit_and, bit_or}
use lib.Dec.{lit<}
use Rattle.digits.specs.Digits.{last}
use Rattle.lanes.specs.Lanes.{word}
use Rattle.lanes.proofs.Halves.{halves_in}
use Rattle.lanes.proofs.spread_octal.Goals as goal
use Rattle.lanes.proofs.spread_octal.Goals.{After-octal_halves-halves}

abbrev Pairs : After-octal_halves-halves → ℕ
Pairs c = bit_and (bit_or (c.octal_halves-halves.result / 2 ^ 6) (c.octal_halves-halves.result * 2 ^ 16 % 2 ^ 64)) 0x003f_003f_003f_003f

pairs : (c : After-octal_halves-halves) → Pairs c ≡ word (2 ^ 16) (last 64 4 c.args.n)
unfolding word
pairs c = halves_in 4 6 16 refl 64 2 c.args.n c.octal_halves-halves.result 0x003f_003f_003f_003f (lit< tt) c.octal_halves-halves.ensures refl (lit< tt)

pub returns : goal.returns
unfolding word
returns c = halves_in 2 3 8 refl 64 4 c.args.n (Pairs (goal.at.returns c).After-octal_halves-halves) 0x0707_0707_0707_0707 (lit< tt) (pairs (goal.at.returns c).After-octal_halves-halves) refl (lit< tt)
