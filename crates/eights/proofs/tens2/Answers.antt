-- `eights::tens2` meets its contract: the tenths of two numbers, and what is left of each. Assumes nothing.
use mathlib.Core.List.{[], ◌∷◌}
use mathlib.Core.Path.{◌≡◌, ◌∙◌}
use Prim.Native.Nat.{ℕ, ◌+◌, ◌*◌, ◌/◌, ◌%◌, ◌^◌, ◌<◌}
use native.Mathlib.Nat.{div-add-mod', lt_of_le_of_lt, mod-eq_of_lt, mod-lt}
use native.Mathlib.Omega.{arith}
use lib.Bits.{bit_and}
use lib.Dec.{lit<}
use Rattle.digits.specs.Digits.{Below}
use Rattle.lanes.specs.Lanes.{word}
use Rattle.eights.specs.Steps.{tens_of}
use Rattle.eights.proofs.Lanes.{tens, sub_is, le_is}
use Rattle.eights.proofs.tens2.Goals as goal

stepped : (y : ℕ) → y % 65536 < 100 → y / 65536 < 100 → y * 2 ^ 8 % 2 ^ 32 ≡ tens_of y + bit_and (y * 103 / 2 ^ 10) 0x000f_000f * 2559
unfolding word Below tens_of
stepped y l h =
    let s : y * 2 ^ 8 % 2 ^ 32 ≡ y * 256 = mod-eq_of_lt (omega arith) in
    s ∙ tens ((y % 65536) ∷ (y / 65536) ∷ []) (omega (arith, div-add-mod' y 65536)) (l, (h, tt)) ∙ omega arith

pub overflow_mul-result : goal.overflow_mul-result
overflow_mul-result c = record { fits = lt_of_le_of_lt (le_is _ _ (stepped c.args.y c.requires.0 c.requires.1)) (mod-lt _ (lit< tt)) }

pub overflow_sub-result : goal.overflow_sub-result
overflow_sub-result c = le_is _ _ (stepped c.args.y c.requires.0 c.requires.1)

pub returns : goal.returns
returns c = sub_is _ _ (stepped c.args.y c.requires.0 c.requires.1)
