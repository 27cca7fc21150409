-- `eights::pairs2` meets its contract: the hundredths of two numbers, and what is left of each. Assumes nothing.
use mathlib.Core.List.{[], ◌∷◌}
use mathlib.Core.Path.{◌≡◌, ◌∙◌}
use Prim.Native.Nat.{ℕ, ◌+◌, ◌*◌, ◌/◌, ◌%◌, ◌^◌, ◌<◌}
use native.Mathlib.Nat.{div-add-mod', lt_of_le_of_lt, mod-eq_of_lt, mod-lt}
use native.Mathlib.Omega.{arith}
use lib.Bits.{bit_and}
use lib.Dec.{lit<}
use Rattle.digits.specs.Digits.{Below}
use Rattle.lanes.specs.Lanes.{word}
use Rattle.eights.specs.Steps.{pairs_of}
use Rattle.eights.proofs.Lanes.{hundreds, sub_is, le_is}
use Rattle.eights.proofs.pairs2.Goals as goal

stepped : (x : ℕ) → x % 4294967296 < 10000 → x / 4294967296 < 10000 →
    x * 2 ^ 16 % 2 ^ 64 ≡ pairs_of (x / 4294967296) * 4294967296 + pairs_of (x % 4294967296) + bit_and (x * 10486 / 2 ^ 20) 0x7f_0000_007f * 6553599
unfolding word Below pairs_of
stepped x l h =
    let s : x * 2 ^ 16 % 2 ^ 64 ≡ x * 65536 = mod-eq_of_lt (omega arith) in
    s ∙ hundreds ((x % 4294967296) ∷ (x / 4294967296) ∷ []) (omega (arith, div-add-mod' x 4294967296)) (l, (h, tt)) ∙ omega arith

pub overflow_mul-result : goal.overflow_mul-result
overflow_mul-result c = record { fits = lt_of_le_of_lt (le_is _ _ (stepped c.args.x c.requires.0 c.requires.1)) (mod-lt _ (lit< tt)) }

pub overflow_sub-result : goal.overflow_sub-result
overflow_sub-result c = le_is _ _ (stepped c.args.x c.requires.0 c.requires.1)

pub returns : goal.returns
returns c = sub_is _ _ (stepped c.args.x c.requires.0 c.requires.1)
