-- `eights::tens4` meets its contract: the tenths of four numbers, and what is left of each. Assumes nothing.
use mathlib.Core.List.{[], ◌∷◌}
use mathlib.Core.Path.{◌≡◌, ◌∙◌}
use Prim.Native.Nat.{ℕ, ◌+◌, ◌*◌, ◌/◌, ◌%◌, ◌^◌, ◌<◌}
use native.Mathlib.Nat.{div-add-mod', lt_of_le_of_lt, mod-eq_of_lt, mod-lt}
use native.Mathlib.Omega.{arith}
use lib.Bits.{bit_and}
use lib.Dec.{lit<}
use Rattle.digits.specs.Digits.{Below}
use Rattle.lanes.specs.Lanes.{word}
use Rattle.eights.specs.Steps.{tens_of}
use Rattle.eights.proofs.Lanes.{tens, sub_is, le_is}
use Rattle.eights.proofs.tens4.Goals as goal

stepped : (y : ℕ) → y % 4294967296 % 65536 < 100 → y % 4294967296 / 65536 < 100 → y / 4294967296 % 65536 < 100 → y / 4294967296 / 65536 < 100 →
    y * 2 ^ 8 % 2 ^ 64 ≡ tens_of (y / 4294967296) * 4294967296 + tens_of (y % 4294967296) + bit_and (y * 103 / 2 ^ 10) 0x000f_000f_000f_000f * 2559
unfolding word Below tens_of
stepped y a b c d =
    let lo = y % 4294967296 in
    let hi = y / 4294967296 in
    let s : y * 2 ^ 8 % 2 ^ 64 ≡ y * 256 = mod-eq_of_lt (omega arith) in
    s ∙ tens ((lo % 65536) ∷ (lo / 65536) ∷ (hi % 65536) ∷ (hi / 65536) ∷ []) (omega (arith, div-add-mod' y 4294967296, div-add-mod' lo 65536, div-add-mod' hi 65536)) (a, (b, (c, (d, tt)))) ∙ omega arith

pub overflow_mul-result : goal.overflow_mul-result
overflow_mul-result c = record { fits = lt_of_le_of_lt (le_is _ _ (stepped c.args.y c.requires.0 c.requires.1 c.requires.2 c.requires.3)) (mod-lt _ (lit< tt)) }

pub overflow_sub-result : goal.overflow_sub-result
overflow_sub-result c = le_is _ _ (stepped c.args.y c.requires.0 c.requires.1 c.requires.2 c.requires.3)

pub returns : goal.returns
returns c = sub_is _ _ (stepped c.args.y c.requires.0 c.requires.1 c.requires.2 c.requires.3)
