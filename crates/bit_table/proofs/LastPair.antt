-- Two digits are left: they have room in front of an end, and stored there they are what is left of the text. `fmt_inner` names these, as `last_pair`,
-- for the return that they lead to. Over all naturals and any alphabet. Assumes nothing.
use mathlib.Core.Path.{◌≡◌, refl, ap, ◌∙◌}
use mathlib.Core.List.{List}
use Prim.Native.Nat.{ℕ, ◌+◌, ◌-◌, ◌/◌, ◌≤◌, ◌<◌, ◌^◌}
use native.Mathlib.Omega.{arith}
use lib.ListN.{length}
use lib.Seq.{sets, length-sets}
use Rattle.buffer.specs.AtEnd.{ended}
use Rattle.buffer.proofs.Left.{left-start, left-last}
use Rattle.digits.specs.Text.{text, last_text}
use Rattle.digits.proofs.Text.{length-last_text}
use Rattle.bit_table.proofs.Shift.{pair-last}

module _ (α : ℕ → ℕ) (s n : ℕ) (p : 0 < s) (few : n / 2 ^ (s + s) ≡ 0) (some : n / 2 ^ s ≡ 0 → ⊥) where
  pub pair_length : length (text α (2 ^ s) n) ≡ 2
  pair_length = ap length (pair-last α s p n few some) ∙ length-last_text α (2 ^ s) 2 n

  pub pair_stored : (buf : List ℕ) (at : ℕ) → 2 ≤ at → at ≤ length buf → sets buf (at - 2) (last_text α (2 ^ s) 2 n) ≡ ended buf at (text α (2 ^ s) n)
  pair_stored buf at h k =
      let t = text α (2 ^ s) n in
      let l = length-last_text α (2 ^ s) 2 n in
      let L = left-start buf at t t refl (omega (arith, pair_length)) k in
      (left-last L (last_text α (2 ^ s) 2 n) (at - 2) (pair-last α s p n few some) (omega (arith, l))).1

pub ruleset last_pair = (pair_length, pair_stored, length-sets)
