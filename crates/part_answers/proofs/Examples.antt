-- The answers on examples, which antt computes: the order of the checks, and sums about 2^64.
-- Assumes nothing.
use mathlib.Core.Path.{◌≡◌, refl}
use mathlib.Core.List.{[], ◌∷◌}
use Prim.Native.Nat.{◌-◌, ◌^◌}
use Rattle.digits.specs.Digits.{up_to, bare, digits}
use Rattle.digits.specs.Text.{text}
use Rattle.parts.specs.Parts.{all_known, sign_text, leaves_source, part_length, parts_length, true_length, part_of, zero_part, num_part, copy_part}
use Rattle.parts.specs.declared.Part.{Part}
use Rattle.parts.specs.declared.Sign.TheVariants as sign
use Rattle.part_answers.specs.Answers.{first_out, checked, measured, wrote, number_of, value_of}

-- a kind that is unknown
odd : Part
odd = part_of 3 0 0 0 0

-- `-` 65535 `00` `bc`: its length, into buffers that are too short by one and long enough
length-is : value_of (measured 3 sign.Minus (num_part 65535 ∷ zero_part 2 ∷ copy_part 1 2 ∷ [])) ≡ 10
unfolding measured checked all_known first_out leaves_source true_length sign_text parts_length part_length text digits bare up_to
length-is = refl

short-is : number_of (wrote 3 9 sign.Minus (num_part 65535 ∷ zero_part 2 ∷ copy_part 1 2 ∷ [])) ≡ 8
unfolding wrote checked all_known first_out leaves_source true_length sign_text parts_length part_length text digits bare up_to
short-is = refl

done-is : number_of (wrote 3 10 sign.Minus (num_part 65535 ∷ zero_part 2 ∷ copy_part 1 2 ∷ [])) ≡ 0
unfolding wrote checked all_known first_out leaves_source true_length sign_text parts_length part_length text digits bare up_to
done-is = refl

-- an unknown code comes before a part that leaves its source, wherever it stands; of two such parts the first is named
options-first : number_of (wrote 3 10 sign.None (copy_part 2 2 ∷ odd ∷ [])) ≡ 6
unfolding wrote checked all_known odd
options-first = refl

sign-first : number_of (wrote 3 10 sign.Unknown (copy_part 2 2 ∷ [])) ≡ 6
unfolding wrote checked
sign-first = refl

part-is : number_of (wrote 3 0 sign.None (zero_part 1 ∷ copy_part 2 2 ∷ copy_part 4 0 ∷ [])) ≡ 9
unfolding wrote checked all_known first_out leaves_source
part-is = refl

part_at : value_of (wrote 3 0 sign.None (zero_part 1 ∷ copy_part 2 2 ∷ copy_part 4 0 ∷ [])) ≡ 1
unfolding wrote checked all_known first_out leaves_source
part_at = refl

-- start and length are summed truly: 2^64 - 1 and 1 do not come round to 0
part-true : number_of (measured 3 sign.None (copy_part (2 ^ 64 - 1) 1 ∷ [])) ≡ 9
unfolding measured checked all_known first_out leaves_source
part-true = refl

-- a sum of 2^64 - 1 is itself, and one of 2^64 is held there
greatest-is : value_of (measured 3 sign.Minus (zero_part (2 ^ 64 - 2) ∷ [])) ≡ 2 ^ 64 - 1
unfolding measured checked all_known first_out leaves_source true_length sign_text parts_length part_length
greatest-is = refl

held-is : value_of (wrote 3 10 sign.Minus (zero_part (2 ^ 64 - 2) ∷ copy_part 0 1 ∷ [])) ≡ 2 ^ 64 - 1
unfolding wrote checked all_known first_out leaves_source true_length sign_text parts_length part_length
held-is = refl
