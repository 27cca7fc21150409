-- The machine value of an answer, where it is known to be one, as a walk by hand stores it: that of a `Result` whose parts are a number and a `Refusal`.
-- Assumes nothing.
use mathlib.Core.Path.{◌≡◌, refl, ap}
use mathlib.Core.List.{[], ◌∷◌}
use mir.Val.{Val}
use denote.RattleType.{RattleType}
use denote.Builtin.{u64}
use denote.Laws.{Is}
use denote.Steps.{only}
use denote.Enum.Laws as EL
use denote.Param.Laws.{Laws, Told, of_field, field_told}
use denote.Param.Shared.{copy_shared}
use denote.Struct.Field.{u64-field}
use denote.Struct.Laws.{u64-laws, u64-copy}
use Rattle.std.specs.contracts.result.Result as R
use Rattle.std.proofs.result.Result.TheLaws as R'
use Rattle.std.specs.Prelude.{Ok, Err}
use Rattle.part_answers.specs.Answers.{Answer}
use Rattle.part_answers.specs.declared.Refusal.TheVariants as refusal
use Rattle.part_answers.specs.contracts.Refusal as F
use Rattle.part_answers.proofs.Refusal.TheLaws as F'

-- what a `Result` asks of the types of its parts
abbrev number_laws : Laws u64
number_laws = of_field u64-field u64-laws refl (copy_shared u64-field u64-copy)

abbrev number_told : Told u64
number_told = field_told u64-field u64-laws

-- the answer's type, and the machine value of each answer
abbrev pub the_row : RattleType
the_row = R.the_row u64 F.the_row

abbrev the_laws : EL.Laws (R.the_type u64 F.the_row)
the_laws = R'.the_laws u64 F.the_row number_laws F'.the_row_laws number_told F'.the_told

abbrev pub lowered : Answer → Val
lowered = R'.lowered u64 F.the_row number_laws F'.the_row_laws number_told F'.the_told

tells_answer : (c : Answer) (u : Val) → Is the_row c (u ∷ []) → u ∷ [] ≡ EL.vals (R.the_type u64 F.the_row) the_laws c
tells_answer c u is = EL.tells (R.the_type u64 F.the_row) the_laws c (u ∷ []) is

-- of the answer of the length, which has no NO_ROOM
pub spelled : (c : Answer) (u : Val) → Is the_row c (u ∷ []) → u ≡ lowered c
spelled (Ok n) u is = ap only (tells_answer (Ok n) u is)
spelled (Err refusal.Options) u is = ap only (tells_answer (Err refusal.Options) u is)
spelled (Err (refusal.Part i)) u is = ap only (tells_answer (Err (refusal.Part i)) u is)
spelled (Err (refusal.NoRoom n)) u is = ap only (tells_answer (Err (refusal.NoRoom n)) u is)

-- and of that of writing: the two are of one type
pub spelled-wrote : (c : Answer) (u : Val) → Is the_row c (u ∷ []) → u ≡ lowered c
spelled-wrote = spelled
