-- A local array of twelve parts whose first c are lent as a `&[Part]`: it is a row of those and a row of the others, and the two rows are it.
-- Assumes `Logic`.
use mathlib.Core.Path.{◌≡◌, refl, sym}
use Prim.Native.Nat.{ℕ, ◌<◌, ◌≤◌, ◌^◌, ◌*◌}
use native.Mathlib.Omega.{arith}
use mathlib.Core.List.{List, [], ◌∷◌, ◌++◌}
use lib.ListN.{length, take, drop as drop_n, take-append-drop}
use lib.Seq.{length-take-le}
use seplogic.Ra.Ura.{Ura}
use base.Fraction.{full_share}
use mir.Syntax.{Ty, ty_array}
use mir.Val.{Val}
use base.Logic.{ent, sep}
use base.Fml.{Fml, fsep, fat}
use types.Logic.{Logic, sem}
use types.Kit.{‵, ◌⊛◌, ⋆, ◌$◌, ◌∵◌, !, qed, keep, drop, use1, use2, rewrite, split, fsplit, fjoin, fpick, fpack, feq_i, done}
use types.SemTy.{cells}
use types.Share.{arr_parts}
use denote.RattleType.{RattleType}
use denote.Laws.{Is, shows}
use denote.Array.{Array, array_vals, Array-Tells}
use denote.ArrayMemory.{Array-apart, Array-whole}
use denote.Enum.Laws as LL
use denote.Index.{row, whole_out, whole_in}
use denote.Memory.{mem, shares, cell_at, part_at, part_of}
use denote.Steps.{only}
use denote.Struct.Steps.{spelt}
use borrow.Table.Elements.{at, cut_app, join_app}
use Rattle.parts.specs.declared.Part.{Part}
use Rattle.parts.specs.contracts.Part as T
use Rattle.parts.proofs.Part.TheLaws as T'

-- the array's type, its MIR type and its machine value
abbrev pub Arr : RattleType
Arr = Array T.the_row 12

abbrev pub arr_ty : Ty
arr_ty = ty_array T'.mir 12

abbrev pub vals : List Part → List Val
vals = array_vals (LL.vals T.the_type T'.the_laws)

-- the count of the parts that are lent, and that they have room
pub lent-count : (ys : List Part) (c : ℕ) → length ys ≡ 12 → c ≤ 12 → length (take c ys) ≡ c
lent-count ys c len h = length-take-le c ys (omega arith)

pub roomy : (k c : ℕ) → k ≡ c → c ≤ 12 → (k < 2 ^ 64) × (k * 32 < 2 ^ 63)
roomy k c e h = (omega arith, omega arith)

-- parts side by side, from the start of the block l on
abbrev pub Cells : List Part → ℕ → Fml
Cells ys l = (arr_parts (shares T.the_row) (length ys)).part full_share ys l 0

-- those behind the first c
abbrev pub Behind : ℕ → List Part → ℕ → Fml
Behind c ys l = cells (mem T.the_row) (drop_n c ys) l (at 0 (mem T.the_row).size (length (take c ys)))

module _ {M : Type 1} {𝓤 : Ura M} (𝓛 : Logic 𝓤) (ys : List Part) (c l : ℕ) (len : length ys ≡ 12) where
  abbrev v : Val
  v = only (vals ys)

  pub apart : ent 𝓤 (⋆ 𝓛 (‵ (fat full_share arr_ty l 0 v) ∷ ‵ (Arr.own_val ys (v ∷ [])) ∷ [])) (sep 𝓤 (sem 𝓛 (Cells (take c ys) l)) (sem 𝓛 (Behind c ys l)))
  unfolding part_of
  apart =
      qed 𝓛 (‵ (fat full_share arr_ty l 0 v) ∷ ‵ (Arr.own_val ys (v ∷ [])) ∷ []) ∵ use1 𝓛 (‵ (cell_at full_share Arr.mir (v ∷ []) l 0)) (𝓛.laws.at_raw full_share arr_ty l 0 v) $ fjoin ! $
      fpack ! (List Val) (λ us. fsep (cell_at full_share Arr.mir us l 0) (Arr.own_val ys us)) (v ∷ []) $
      use1 𝓛 (‵ ((arr_parts (shares T.the_row) 12).part full_share ys l 0)) (Array-apart 𝓛 T.the_row full_share tt 12 ys l 0) $
      -- the row is cut behind the first c
      fsplit ! $ drop ! $ use1 𝓛 (‵ (cells (mem T.the_row) ys l 0)) (whole_in 𝓛 T.the_row ys l 0) $
      rewrite ! 0 (λ (zs : List Part). ‵ (cells (mem T.the_row) zs l 0)) (sym (take-append-drop c ys)) refl $
      use1 𝓛 (‵ (cells (mem T.the_row) (take c ys) l 0) ⊛ ‵ (Behind c ys l)) (cut_app 𝓛 (mem T.the_row) (take c ys) (drop_n c ys) l 0) $ split ! $
      use1 𝓛 (‵ (row T.the_row full_share (take c ys) l 0)) (whole_out 𝓛 T.the_row (take c ys) l 0) $ feq_i ! ℕ (length (take c ys)) (length (take c ys)) refl $ fjoin ! $ done !

  pub together : ent 𝓤 (⋆ 𝓛 (‵ (Cells (take c ys) l) ∷ ‵ (Behind c ys l) ∷ [])) (sem 𝓛 (fat full_share arr_ty l 0 v))
  unfolding part_of
  together =
      qed 𝓛 (‵ (Cells (take c ys) l) ∷ ‵ (Behind c ys l) ∷ []) ∵ fsplit ! $ drop ! $ use1 𝓛 (‵ (cells (mem T.the_row) (take c ys) l 0)) (whole_in 𝓛 T.the_row (take c ys) l 0) $
      use2 𝓛 (‵ (cells (mem T.the_row) (take c ys ++ drop_n c ys) l 0)) (join_app 𝓛 (mem T.the_row) (take c ys) (drop_n c ys) l 0) $
      rewrite ! 0 (λ (zs : List Part). ‵ (cells (mem T.the_row) zs l 0)) (take-append-drop c ys) refl $
      use1 𝓛 (‵ (row T.the_row full_share ys l 0)) (whole_out 𝓛 T.the_row ys l 0) $ feq_i ! ℕ (length ys) 12 len $ fjoin ! $
      use1 𝓛 (‵ (part_at Arr full_share ys l 0)) (Array-whole 𝓛 T.the_row full_share 12 ys l 0) $ fpick ! (λ us. fsplit ! $
      spelt ! Arr (Is Arr) (shows 𝓛 Arr) vals (Array-Tells T.the_row (LL.vals T.the_type T'.the_laws) (LL.tells T.the_type T'.the_laws) 12) full_share ys us l 0 $
      use1 𝓛 (‵ (fat full_share arr_ty l 0 v)) (𝓛.laws.raw_at full_share arr_ty l 0 v) $ keep ! (0 ∷ []) $ done !)
