-- A buffer that a walk lends on to a callee for a lifetime of the call, and has again afterwards, with as many bytes as before.
--     Bytes k δ m ys       m bytes at (b, o), borrowed for k under the name δ: they are ys
--     Kept δ ys            what the walk keeps while the callee has them under δ: its own borrow, open, and the lender's part of the callee's
-- Assumes `Logic`.
use mathlib.Core.Path.{◌≡◌, refl, sym, ap, subst, ◌∙◌}
use Prim.Native.Nat.{ℕ}
use mathlib.Core.List.{List, [], ◌∷◌}
use lib.ListN.{length}
use seplogic.Ra.Ura.{Ura}
use base.Fraction.{full_share}
use mir.Syntax.{erased}
use mir.Val.{Val}
use base.Logic.{SProp, ent, sep, ex}
use base.Fml.{Lft, GName, Share, Fml, fsep, flft, fdead, fobs, fauth, flent, fobor}
use types.Logic.{Logic, sem}
use types.Kit.{‵, ◌⊛◌, ⋆, some, later, ◌$◌, ◌∵◌, !, qed, move, use1, use3, drop, split, pick, rewrite, fsplit, fjoin, frame, await, updating, now as at_once, show, done}
use types.SemTy.{cells, Arr}
use denote.Builtin.{u8}
use denote.Shadow.{pure_l, pure_i}
use denote.Memory.{mem}
use denote.Ref.{MutBor}
use denote.Slice.{slice_val, MutSlice, heres, Room, finally, mut_slice_at, coded_holeys}
use denote.Lend.{Held, lends_slice, slice_back}
use denote.Index.{row, whole_out, whole_in, opens_slice, closes_slice}

module _ (κ κ' : Lft) (q : Share) (γ : GName) (b o : ℕ) where
  abbrev under : GName → List ℕ → MutBor (List ℕ)
  under δ ys = record { ref_ptr = (b, o); ghost_name = δ; now = ys }

  abbrev spelt : ℕ → List Val
  spelt m = slice_val (b, o) m ∷ []

  abbrev pub Bytes : Lft → GName → ℕ → List ℕ → Fml
  Bytes k δ m ys = (MutSlice erased k u8).own_val (under δ ys) (spelt m)

  abbrev pub Kept : GName → List ℕ → Fml
  Kept δ ys = fsep (flent κ' (Held u8 (length ys) b o δ)) (fsep (fobor κ q (Held u8 (length ys) b o γ)) (fsep (fobs γ ((coded_holeys u8).code (heres u8 ys))) (fauth γ ((coded_holeys u8).code (heres u8 ys)))))

  module _ {M : Type 1} {𝓤 : Ura M} (𝓛 : Logic 𝓤) (m : ℕ) (ys : List ℕ) (e : length ys ≡ m) where
    open 𝓛 use {H, A}

    abbrev Lending : GName → SProp 𝓤
    Lending δ = sep 𝓤 (sem 𝓛 (Bytes κ' δ m ys)) (sem 𝓛 (Kept δ ys))

    pub lends : ent 𝓤 (⋆ 𝓛 (‵ (Bytes κ γ m ys) ∷ ‵ (flft κ q) ∷ [])) (H.⇛ (ex 𝓤 Lending))
    lends =
        qed 𝓛 (‵ (Bytes κ γ m ys) ∷ ‵ (flft κ q) ∷ []) ∵ updating ! $ fsplit ! $ pure_l ! (mut_slice_at u8 (under γ ys) (spelt m)) (λ p. fsplit ! $
        -- the walk's borrow is opened, and what lies in it is lent
        opens_slice ! tt u8 ys b o $ use1 𝓛 (‵ (cells (mem u8) ys b o)) (whole_in 𝓛 u8 ys b o) $
        use1 𝓛 (later (some (λ (δ : GName). ‵ (Bytes κ' δ (length ys) ys) ⊛ ‵ (flent κ' (Held u8 (length ys) b o δ))))) (lends_slice 𝓛 u8 erased κ' ys b o p.1) $ await ! tt $ pick ! (λ δ. split ! $
        rewrite ! 0 (λ (k : ℕ). ‵ (Bytes κ' δ k ys)) e refl $ at_once ! $ show ! Lending δ $ frame ! $
        move ! (2 ∷ 3 ∷ []) $ fjoin ! $ move ! (2 ∷ 0 ∷ []) $ fjoin ! $ move ! (1 ∷ 0 ∷ []) $ fjoin ! $ done !))

    pub comes_back : (δ : GName) (zs : List ℕ) → Room u8 m → length zs ≡ length ys → ent 𝓤 (⋆ 𝓛 (‵ (fdead κ') ∷ ‵ (Kept δ ys) ∷ ‵ (finally u8 δ zs) ∷ [])) (H.⇛ (sep 𝓤 (sem 𝓛 (Bytes κ γ m zs)) (A.lft κ q)))
    comes_back δ zs room l =
        qed 𝓛 (‵ (fdead κ') ∷ ‵ (Kept δ ys) ∷ ‵ (finally u8 δ zs) ∷ []) ∵ updating ! $ move ! (1 ∷ []) $ fsplit ! $ move ! (2 ∷ 0 ∷ 3 ∷ []) $
        use3 𝓛 (later (‵ ((Arr (mem u8) (length ys)).own_at zs b o))) (slice_back 𝓛 u8 κ' δ zs (length ys) b o) $ await ! tt $ fsplit ! $ drop ! $ use1 𝓛 (‵ (row u8 full_share zs b o)) (whole_out 𝓛 u8 zs b o) $
        -- the walk's borrow is closed over what lies there now
        move ! (1 ∷ []) $ fsplit ! $ move ! (1 ∷ []) $ fsplit ! $ move ! (3 ∷ 2 ∷ 0 ∷ 1 ∷ []) $ closes_slice ! tt u8 ys zs l b o $ at_once ! $
        fjoin ! $ pure_i ! (mut_slice_at u8 (under γ zs) (spelt m)) (tt, (tt, tt)) (ap spelt (sym (l ∙ e)), subst (Room u8) (sym (l ∙ e)) room) $ fjoin ! $ done !
