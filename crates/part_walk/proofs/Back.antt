-- A turn of the loop that writes the parts from the last to the first: the last of the parts that are left is written.
-- Assumes nothing.
use mathlib.Core.Path.{◌≡◌, refl}
use mathlib.Core.Bool.{false}
use mathlib.Core.List.{List, [], ◌∷◌, ◌++◌}
use Prim.Native.Nat.{ℕ, ◌-◌, ◌≤◌}
use native.Mathlib.Omega.{arith}
use lib.ListN.{length}
use Rattle.buffer.specs.AtEnd.{ended}
use Rattle.parts.specs.Parts.{sign_text, part_text, text_of, leaves_source, Inside, part_length, true_length}
use Rattle.parts.specs.declared.Part.{Part}
use Rattle.parts.specs.declared.Sign.{Sign}
use Rattle.parts.proofs.Writing.{Rest, rest-start, rest-room, rest-step, rest-sign-room, rest-sign}

-- what leaves its source is no part in front, and not the last
inside-last : (n : ℕ) (ps : List Part) (p : Part) → Inside n (ps ++ (p ∷ [])) → Inside n ps × (leaves_source n p ≡ false)
unfolding Inside
inside-last n [] p h = (tt, h.0)
inside-last n (q ∷ ps) p h = let r = inside-last n ps p h.1 in ((h.0, r.0), r.1)

-- the parts ps of xs are left to write just before the index at of zs
pub record Turn (sign : Sign) (src out : List ℕ) (end : ℕ) (xs ps : List Part) (at : ℕ) (zs : List ℕ) : Type 0 where
  pub inside : Inside (length src) ps
  pub rest : Rest sign src out end xs ps at zs

empty : (ps : List Part) → length ps ≡ 0 → ps ≡ []
empty [] e = refl
empty (p ∷ ps) e = absurd (omega arith)

-- before the first turn all are
pub start : (sign : Sign) (src out : List ℕ) (end : ℕ) (xs : List Part) {ps : List Part} → ps ≡ xs → Inside (length src) xs → true_length sign xs ≤ end → end ≤ length out → Turn sign src out end xs ps end out
start sign src out end xs e inside h k = rw e (record { inside = inside; rest = rest-start sign src out end xs inside h k })

module _ {sign : Sign} {src out : List ℕ} {end : ℕ} {xs ls : List Part} {at : ℕ} {zs : List ℕ} (t : Turn sign src out end xs ls at zs) where
  module _ (ps : List Part) (p : Part) (e : ls ≡ ps ++ (p ∷ [])) where
    open_turn : Turn sign src out end xs (ps ++ (p ∷ [])) at zs
    open_turn = rw e at t

    stays : Inside (length src) ps × (leaves_source (length src) p ≡ false)
    stays = inside-last (length src) ps p open_turn.inside

    -- what a part's writer asks
    pub here-room : (leaves_source (length src) p ≡ false) × (part_length p ≤ at) × (at ≤ length zs)
    here-room = (stays.1, rest-room sign src xs ps p open_turn.rest stays.1, t.rest.within)

    -- what is left once the part is written, and so the turn after t
    pub rest-next : {r : ℕ} {zs' : List ℕ} → (r ≡ at - part_length p) × (zs' ≡ ended zs at (part_text src p)) → Rest sign src out end xs ps r zs'
    rest-next w = rest-step sign src xs ps p open_turn.rest stays.1 w.0 w.1

    pub next : {r : ℕ} {zs' : List ℕ} → (r ≡ at - part_length p) × (zs' ≡ ended zs at (part_text src p)) → Turn sign src out end xs ps r zs'
    next w = record { inside = stays.0; rest = rest-next w }

  module _ (e : length ls ≡ 0) where
    none_left : Rest sign src out end xs [] at zs
    none_left = rw (empty ls e) at t.rest

    -- what the sign's writer asks, where no part is left
    pub sign-room : (length (sign_text sign) ≤ at) × (at ≤ length zs)
    sign-room = (rest-sign-room sign src xs none_left, t.rest.within)

    -- the whole text, once the sign is written behind no part
    pub all-written : Inside (length src) xs → {r : ℕ} {zs' : List ℕ} → (r ≡ at - length (sign_text sign)) × (zs' ≡ ended zs at (sign_text sign)) → (r ≡ end - true_length sign xs) × (zs' ≡ ended out end (text_of sign src xs))
    all-written i w = rest-sign sign src xs none_left i w.0 w.1
