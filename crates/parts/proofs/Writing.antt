-- What a writer of parts keeps from part to part while it writes them right to left: the text of the parts that are left completes the buffer.
-- Assumes nothing.
use mathlib.Core.Path.{◌≡◌, refl, sym, ap, ◌∙◌}
use mathlib.Core.Bool.{false}
use mathlib.Core.List.{List, [], ◌∷◌, ◌++◌, append_assoc, append-nil}
use Prim.Native.Nat.{ℕ, ◌-◌, ◌≤◌}
use lib.ListN.{length, set}
use native.Mathlib.Omega.{arith}
use Rattle.buffer.specs.AtEnd.{ended}
use Rattle.buffer.proofs.AtEnd.{ended-done, ended-sets}
use Rattle.buffer.proofs.Left.{Left, left-start, left-room, left_ended}
use Rattle.parts.specs.Parts.{sign_text, part_text, parts_text, text_of, leaves_source, Inside, part_length, true_length}
use Rattle.parts.specs.declared.Part.{Part}
use Rattle.parts.specs.declared.Sign.{Sign}
use Rattle.parts.proofs.Text.{length_part, length-text}

-- nothing, or one byte, is written before an end
pub ended_nothing : (l : List ℕ) (e : ℕ) → ended l e [] ≡ l
ended_nothing l e = ended-done l e

pub ended_byte : (l : List ℕ) (e x : ℕ) → 1 ≤ e → e ≤ length l → set l (e - 1) x ≡ ended l e (x ∷ [])
ended_byte l e x h k = ended-sets l (e - 1) e (x ∷ []) (omega arith) k

-- Of the parts `all`, which are to end at the index end of out₀, those of ps are left: they are to end at the index at of out.
abbrev pub Rest : Sign → List ℕ → List ℕ → ℕ → List Part → List Part → ℕ → List ℕ → Type 0
Rest sign src out₀ end all ps at out = Left out₀ end (text_of sign src all) (text_of sign src ps) at out

pub rest-start : (sign : Sign) (src out : List ℕ) (end : ℕ) (all : List Part) → Inside (length src) all → true_length sign all ≤ end → end ≤ length out → Rest sign src out end all all end out
rest-start sign src out end all i h k = left-start out end (text_of sign src all) (text_of sign src all) refl (rw (length-text sign src all i) h) k

parts-snoc : (src : List ℕ) (ps : List Part) (p : Part) → parts_text src (ps ++ (p ∷ [])) ≡ parts_text src ps ++ part_text src p
unfolding parts_text
parts-snoc src [] p = append-nil (part_text src p)
parts-snoc src (q ∷ ps) p = ap (λ (l : List ℕ). part_text src q ++ l) (parts-snoc src ps p) ∙ sym (append_assoc (part_text src q) (parts_text src ps) (part_text src p))

text-snoc : (sign : Sign) (src : List ℕ) (ps : List Part) (p : Part) → text_of sign src (ps ++ (p ∷ [])) ≡ text_of sign src ps ++ part_text src p
unfolding text_of
text-snoc sign src ps p = ap (λ (l : List ℕ). sign_text sign ++ l) (parts-snoc src ps p) ∙ sym (append_assoc (sign_text sign) (parts_text src ps) (part_text src p))

module _ (sign : Sign) (src : List ℕ) {out₀ : List ℕ} {end : ℕ} (all ps : List Part) (p : Part) {at : ℕ} {out : List ℕ} (L : Rest sign src out₀ end all (ps ++ (p ∷ [])) at out) (i : leaves_source (length src) p ≡ false) where
  -- the last of the parts that are left has room
  pub rest-room : part_length p ≤ at
  rest-room = rw (← length_part src p i) (left-room L (text_of sign src ps) (part_text src p) (text-snoc sign src ps p))

  -- and is written
  pub rest-step : {r : ℕ} {out' : List ℕ} → r ≡ at - part_length p → out' ≡ ended out at (part_text src p) → Rest sign src out₀ end all ps r out'
  rest-step {r} {out'} e f = rw (e, f, ← length_part src p i) (left_ended L (text_of sign src ps) (part_text src p) (text-snoc sign src ps p))

text-none : (sign : Sign) (src : List ℕ) → text_of sign src [] ≡ sign_text sign
unfolding text_of parts_text
text-none sign src = append-nil (sign_text sign)

module _ (sign : Sign) (src : List ℕ) {out₀ : List ℕ} {end : ℕ} (all : List Part) {at : ℕ} {out : List ℕ} (L : Rest sign src out₀ end all [] at out) where
  -- no part is left: the sign has room
  pub rest-sign-room : length (sign_text sign) ≤ at
  rest-sign-room = rw (← text-none sign src) L.room

  -- and is written
  pub rest-sign : {r : ℕ} {out' : List ℕ} → Inside (length src) all → r ≡ at - length (sign_text sign) → out' ≡ ended out at (sign_text sign) → (r ≡ end - true_length sign all) × (out' ≡ ended out₀ end (text_of sign src all))
  rest-sign i e f = (e ∙ rw (← length-text sign src all i, ← text-none sign src) L.start, f ∙ rw (← text-none sign src) L.goal)
