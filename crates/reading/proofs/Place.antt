-- The place at which a text leaves a shape: how a program comes by it, and that there is one only. For every shape.
-- Assumes nothing.
use mathlib.Core.List.{List, [], ◌∷◌, ◌++◌, append_assoc, append-nil}
use mathlib.Core.Path.{◌≡◌, sym, ◌∙◌, subst}
use Prim.Native.Nat.{ℕ, suc, ◌<◌}
use native.Mathlib.Decide.{dec_le}
use native.Mathlib.Numerals.{add-one}
use native.Mathlib.Omega.{arith}
use lib.ListN.{length, take, drop, length-append, take-append-drop}
use lib.Seq.{take-append-le, take-append-add, append_snoc}
use Rattle.reading.specs.Form.{Shape, HasShape, Begins, Place}

-- what stands next, if anything does, is not what may follow
abbrev pub Misses : (ℕ → Type 0) → List ℕ → Type 0
Misses P [] = Unit
Misses P (c ∷ v) = P c → ⊥

module _ (S : Shape) where
  -- what begins a text of the shape does so from its first byte on
  pub front : (a b : List ℕ) → Begins S (a ++ b) → Begins S a
  front a b B = (b ++ B.0, (B.1.0, record { shaped = B.1.1.shaped; text = sym (append_assoc a b B.0) ∙ B.1.1.text }))

  early : (j : ℕ) (t : List ℕ) → Begins S t → Begins S (take j t)
  early j t B = front (take j t) (drop j t) (subst (Begins S) (sym (take-append-drop j t)) B)

  -- a text of the shape begins itself
  pub shape-begins : (t : List ℕ) → HasShape S t → Begins S t
  shape-begins t H = ([], subst (HasShape S) (sym (append-nil t)) H)

  -- the bytes a begin such a text, and with c behind them they begin none
  pub place_at : (a : List ℕ) (c : ℕ) (r : List ℕ) → Begins S a → (Begins S (a ++ (c ∷ [])) → ⊥) → Place S (a ++ c ∷ r) (length a)
  place_at a c r B f = record {
    not = λ H. f (r, subst (HasShape S) (sym (append_snoc a c r)) H);
    inside = rw (length-append a (c ∷ r)) (omega arith);
    before = λ j h. subst (Begins S) (sym (take-append-le (suc j) a (c ∷ r) h)) (early (suc j) a B);
    here = λ h C. f (subst (Begins S) up_to C);
  }
    where
      up_to : take (suc (length a)) (a ++ c ∷ r) ≡ a ++ (c ∷ [])
      up_to = rw (← add-one (length a)) (take-append-add a (c ∷ r) 1)

  -- t begins such a text and is none
  pub place_end : (t : List ℕ) → Begins S t → (HasShape S t → ⊥) → Place S t (length t)
  place_end t B f = record { not = f; inside = omega arith; before = λ j h. early (suc j) t B; here = λ h. absurd (omega arith) }

  -- the bytes a begin such a text, what follows may not follow, and nothing is one without what may
  pub place-misses : (a u : List ℕ) (P : ℕ → Type 0) → Begins S a → Misses P u → ((v : List ℕ) → Misses P v → HasShape S (a ++ v) → ⊥) → Place S (a ++ u) (length a)
  place-misses a [] P B h f = subst (λ (l : List ℕ). Place S l (length a)) (sym (append-nil a)) (place_end a B (λ H. f [] tt (subst (HasShape S) (sym (append-nil a)) H)))
  place-misses a (c ∷ r) P B h f = place_at a c r B (λ C. f (c ∷ C.0) h (subst (HasShape S) (append_snoc a c C.0) C.1))

  not-less : (t : List ℕ) (j k : ℕ) → Place S t j → Place S t k → j < k → ⊥
  not-less t j k p q h = p.here (omega (arith, q.inside)) (q.before j h)

  pub one_place : (t : List ℕ) (j k : ℕ) → Place S t j → Place S t k → j ≡ k
  one_place t j k p q = go (dec_le (suc j) k) (dec_le (suc k) j)
    where
      go : Dec (j < k) → Dec (k < j) → j ≡ k
      go (yes h) d = absurd (not-less t j k p q h)
      go (no g) (yes h) = absurd (not-less t k j q p h)
      go (no g) (no h) = omega arith
