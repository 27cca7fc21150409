-- Of a faithful format: the accepted texts are exactly the plain texts of values, each with its value; and no text is found two things of.
-- Assumes nothing.
use mathlib.Core.Bool.{Bool, true}
use mathlib.Core.List.{List}
use mathlib.Core.Path.{◌≡◌, refl, sym, ap, ◌∙◌, subst}
use Prim.Native.Nat.{ℕ}
use lib.IntN.{ℤ}
use Rattle.kinds.specs.Kinds.{is_in_type, pattern}
use Rattle.reading.specs.Form.{Form, Reads}
use Rattle.reading.specs.Judged.{NotCanonical, OutOfRange, Accepted}
use Rattle.reading.proofs.Faithful.{Faithful}

module _ (F : Form) (sgn : Bool) (bits : ℕ) (texts : ℤ → List ℕ) (H : Faithful F sgn bits texts) where
  -- reading the plain text of a value gives back the value
  pub plain-accepted : (word : ℕ) (z : ℤ) → is_in_type sgn bits z ≡ true → Accepted F sgn bits word (texts z) (pattern word z)
  plain-accepted word z p =
      let Q = H.from z p in
      record { parts = Q.0; reads = record { shaped = Q.1; text = Q.4 }; canonical = Q.2; number = z; inside = p; stands = Q.3; pattern = refl }

  -- an accepted text is the plain text of the value that is answered
  pub accepted-plain : {word : ℕ} {t : List ℕ} {v : ℕ} → Accepted F sgn bits word t v → (z : ℤ) × (is_in_type sgn bits z ≡ true) × (t ≡ texts z) × (v ≡ pattern word z)
  accepted-plain A = (A.number, A.inside, A.reads.text ∙ H.to A.parts A.number A.inside A.reads.shaped A.canonical A.stands, A.pattern)

  -- ---- a text has one reading, and so one answer

  same_parts : {t : List ℕ} {x y : F.shape.Parts} → Reads F.shape t x → Reads F.shape t y → x ≡ y
  same_parts {t} {x} {y} R Q = H.once x y R.shaped Q.shaped (sym R.text ∙ Q.text)

  pub one_value : {word : ℕ} {t : List ℕ} {v w : ℕ} → Accepted F sgn bits word t v → Accepted F sgn bits word t w → v ≡ w
  one_value {word} A B =
      let s = subst (λ (x : F.shape.Parts). F.Stands x B.number) (same_parts B.reads A.reads) B.stands in
      A.pattern ∙ ap (pattern word) (H.alone A.parts A.number B.number A.inside B.inside A.stands s) ∙ sym B.pattern

  pub not-both : {t : List ℕ} {x : F.shape.Parts} → Reads F.shape t x → F.Canonical x → NotCanonical F t → ⊥
  not-both R K N = N.broken (subst F.Canonical (same_parts R N.reads) K)

  pub not-outside : {word : ℕ} {t : List ℕ} {v : ℕ} → Accepted F sgn bits word t v → OutOfRange F sgn bits t → ⊥
  not-outside A O = O.outside A.number A.inside (subst (λ (x : F.shape.Parts). F.Stands x A.number) (same_parts A.reads O.reads) A.stands)
