-- The one answer to reading a text, in document 01's order 5, 6 (format only), 1, 2, 3, 4.
use Rattle.std.specs.Prelude.{Bool, true, false, Option, IfSome, Ok, Err, List, [], ◌≡◌, ℕ, ◌≤◌, ◌<◌, length}
use Rattle.kinds.specs.Kinds.{known}
use Rattle.reading.specs.Form.{Form, Place}
use Rattle.reading.specs.Formats.{form}
use Rattle.reading.specs.Judged as judged
use Rattle.outcomes.specs.Outcomes.{Outcome}
use Rattle.outcomes.specs.declared.Fault.TheVariants as fault

-- What is answered of a text that is not empty, in a format.
abbrev pub Judges : Form → Bool → ℕ → List ℕ → Outcome → Type 0
Judges F sgn bits t (Ok v) = judged.Accepted F sgn bits 64 t v
Judges F sgn bits t (Err fault.Type) = ⊥
Judges F sgn bits t (Err fault.Options) = ⊥
Judges F sgn bits t (Err fault.Empty) = ⊥
Judges F sgn bits t (Err (fault.Shape k)) = Place F.shape t k
Judges F sgn bits t (Err fault.NotCanonical) = judged.NotCanonical F t
Judges F sgn bits t (Err fault.Range) = judged.OutOfRange F sgn bits t

-- The type is known, the format is known, and the text is not empty.
pub record Passes (sgn : Bool) (bits code : ℕ) (t : List ℕ) (r : Outcome) : Type 0 where
  pub type : known bits ≡ true
  pub format : code ≤ 6
  pub some : 0 < length t
  pub judges : Judges (form sgn bits code) sgn bits t r

-- The answer to reading t, a text of the format with that code, as a value of the type.
abbrev pub Answers : Bool → ℕ → ℕ → List ℕ → Outcome → Type 0
Answers sgn bits format t (Err fault.Type) = known bits ≡ false
Answers sgn bits format t (Err fault.Options) = (known bits ≡ true) × (6 < format)
Answers sgn bits format t (Err fault.Empty) = (known bits ≡ true) × (format ≤ 6) × (t ≡ [])
Answers sgn bits format t (Err (fault.Shape k)) = Passes sgn bits format t (Err (fault.Shape k))
Answers sgn bits format t (Err fault.NotCanonical) = Passes sgn bits format t (Err fault.NotCanonical)
Answers sgn bits format t (Err fault.Range) = Passes sgn bits format t (Err fault.Range)
Answers sgn bits format t (Ok v) = Passes sgn bits format t (Ok v)

-- Where there is a value, it is the answer to reading t.
abbrev pub Told : Bool → ℕ → ℕ → List ℕ → Option ℕ → Type 0
Told sgn bits format t r = IfSome r (λ v. Answers sgn bits format t (Ok v))
