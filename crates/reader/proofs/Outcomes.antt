-- The promise of `read`: one outcome keeps it, reading the plain text of a value gives back the value, and the accepted texts are exactly the plain ones.
-- Assumes nothing.
use Rattle.std.specs.Prelude.{Ok, Err}
use mathlib.Core.Bool.{Bool, true, false, false≢true}
use mathlib.Core.List.{List, []}
use mathlib.Core.Path.{◌≡◌, refl, sym, ap, ◌∙◌, subst}
use Prim.Native.Nat.{ℕ, ◌≤◌, ◌<◌}
use native.Mathlib.Nat.{lt_of_le_of_lt}
use native.Mathlib.Omega.{arith}
use lib.Dec.{lit<, lit≤}
use lib.IntN.{ℤ}
use lib.ListN.{length}
use lib.Pow.{pow_mono}
use Rattle.formats.specs.Formats.{letter_from, numeral_code, exponent_code}
use Rattle.formats.specs.declared.Case.{Case}
use Rattle.formats.specs.declared.Case.TheVariants.{Lower, Upper}
use Rattle.formats.specs.declared.Numeral.TheVariants.{Hex}
use Rattle.kinds.specs.Kinds.{known, is_in_type, pattern}
use Rattle.kinds.proofs.Sizes.{known-range}
use Rattle.reading.specs.Form.{Form}
use Rattle.radix.specs.Radix.{digit_byte, lower}
use Rattle.reading.specs.Formats.{whole, radix_form, exponent_form, form, plain}
use Rattle.reading.proofs.Place.{one_place}
use Rattle.reading.proofs.Faithful.{Faithful, faithful, plain-some}
use Rattle.reading.proofs.Judged.{plain-accepted, accepted-plain, one_value, not-both, not-outside}
use Rattle.kinds.specs.declared.Split.{Split}
use Rattle.outcomes.specs.Found.{IsNumber}
use Rattle.whole_texts.specs.Wholes.{wholes}
use Rattle.reader.specs.Answers.{Judges, Passes, Answers}
use Rattle.outcomes.specs.Outcomes.{Outcome, number_of, value_outcome, pattern_outcome}
use Rattle.outcomes.specs.declared.Fault.TheVariants as fault
use Rattle.reader.proofs.Answers.{decimals, held, radix-held}

module _ (sgn : Bool) (bits code : ℕ) (t : List ℕ) where
  -- what passes the first three checks is answered by what is found of the text
  pub passed : (r : Outcome) → known bits ≡ true → code ≤ 6 → 0 < length t → Judges (form sgn bits code) sgn bits t r → Answers sgn bits code t r
  passed (Ok v) k c s j = record { type = k; format = c; some = s; judges = j }
  passed (Err fault.Type) k c s j = absurd j
  passed (Err fault.Options) k c s j = absurd j
  passed (Err fault.Empty) k c s j = absurd j
  passed (Err (fault.Shape i)) k c s j = record { type = k; format = c; some = s; judges = j }
  passed (Err fault.NotCanonical) k c s j = record { type = k; format = c; some = s; judges = j }
  passed (Err fault.Range) k c s j = record { type = k; format = c; some = s; judges = j }

-- the format by its code
pub at_code : (sgn : Bool) (bits : ℕ) (t : List ℕ) (r : Outcome) (k code : ℕ) → code ≡ k → Judges (form sgn bits k) sgn bits t r → Judges (form sgn bits code) sgn bits t r
at_code sgn bits t r k code e j = subst (λ (i : ℕ). Judges (form sgn bits i) sgn bits t r) (sym e) j

-- the value of a hex text
pub hex-held : (sgn : Bool) (bits : ℕ) (t : List ℕ) (letter : ℕ) {v x : ℕ} → known bits ≡ true → 0 < length t → IsNumber (wholes false (digit_byte letter) 16) t (record { negative = false; magnitude = v }) → Ok x ≡ pattern_outcome sgn bits v
    → (known bits ≡ true) × (0 < length t) × Judges (radix_form (digit_byte letter) 16 bits) sgn bits t (Ok x)
hex-held sgn bits t letter k s N e = let b = known-range bits k in (k, s, radix-held sgn bits t b.0 (digit_byte letter) 16 N e)

-- it is the answer to reading it
pub hex-answer : (sgn : Bool) (bits : ℕ) (t : List ℕ) (case : Case) {v : ℕ} → known bits ≡ true → 0 < length t → Judges (radix_form (digit_byte (letter_from case 97)) 16 bits) sgn bits t (Ok v)
    → Answers sgn bits (numeral_code (Hex case)) t (Ok v)
unfolding form
hex-answer sgn bits t Lower {v} k s j = passed sgn bits 3 t (Ok v) k (lit≤ tt) s j
hex-answer sgn bits t Upper {v} k s j = passed sgn bits 4 t (Ok v) k (lit≤ tt) s j

-- an exponent text, by the format of its letter's case
pub exponent-judged : (sgn : Bool) (bits : ℕ) (t : List ℕ) (r : Outcome) (case : Case) → Judges (exponent_form sgn (letter_from case 101)) sgn bits t r → Judges (form sgn bits (exponent_code case)) sgn bits t r
unfolding form
exponent-judged sgn bits t r Lower j = j
exponent-judged sgn bits t r Upper j = j

-- the value of a decimal text is the answer to reading it
pub short-answer : (sgn : Bool) (bits : ℕ) (t : List ℕ) {n : Split} {x : ℕ} → known bits ≡ true → 0 < length t → IsNumber (wholes sgn lower 10) t n → Ok x ≡ value_outcome sgn bits (whole n.negative n.magnitude)
    → Answers sgn bits 0 t (Ok x)
unfolding form
short-answer sgn bits t {x = x} k s N e =
    let b = known-range bits k in
    passed sgn bits 0 t (Ok x) k (lit≤ tt) s (held sgn bits t b.0 b.1 (decimals sgn) N e)

-- ---- one outcome keeps the promise

module _ (F : Form) (sgn : Bool) (bits : ℕ) (texts : ℤ → List ℕ) (H : Faithful F sgn bits texts) (t : List ℕ) where
  one-judged : (r s : Outcome) → Judges F sgn bits t r → Judges F sgn bits t s → r ≡ s
  one-judged (Err fault.Type) s p q = absurd p
  one-judged (Err fault.Options) s p q = absurd p
  one-judged (Err fault.Empty) s p q = absurd p
  one-judged (Ok v) (Err fault.Type) p q = absurd q
  one-judged (Ok v) (Err fault.Options) p q = absurd q
  one-judged (Ok v) (Err fault.Empty) p q = absurd q
  one-judged (Ok v) (Ok w) p q = ap Ok (one_value F sgn bits texts H p q)
  one-judged (Ok v) (Err (fault.Shape k)) p q = absurd (q.not (p.parts, p.reads))
  one-judged (Ok v) (Err fault.NotCanonical) p q = absurd (not-both F sgn bits texts H p.reads p.canonical q)
  one-judged (Ok v) (Err fault.Range) p q = absurd (not-outside F sgn bits texts H p q)
  one-judged (Err (fault.Shape k)) (Err fault.Type) p q = absurd q
  one-judged (Err (fault.Shape k)) (Err fault.Options) p q = absurd q
  one-judged (Err (fault.Shape k)) (Err fault.Empty) p q = absurd q
  one-judged (Err (fault.Shape k)) (Ok w) p q = absurd (p.not (q.parts, q.reads))
  one-judged (Err (fault.Shape k)) (Err (fault.Shape j)) p q = ap (λ (i : ℕ). Err (fault.Shape i)) (one_place F.shape t k j p q)
  one-judged (Err (fault.Shape k)) (Err fault.NotCanonical) p q = absurd (p.not (q.parts, q.reads))
  one-judged (Err (fault.Shape k)) (Err fault.Range) p q = absurd (p.not (q.parts, q.reads))
  one-judged (Err fault.NotCanonical) (Err fault.Type) p q = absurd q
  one-judged (Err fault.NotCanonical) (Err fault.Options) p q = absurd q
  one-judged (Err fault.NotCanonical) (Err fault.Empty) p q = absurd q
  one-judged (Err fault.NotCanonical) (Ok w) p q = absurd (not-both F sgn bits texts H q.reads q.canonical p)
  one-judged (Err fault.NotCanonical) (Err (fault.Shape j)) p q = absurd (q.not (p.parts, p.reads))
  one-judged (Err fault.NotCanonical) (Err fault.NotCanonical) p q = refl
  one-judged (Err fault.NotCanonical) (Err fault.Range) p q = absurd (not-both F sgn bits texts H q.reads q.canonical p)
  one-judged (Err fault.Range) (Err fault.Type) p q = absurd q
  one-judged (Err fault.Range) (Err fault.Options) p q = absurd q
  one-judged (Err fault.Range) (Err fault.Empty) p q = absurd q
  one-judged (Err fault.Range) (Ok w) p q = absurd (not-outside F sgn bits texts H q p)
  one-judged (Err fault.Range) (Err (fault.Shape j)) p q = absurd (q.not (p.parts, p.reads))
  one-judged (Err fault.Range) (Err fault.NotCanonical) p q = absurd (not-both F sgn bits texts H p.reads p.canonical q)
  one-judged (Err fault.Range) (Err fault.Range) p q = refl

module _ (sgn : Bool) (bits code : ℕ) (t : List ℕ) where
  -- what is answered where a check before those of the text fails
  type-first : (s : Outcome) → known bits ≡ false → Answers sgn bits code t s → (Err fault.Type) ≡ s
  type-first (Err fault.Type) e q = refl
  type-first (Err fault.Options) e q = absurd (false≢true (sym e ∙ q.0))
  type-first (Err fault.Empty) e q = absurd (false≢true (sym e ∙ q.0))
  type-first (Err (fault.Shape k)) e q = absurd (false≢true (sym e ∙ q.type))
  type-first (Err fault.NotCanonical) e q = absurd (false≢true (sym e ∙ q.type))
  type-first (Err fault.Range) e q = absurd (false≢true (sym e ∙ q.type))
  type-first (Ok v) e q = absurd (false≢true (sym e ∙ q.type))

  format-next : (s : Outcome) → known bits ≡ true → 6 < code → Answers sgn bits code t s → (Err fault.Options) ≡ s
  format-next (Err fault.Type) e h q = absurd (false≢true (sym q ∙ e))
  format-next (Err fault.Options) e h q = refl
  format-next (Err fault.Empty) e h q = absurd (omega (arith, q.1))
  format-next (Err (fault.Shape k)) e h q = absurd (omega (arith, q.format))
  format-next (Err fault.NotCanonical) e h q = absurd (omega (arith, q.format))
  format-next (Err fault.Range) e h q = absurd (omega (arith, q.format))
  format-next (Ok v) e h q = absurd (omega (arith, q.format))

  empty-next : (s : Outcome) → known bits ≡ true → code ≤ 6 → t ≡ [] → Answers sgn bits code t s → (Err fault.Empty) ≡ s
  empty-next (Err fault.Type) e h z q = absurd (false≢true (sym q ∙ e))
  empty-next (Err fault.Options) e h z q = absurd (omega (arith, q.1))
  empty-next (Err fault.Empty) e h z q = refl
  empty-next (Err (fault.Shape k)) e h z q = absurd (omega (arith, q.some, ap length z))
  empty-next (Err fault.NotCanonical) e h z q = absurd (omega (arith, q.some, ap length z))
  empty-next (Err fault.Range) e h z q = absurd (omega (arith, q.some, ap length z))
  empty-next (Ok v) e h z q = absurd (omega (arith, q.some, ap length z))

  -- and where they pass
  text-last : (s : Outcome) → known bits ≡ true → code ≤ 6 → 0 < length t → Answers sgn bits code t s → Judges (form sgn bits code) sgn bits t s
  text-last (Err fault.Type) e h k q = absurd (false≢true (sym q ∙ e))
  text-last (Err fault.Options) e h k q = absurd (omega (arith, q.1))
  text-last (Err fault.Empty) e h k q = absurd (omega (arith, ap length q.2))
  text-last (Err (fault.Shape j)) e h k q = q.judges
  text-last (Err fault.NotCanonical) e h k q = q.judges
  text-last (Err fault.Range) e h k q = q.judges
  text-last (Ok v) e h k q = q.judges

-- every format is faithful in a known type
pub known-faithful : (sgn : Bool) (bits code : ℕ) → known bits ≡ true → Faithful (form sgn bits code) sgn bits (plain bits code)
known-faithful sgn bits code e =
    let k = known-range bits e in
    faithful sgn bits code k.0 (lt_of_le_of_lt (pow_mono {i = bits} {j = 64} k.1) (lit< tt))

module _ (sgn : Bool) (bits code : ℕ) (t : List ℕ) where
  both-judged : (r s : Outcome) → Passes sgn bits code t r → Answers sgn bits code t s → r ≡ s
  both-judged r s p q =
      one-judged (form sgn bits code) sgn bits (plain bits code) (known-faithful sgn bits code p.type) t r s p.judges
      (text-last sgn bits code t s p.type p.format p.some q)

  -- two outcomes that keep the promise are one
  pub one_answer : (r s : Outcome) → Answers sgn bits code t r → Answers sgn bits code t s → r ≡ s
  one_answer (Err fault.Type) s p q = type-first sgn bits code t s p q
  one_answer (Err fault.Options) s p q = format-next sgn bits code t s p.0 p.1 q
  one_answer (Err fault.Empty) s p q = empty-next sgn bits code t s p.0 p.1 p.2 q
  one_answer (Err (fault.Shape k)) s p q = both-judged (Err (fault.Shape k)) s p q
  one_answer (Err fault.NotCanonical) s p q = both-judged (Err fault.NotCanonical) s p q
  one_answer (Err fault.Range) s p q = both-judged (Err fault.Range) s p q
  one_answer (Ok v) s p q = both-judged (Ok v) s p q

-- ---- accepted texts are the plain texts

module _ (sgn : Bool) (bits code : ℕ) (type : known bits ≡ true) (format : code ≤ 6) where
  -- reading the plain text of a value gives back the value, as a 64-bit pattern
  pub read_plain : (z : ℤ) → is_in_type sgn bits z ≡ true → Answers sgn bits code (plain bits code z) (Ok (pattern 64 z))
  read_plain z p = record {
    type = type;
    format = format;
    some = plain-some bits code z;
    judges = plain-accepted (form sgn bits code) sgn bits (plain bits code) (known-faithful sgn bits code type) 64 z p;
  }

  pub read_back : (z : ℤ) (r : Outcome) → is_in_type sgn bits z ≡ true → Answers sgn bits code (plain bits code z) r → r ≡ Ok (pattern 64 z)
  read_back z r p q = one_answer sgn bits code (plain bits code z) r (Ok (pattern 64 z)) q (read_plain z p)

  -- what is accepted is the plain text of the value that is answered
  pub read_only : (t : List ℕ) (v : ℕ) → Answers sgn bits code t (Ok v) → (z : ℤ) × (is_in_type sgn bits z ≡ true) × (t ≡ plain bits code z) × (v ≡ pattern 64 z)
  read_only t v q = accepted-plain (form sgn bits code) sgn bits (plain bits code) (known-faithful sgn bits code type) q.judges

  -- a text that no value of the type has is refused
  pub read-refused : (t : List ℕ) (r : Outcome) → ((z : ℤ) → is_in_type sgn bits z ≡ true → t ≡ plain bits code z → ⊥) → Answers sgn bits code t r → number_of r ≡ 0 → ⊥
  read-refused t (Ok v) f q n = let z = read_only t v q in f z.0 z.1 z.2
  read-refused t (Err fault.Empty) f q n = omega arith
  read-refused t (Err (fault.Shape k)) f q n = omega arith
  read-refused t (Err fault.NotCanonical) f q n = omega arith
  read-refused t (Err fault.Range) f q n = omega arith
  read-refused t (Err fault.Type) f q n = omega arith
  read-refused t (Err fault.Options) f q n = omega arith
