-- Two answers that meet the promise of a public entry are equal, and so is what they leave: for each entry.
use Rattle.std.specs.Prelude.{◌≡◌, ℕ, Bool, List, length, ℤ}
use Rattle.decimal.specs.Ends.{EndPromise}
use Rattle.digits.specs.Text.{decimal, signed}
use Rattle.edge.specs.Edge as edge
use Rattle.kinds.specs.Kinds.{meaning, BufSize}
use Rattle.outcomes.specs.Outcomes.{Outcome}
use Rattle.part_answers.specs.Answers as parting
use Rattle.parts.specs.declared.Part.{Part}
use Rattle.parts.specs.declared.Sign.{Sign}
use Rattle.reader.specs.Answers.{Answers}
use Rattle.writing.specs.Text.{text_of}
use Rattle.writing.specs.Promise.{Written, answer_of, answer, house, Writes}
use Rattle.writing.specs.declared.Options.{Options}

-- A promise of an answer r and of the memory m that is left has one answer.
abbrev pub One : {R M : Type 0} → (R → M → Type 0) → Type 0
One {R} {M} P = (r s : R) (m n : M) → P r m → P s n → (r ≡ s) × (m ≡ n)

pub record OneAnswer : Type 0 where
  -- writer::write, write_short; by_type::write_u8 to write_i64
  pub write : (signed : Bool) (bits p format : ℕ) (o : Options) (l : List ℕ) → One (λ (r : Written) (m : List ℕ). Writes (text_of bits (meaning 64 signed p) format o) (answer signed bits p format o (length l)) l r m)
  pub write-short : (signed : Bool) (bits p format : ℕ) (l : List ℕ) → One (λ (r : Written) (m : List ℕ). Writes (text_of bits (meaning 64 signed p) format house) (answer signed bits p format house (length l)) l r m)
  pub write-by-type : (bits : ℕ) (z : ℤ) (format : ℕ) (o : Options) (l : List ℕ) → One (λ (r : Written) (m : List ℕ). Writes (text_of bits z format o) (answer_of bits z format o (length l)) l r m)
  -- reader::read, which is lent nothing to write
  pub read : (sgn : Bool) (bits format : ℕ) (t : List ℕ) (r s : Outcome) → Answers sgn bits format t r → Answers sgn bits format t s → r ≡ s
  -- end_at of decimal::Number, for u64 and i64
  pub end-unsigned : (n : ℕ) (l : List ℕ) → One (λ (r : ℕ) (m : List ℕ). EndPromise (decimal n) l r m)
  pub end-signed : (z : ℤ) (l : List ℕ) → One (λ (r : ℕ) (m : List ℕ). EndPromise (signed z) l r m)
  -- parts: Formatted::write, part_list::write, twelve_parts::write; Formatted::length, part_scan::length and twelve_parts::length promise an equation
  pub parts : (sign : Sign) (ps : List Part) (src out : List ℕ) → One (λ (r : parting.Answer) (m : List ℕ). parting.Writes sign ps src out r m)
  -- the C edge: lgv_write, lgv_write_short; lgv_read. Its end entries are decimal's
  pub edge-write : (t : List ℕ) (a : Written) (l : List ℕ) (n v k w : ℕ) (m m' : List ℕ) → edge.Answers t a l n v m → edge.Answers t a l k w m' → (n ≡ k) × (v ≡ w) × (m ≡ m')
  pub edge-read : (sgn : Bool) (bits format : ℕ) (t : List ℕ) (n v k w : ℕ) → edge.Reads sgn bits format t n v → edge.Reads sgn bits format t k w → (n ≡ k) × (v ≡ w)
  -- kinds::Kind::buf_size
  pub size : (sgn : Bool) (bits m n : ℕ) → BufSize sgn bits m → BufSize sgn bits n → m ≡ n
