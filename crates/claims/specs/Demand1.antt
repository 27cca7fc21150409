-- Demand 1, of what an entry answers and of every lent byte. That each call ends and stays inside lent memory is what the check shows of every function.
use Rattle.std.specs.Prelude.{◌≡◌, ℕ, ◌-◌, ◌<◌, ◌≤◌, Bool, true, false, ◌&&◌, leb, ◌↔◌, List, ◌∷◌, ◌++◌, length, ℤ, ◌≢◌}
use Rattle.buffer.specs.AtEnd.{ended, begun}
use Rattle.decimal.specs.Ends.{EndPromise}
use Rattle.digits.specs.Text.{decimal, signed}
use Rattle.edge.specs.Edge as edge
use Rattle.kinds.specs.Kinds.{known, is_in_type, meaning}
use Rattle.part_answers.specs.Answers as parting
use Rattle.part_answers.specs.Answers.{Answer, measured, number_of, value_of}
use Rattle.parts.specs.Parts as parts
use Rattle.parts.specs.Parts.{known_part, all_known, leaves_source, Inside, held}
use Rattle.parts.specs.declared.Part.{Part}
use Rattle.parts.specs.declared.Sign.{Sign}
use Rattle.writing.specs.Text.{text_of}
use Rattle.writing.specs.Promise.{Written, known_options, exponent_kept, number, value, answer_of, answer, Writes}
use Rattle.writing.specs.declared.Options.{Options}

-- n is the number of the answer to a call for the text t in the buffer l, v what it returns, and l' the buffer afterwards.
-- Earlier says that no check before NO_ROOM refuses; `told` is how a length is told.
pub record Demand1 (Earlier : Type 0) (told : ℕ → ℕ) (t l : List ℕ) (n v : ℕ) (l' : List ℕ) : Type 0 where
  -- NO_ROOM exactly when no earlier check refuses and the text is longer than the buffer
  pub no-room-when : Earlier → length l < length t → n ≡ 8
  pub no-room-only : n ≡ 8 → Earlier × (length l < length t)
  -- it returns the needed length
  pub needed : n ≡ 8 → v ≡ told (length t)
  -- DONE exactly when nothing refuses
  pub done-when : Earlier → length t ≤ length l → n ≡ 0
  pub done-only : n ≡ 0 → Earlier × (length t ≤ length l)
  -- it returns the length; the text stands at the start, and the bytes behind it are as before
  pub written : n ≡ 0 → (v ≡ length t) × (l' ≡ begun l t)
  -- a refused call changes no lent byte
  pub refused : (n ≢ 0) → l' ≡ l

-- No check before NO_ROOM refuses a value of the entry's own type; or a pattern of a type that is given.
pub record Allowed (format : ℕ) (o : Options) (z : ℤ) : Type 0 where
  pub options : known_options format o ≡ true
  pub exponent : exponent_kept format o z ≡ true

pub record Judged (signed : Bool) (bits p format : ℕ) (o : Options) : Type 0 where
  pub type : known bits ≡ true
  pub value : is_in_type signed bits (meaning 64 signed p) ≡ true
  pub allowed : Allowed format o (meaning 64 signed p)

-- n is the number of an answer to writing, and v what it returns: each check before NO_ROOM refuses exactly when it fails and those before it pass, in document 01's order 5, 7, 6, 10.
pub record InOrder (type inside options exponent : Bool) (n v : ℕ) : Type 0 where
  pub five : (n ≡ 5) ↔ (type ≡ false)
  pub seven : (n ≡ 7) ↔ ((type ≡ true) × (inside ≡ false))
  pub six : (n ≡ 6) ↔ ((type ≡ true) × (inside ≡ true) × (options ≡ false))
  pub ten : (n ≡ 10) ↔ ((type ≡ true) × (inside ≡ true) × (options ≡ true) × (exponent ≡ false))
  pub nothing : (n ≢ 0) → (n ≢ 8) → v ≡ 0

-- The claim, of the promises of the writer: that of the core (the short form is the core at the house default), that of the entries by type, and that of the C edge.
pub record OfWriting : Type 0 where
  pub core : (signed : Bool) (bits p format : ℕ) (o : Options) (l : List ℕ) (r : Written) (l' : List ℕ)
      → Writes (text_of bits (meaning 64 signed p) format o) (answer signed bits p format o (length l)) l r l'
      → Demand1 (Judged signed bits p format o) (λ n. n) (text_of bits (meaning 64 signed p) format o) l (number r) (value r) l'
  pub by-type : (bits : ℕ) (z : ℤ) (format : ℕ) (o : Options) (l : List ℕ) (r : Written) (l' : List ℕ)
      → Writes (text_of bits z format o) (answer_of bits z format o (length l)) l r l'
      → Demand1 (Allowed format o z) (λ n. n) (text_of bits z format o) l (number r) (value r) l'
  pub at_edge : (signed : Bool) (bits p format : ℕ) (o : Options) (l : List ℕ) (n v : ℕ) (l' : List ℕ)
      → edge.Answers (text_of bits (meaning 64 signed p) format o) (answer signed bits p format o (length l)) l n v l'
      → Demand1 (Judged signed bits p format o) (λ n. n) (text_of bits (meaning 64 signed p) format o) l n v l'
  -- the numbers of the same answers
  pub core-order : (signed : Bool) (bits p format : ℕ) (o : Options) (l : List ℕ) (r : Written) (l' : List ℕ)
      → Writes (text_of bits (meaning 64 signed p) format o) (answer signed bits p format o (length l)) l r l'
      → InOrder (known bits) (is_in_type signed bits (meaning 64 signed p)) (known_options format o) (exponent_kept format o (meaning 64 signed p)) (number r) (value r)
  pub by-type-order : (bits : ℕ) (z : ℤ) (format : ℕ) (o : Options) (l : List ℕ) (r : Written) (l' : List ℕ)
      → Writes (text_of bits z format o) (answer_of bits z format o (length l)) l r l' → InOrder true true (known_options format o) (exponent_kept format o z) (number r) (value r)
  pub edge_order : (signed : Bool) (bits p format : ℕ) (o : Options) (l : List ℕ) (n v : ℕ) (l' : List ℕ)
      → edge.Answers (text_of bits (meaning 64 signed p) format o) (answer signed bits p format o (length l)) l n v l'
      → InOrder (known bits) (is_in_type signed bits (meaning 64 signed p)) (known_options format o) (exponent_kept format o (meaning 64 signed p)) n v

-- Of parts, three by value or a list of any length: every code is known, and no copied run leaves its source. NO_ROOM tells a length that is held at 2^64 - 1.
pub record Sound (sign : Sign) (ps : List Part) (src : List ℕ) : Type 0 where
  pub codes : (parts.known sign && all_known ps) ≡ true
  pub inside : Inside (length src) ps

-- The part with the index k is the first that leaves a source of so many bytes.
pub record FirstOut (source : ℕ) (ps : List Part) (k : ℕ) : Type 0 where
  pub front : List Part
  pub part : Part
  pub behind : List Part
  pub split : ps ≡ front ++ (part ∷ behind)
  pub index : k ≡ length front
  pub inside : Inside source front
  pub leaves : leaves_source source part ≡ true

-- n is the number of an answer to parts, and v what it returns: 6 exactly when a code is unknown, 9 exactly when all are known and a part leaves its source, with the first that does.
pub record PartsInOrder (sign : Sign) (ps : List Part) (source n v : ℕ) : Type 0 where
  pub six : (n ≡ 6) ↔ ((parts.known sign && all_known ps) ≡ false)
  pub nine : (k : ℕ) → ((n ≡ 9) × (v ≡ k)) ↔ (((parts.known sign && all_known ps) ≡ true) × FirstOut source ps k)
  pub nothing : n ≡ 6 → v ≡ 0

pub record OfParts : Type 0 where
  -- a sign code is known up to 2, and so is the code of a part's kind
  pub sign-codes : (code : ℕ) → parts.known (parts.sign_of code) ≡ leb code 2
  pub kind-codes : (kind number zeros start len : ℕ) → known_part (parts.part_of kind number zeros start len) ≡ leb kind 2
  pub writing : (sign : Sign) (ps : List Part) (src out : List ℕ) (r : Answer) (out' : List ℕ) → parting.Writes sign ps src out r out'
      → Demand1 (Sound sign ps src) held (parts.text_of sign src ps) out (number_of r) (value_of r) out'
  -- the numbers of the same answers, and of the length alone
  pub writing-order : (sign : Sign) (ps : List Part) (src out : List ℕ) (r : Answer) (out' : List ℕ) → parting.Writes sign ps src out r out'
      → PartsInOrder sign ps (length src) (number_of r) (value_of r)
  pub length-order : (sign : Sign) (ps : List Part) (source : ℕ) → PartsInOrder sign ps source (number_of (measured source sign ps)) (value_of (measured source sign ps))

-- Of the end entries, the C edge's also, whose only refusal is NO_ROOM: r is where the text starts, and the buffer's length on refusal.
pub record OfEnds : Type 0 where
  pub refused : (t l : List ℕ) (r : ℕ) (l' : List ℕ) → EndPromise t l r l' → length l < length t → (r ≡ length l) × (l' ≡ l)
  pub done : (t l : List ℕ) (r : ℕ) (l' : List ℕ) → EndPromise t l r l' → length t ≤ length l → (r ≡ length l - length t) × (l' ≡ ended l (length l) t)
  -- no number's decimal is empty, so that the start tells the one from the other
  pub some : (z : ℤ) → 0 < length (signed z)
  pub some-unsigned : (n : ℕ) → 0 < length (decimal n)
  pub told : (t l : List ℕ) (r : ℕ) (l' : List ℕ) → EndPromise t l r l' → 0 < length t → (r ≡ length l) ↔ (length l < length t)
