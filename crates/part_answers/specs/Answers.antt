-- The one answer to a list of parts, in document 01's order 6, 9, 8 (length alone: 6, 9), its number and value, and the buffer afterwards.
use Rattle.std.specs.Prelude.{◌≡◌, cond, ◌&&◌, List, [], ◌∷◌, ℕ, suc, leb, length, Result, Ok, Err}
use Rattle.buffer.specs.AtEnd.{begun}
use Rattle.parts.specs.Parts.{known, all_known, leaves_source, true_length, held, text_of}
use Rattle.parts.specs.declared.Part.{Part}
use Rattle.parts.specs.declared.Sign.{Sign}
use Rattle.part_answers.specs.declared.Refusal.{Refusal}
use Rattle.part_answers.specs.declared.Refusal.TheVariants as refusal

-- The length, or why there is none.
abbrev pub Answer : Type 0
Answer = Result ℕ Refusal

-- 9 at the index of the first part that leaves a source of n bytes, counted from i on; `fine` where none does.
unfoldable pub first_out : Answer → ℕ → ℕ → List Part → Answer
first_out fine n i [] = fine
first_out fine n i (p ∷ ps) = cond (leaves_source n p) (Err (refusal.Part i)) (first_out fine n (suc i) ps)

-- 6 before 9 before all else: an unknown code anywhere, then the first part that leaves its source.
unfoldable pub checked : Answer → ℕ → Sign → List Part → Answer
checked fine n sign ps = cond (known sign && all_known ps) (first_out fine n 0 ps) (Err refusal.Options)

-- The length alone, over a source of n bytes.
unfoldable pub measured : ℕ → Sign → List Part → Answer
measured n sign ps = checked (Ok (held (true_length sign ps))) n sign ps

-- Writing into `room` bytes. Room is judged by the true sum, and NO_ROOM returns the held one.
unfoldable pub wrote : ℕ → ℕ → Sign → List Part → Answer
wrote n room sign ps = checked (cond (leb (true_length sign ps) room) (Ok (true_length sign ps)) (Err (refusal.NoRoom (held (true_length sign ps))))) n sign ps

-- The buffer afterwards: the text at its start after DONE, and as before after a refusal.
abbrev pub after : Answer → List ℕ → List ℕ → List ℕ
after (Ok n) t b = begun b t
after (Err r) t b = b

-- What an entry that writes promises: its one answer, and every byte of the buffer.
pub record Writes (sign : Sign) (ps : List Part) (src out : List ℕ) (r : Answer) (out' : List ℕ) : Type 0 where
  pub answers : r ≡ wrote (length src) (length out) sign ps
  pub leaves : out' ≡ after r (text_of sign src ps) out

-- Document 01's number of each answer, and what it returns.
abbrev pub number_of : Answer → ℕ
number_of (Ok n) = 0
number_of (Err refusal.Options) = 6
number_of (Err (refusal.Part i)) = 9
number_of (Err (refusal.NoRoom n)) = 8

abbrev pub value_of : Answer → ℕ
value_of (Ok n) = n
value_of (Err refusal.Options) = 0
value_of (Err (refusal.Part i)) = i
value_of (Err (refusal.NoRoom n)) = n
