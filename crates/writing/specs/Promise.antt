-- The one answer to a call, in document 01's order 5, 7, 6, 10, 8, its number and value, and the buffer afterwards.
use Rattle.std.specs.Prelude.{Option, None, Result, Ok, Err, Bool, true, false, cond, ◌&&◌, List, ◌≡◌, ℕ, leb, ℤ, nat_abs, length}
use Rattle.buffer.specs.AtEnd.{begun}
use Rattle.kinds.specs.Kinds.{known, is_in_type, meaning}
use Rattle.kinds.specs.declared.Misfit.{Misfit}
use Rattle.kinds.specs.declared.Misfit.TheVariants as misfit
use Rattle.scientific.specs.Layout.{exp_text}
use Rattle.scientific.specs.Sci.{sci}
use Rattle.writing.specs.Text.{exponent_letter, framed, text_of}
use Rattle.writing.specs.declared.Options.{Options}
use Rattle.writing.specs.declared.Refusal.{Refusal}
use Rattle.writing.specs.declared.Refusal.TheVariants as refusal

-- An answer: a length, or why there is no text.
abbrev pub Written : Type 0
Written = Result ℕ Refusal

-- The refusal of what is no value of a type.
abbrev pub refusal_of : Misfit → Refusal
refusal_of misfit.Type = refusal.Type
refusal_of misfit.Value = refusal.Value

-- A known format, a known alignment and a fill of one byte from 32 to 126, used or not.
abbrev pub known_options : ℕ → Options → Bool
known_options format o = leb format 6 && (leb o.align 3 && (leb 32 o.fill && leb o.fill 126))

-- The exponent field takes 0 to 99; the other forms have none.
abbrev pub exponent_kept : ℕ → Options → ℤ → Bool
exponent_kept format o z = cond (leb format 4) true (leb (sci o.precision (nat_abs z)).expo 99)

-- A text of so many bytes in so many: its length, or that it has no room.
abbrev pub settled : ℕ → ℕ → Written
settled need room = cond (leb need room) (Ok need) (Err (refusal.NoRoom need))

abbrev pub fitted : List ℕ → ℕ → Written
fitted t room = settled (length t) room

-- The answer to a value z of a type, and that to a 64-bit pattern p.
unfoldable pub answer_of : ℕ → ℤ → ℕ → Options → ℕ → Written
answer_of bits z format o room =
    cond (known_options format o)
    (cond (exponent_kept format o z) (fitted (text_of bits z format o) room) (Err refusal.Exponent))
    (Err refusal.Options)

unfoldable pub answer : Bool → ℕ → ℕ → ℕ → Options → ℕ → Written
answer signed bits p format o room =
    cond (known bits)
    (cond (is_in_type signed bits (meaning 64 signed p)) (answer_of bits (meaning 64 signed p) format o room) (Err refusal.Value))
    (Err refusal.Type)

-- Document 01's number of an answer, and what it returns.
abbrev pub number : Written → ℕ
number (Ok n) = 0
number (Err refusal.Type) = 5
number (Err refusal.Options) = 6
number (Err refusal.Value) = 7
number (Err (refusal.NoRoom n)) = 8
number (Err refusal.Exponent) = 10

abbrev pub value : Written → ℕ
value (Ok n) = n
value (Err refusal.Type) = 0
value (Err refusal.Options) = 0
value (Err refusal.Value) = 0
value (Err (refusal.NoRoom n)) = n
value (Err refusal.Exponent) = 0

-- The buffer afterwards: the text at its start after DONE, as before after a refusal.
abbrev pub after : Written → List ℕ → List ℕ → List ℕ
after (Ok n) t l = begun l t
after (Err r) t l = l

-- What a writing entry promises of the text t, the answer a that document 01 gives, and the buffer l: its answer r, and the buffer l' that it leaves.
pub record Writes (t : List ℕ) (a : Written) (l : List ℕ) (r : Written) (l' : List ℕ) : Type 0 where
  pub answers : r ≡ a
  pub leaves : l' ≡ after a t l

-- What a layer below promises that is asked for the text t in the buffer l: its length n, and the buffer l', where the text stands if it has room, and which is else as before.
pub record Places (t l : List ℕ) (n : ℕ) (l' : List ℕ) : Type 0 where
  pub long : n ≡ length t
  pub leaves : l' ≡ cond (leb (length t) (length l)) (begun l t) l

-- The house default: no flag, fill space, alignment unset, width 0, precision none.
abbrev pub house : Options
house = record { plus = false; alternate = false; zero = false; fill = 32; align = 0; width = 0; precision = None }

-- Options that put nothing around the digits but a minus: no sign, no prefix, no width. The precision is theirs.
pub record Unframed (o : Options) (p : Option ℕ) : Type 0 where
  pub width : o.width ≡ 0
  pub plus : o.plus ≡ false
  pub alternate : o.alternate ≡ false
  pub precision : o.precision ≡ p

-- The answer to a magnitude n in exponent form with precision p, whose text with what is around it is t, when its options are known.
abbrev pub kept_answer : Option ℕ → ℕ → List ℕ → ℕ → Written
kept_answer p n t room = cond (leb (sci p n).expo 99) (fitted t room) (Err refusal.Exponent)

abbrev pub exponent_answer : Options → Bool → ℕ → ℕ → ℕ → Written
exponent_answer o negative format n room =
    kept_answer o.precision n (framed o negative format (exp_text (exponent_letter format) o.precision n)) room
