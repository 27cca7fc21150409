-- What the parts of an exponent form are, and when there are none.
-- Assumes nothing.
use mathlib.Core.List.{List}
use Rattle.std.specs.Prelude.{Option, None, Some}
use mathlib.Core.Path.{◌≡◌}
use Prim.Native.Nat.{ℕ, ◌^◌, ◌≤◌, ◌<◌}
use lib.ListN.{length}
use Rattle.exponent.specs.Form.{Texts, Answers}
use Rattle.formatted.specs.Three.{parts_of}
use Rattle.formatted.specs.declared.Formatted.{Formatted}
use Rattle.parts.specs.Parts.{text_of, Inside, true_length}
use Rattle.scientific.specs.Layout.{exp_text}
use Rattle.scientific.specs.Sci.{sci}

-- what the parts of an exponent form are, whatever its sign is called
pub record Digits (letter : ℕ) (p : Option ℕ) (n : ℕ) (src : List ℕ) (f : Formatted) : Type 0 where
  pub kept : (sci p n).expo ≤ 99
  pub source : length src ≡ 24
  pub inside : Inside (length src) (parts_of f)
  pub text : text_of f.sign src (parts_of f) ≡ exp_text letter p n
  pub size : true_length f.sign (parts_of f) ≡ length (exp_text letter p n)
  pub few : length (exp_text letter p n) < 2 ^ 17

pub digits_of : (letter letter' : ℕ) (p : Option ℕ) (n : ℕ) (src : List ℕ) (f : Formatted) (r : Option Formatted) → letter' ≡ letter → r ≡ Some f → Answers letter' p n src r → Digits letter p n src f
digits_of letter letter' p n src f r i e A =
    let T : Texts letter p n src f = rw (e, i) at A in
    record { kept = T.expo; source = T.source; inside = T.inside; text = rw T.sign T.text; size = rw T.sign T.size; few = T.few }

pub refused-of : (letter : ℕ) (p : Option ℕ) (n : ℕ) (src : List ℕ) (r : Option Formatted) → r ≡ None → Answers letter p n src r → 99 < (sci p n).expo
refused-of letter p n src r e A = rw e at A
