-- What the code promises of the exponent form of n: its text as parts of the scratch bytes, or EXPONENT.
use Rattle.std.specs.Prelude.{Option, None, Some, List, ◌≡◌, ℕ, ◌^◌, ◌≤◌, ◌<◌, length}
use Rattle.formatted.specs.Three.{parts_of}
use Rattle.formatted.specs.declared.Formatted.{Formatted}
use Rattle.parts.specs.Parts.{text_of, Inside, true_length}
use Rattle.parts.specs.declared.Sign.TheVariants as signs
use Rattle.scientific.specs.Sci.{sci}
use Rattle.scientific.specs.Layout.{exp_text}

-- The parts f of the 24 bytes src are the text of n, with no sign, and short enough to be added up. The exponent field takes 0 to 99.
pub record Texts (letter : ℕ) (p : Option ℕ) (n : ℕ) (src : List ℕ) (f : Formatted) : Type 0 where
  pub expo : (sci p n).expo ≤ 99
  pub source : length src ≡ 24
  pub sign : f.sign ≡ signs.None
  pub inside : Inside (length src) (parts_of f)
  pub text : text_of signs.None src (parts_of f) ≡ exp_text letter p n
  pub size : true_length signs.None (parts_of f) ≡ length (exp_text letter p n)
  pub few : length (exp_text letter p n) < 2 ^ 17

-- Above 99 it is refused.
abbrev pub Answers : ℕ → Option ℕ → ℕ → List ℕ → Option Formatted → Type 0
Answers letter p n src (Some f) = Texts letter p n src f
Answers letter p n src None = 99 < (sci p n).expo
