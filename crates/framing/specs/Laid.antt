-- The layout of digits with what the options put around them: where the padding stands, and how long the whole is; and what a buffer holds that lacks only the digits.
use Rattle.std.specs.Prelude.{Bool, List, Result, Ok, Err, ◌≡◌, ℕ, ◌+◌, ◌-◌, ◌≤◌, ◌<◌, length}
use Rattle.buffer.specs.AtEnd.{ended, begun}
use Rattle.padding.specs.Padding.{Planned, sign_of, prefix_of}
use Rattle.framing.specs.declared.Layout.{Layout}
use Rattle.writing.specs.Text.{framed}
use Rattle.writing.specs.declared.Options.{Options}
use Rattle.writing.specs.declared.Refusal.{Refusal}
use Rattle.writing.specs.declared.Refusal.TheVariants.{NoRoom}

-- How a text of so many digits is laid out in a buffer: the padding, where the digits end, and the whole length.
pub record Laid (o : Options) (negative : Bool) (format : ℕ) (digits : List ℕ) (a : Layout) : Type 0 where
  pub planned : Planned o.zero o.align (o.width - (length (sign_of negative o.plus) + (length (prefix_of o.alternate format) + length digits))) a.pad.before a.pad.zeros a.pad.behind
  pub ends : a.end + a.pad.behind ≡ a.need
  pub whole : a.need ≡ length (framed o negative format digits)

-- The buffer l' is l with the text t at its start, once the digits stand where the layout a ends them.
pub record Surrounds (t digits l : List ℕ) (a : Layout) (l' : List ℕ) : Type 0 where
  pub whole : a.need ≡ length t
  pub room : a.need ≤ length l
  pub inside : length digits ≤ a.end
  pub ends : a.end ≤ length l'
  pub text : ended l' a.end digits ≡ begun l t

-- Either that, or there is no room and nothing is changed.
abbrev pub Around : List ℕ → List ℕ → List ℕ → Result Layout Refusal → List ℕ → Type 0
Around t digits l (Ok a) l' = Surrounds t digits l a l'
Around t digits l (Err e) l' = (e ≡ NoRoom (length t)) × (length l < length t) × (l' ≡ l)
