-- Demand 3 of the text that demand 2 defines: over all magnitudes whose exponent field holds, against any exponent text.
use Rattle.std.specs.Prelude.{None, Some, ℕ, ◌^◌, ◌<◌, ◌≤◌, Bool, false, pos}
use Rattle.scientific.specs.Demand.{Demand3, Shortest, Only}
use Rattle.scientific.specs.Layout.{exp_text}
use Rattle.scientific.specs.Sci.{exponent_of, sci}
use Rattle.scientific.specs.Shape.{Parts, Reads, number, Denotes, apart}
use Rattle.writing.specs.Text.{text_of}
use Rattle.writing.specs.Promise.{Unframed}
use Rattle.writing.specs.declared.Options.{Options}

pub record OfExponent : Type 0 where
  -- what is written with precision p, with either letter, of every number of at most 99 digits, and so of every magnitude of 64 bits
  pub written : (bits n p : ℕ) (o : Options) → Unframed o (Some p) → n < 10 ^ 99
      → Only 101 (text_of bits (pos n) 5 o) (Demand3 n p) × Only 69 (text_of bits (pos n) 6 o) (Demand3 n p)
  -- with precision p: scientific/specs/Demand.antt says it sentence by sentence
  pub rounded : (letter n p : ℕ) → 57 < letter → (sci (Some p) n).expo ≤ 99 → Only letter (exp_text letter (Some p) n) (Demand3 n p)
  -- without, where n has e + 1 digits the exponent is e: it denotes n and has no digit to spare
  pub in-full : (letter n : ℕ) → 57 < letter → exponent_of n ≤ 99 → Only letter (exp_text letter None n) (Shortest n)
  -- the exponent field holds for every number of at most 99 digits, and so for every value of 64 bits
  pub held : (n p : ℕ) → n < 10 ^ 99 → (sci (Some p) n).expo ≤ 99
  -- zero's text denotes zero
  pub zero_is : (letter p : ℕ) → 57 < letter → Only letter (exp_text letter (Some p) 0) (λ x. Denotes (number x) 0)
  -- raising the precision never increases the distance to n
  pub finer : (letter n p p' : ℕ) → 57 < letter → (sci (Some p) n).expo ≤ 99 → (sci (Some p') n).expo ≤ 99 → p ≤ p'
      → (signed : Bool) (x x' : Parts) → Reads signed letter (exp_text letter (Some p) n) x → Reads signed letter (exp_text letter (Some p') n) x'
      → (D D' : ℕ) → Denotes (number x) D → Denotes (number x') D' → apart false D' n ≤ apart false D n
  -- at one precision a larger magnitude never denotes a smaller number
  pub ordered : (letter n m p : ℕ) → 57 < letter → (sci (Some p) n).expo ≤ 99 → (sci (Some p) m).expo ≤ 99 → n ≤ m
      → (signed : Bool) (x y : Parts) → Reads signed letter (exp_text letter (Some p) n) x → Reads signed letter (exp_text letter (Some p) m) y
      → (D E : ℕ) → Denotes (number x) D → Denotes (number y) E → D ≤ E
