-- A text that is cut at the first byte of a kind, and a line, `LABEL|ROW` or a row alone.
use Rattle.std.specs.Prelude.{◌≡◌, ℕ, ◌==◌, Option, Some, None, List, ◌∷◌, ◌++◌, ◌⊎◌, length, position, codes}
use Rattle.std.specs.Io.KnownBytes.{Keeps, Appends}

-- the byte is nowhere in the text
abbrev pub IsWhole : ℕ → List ℕ → Type 0
IsWhole byte text = position (λ each. each == byte) text ≡ None

-- the byte stands behind the front for the first time
abbrev pub IsCut : ℕ → List ℕ → List ℕ → List ℕ → Type 0
IsCut byte text front behind = (position (λ each. each == byte) text ≡ Some (length front)) × (text ≡ front ++ (byte ∷ behind))

-- the line has no bar (124), is the row, and nothing is written; or the row is behind the bar, and the label is written
abbrev pub IsRow : List ℕ → List ℕ → Option (List ℕ) → Option (List ℕ) → Type 0
IsRow line row old new = (IsWhole 124 line × (row ≡ line) × Keeps old new) ⊎ ((label : List ℕ) × IsCut 124 line label row × Appends old new (label ++ codes ": "))
