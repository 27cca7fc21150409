-- The refusal of a short call: a format that is none, of a type and a value that are right. Assumes nothing.
use mathlib.Core.Bool.{Bool, true}
use mathlib.Core.List.{List}
use mathlib.Core.Path.{◌≡◌, refl}
use Prim.Native.Nat.{ℕ, ◌<◌}
use Rattle.std.specs.Prelude.{Err}
use lib.ListN.{length}
use Rattle.kinds.specs.Kinds.{known, is_in_type, meaning}
use Rattle.writing.specs.declared.Refusal.TheVariants as refusal
use Rattle.writing.specs.Promise.{house, answer, Writes}
use Rattle.writing.specs.Text.{text_of}
use Rattle.writing.proofs.Cases.{options-refused, house-unknown, judged}

pub short_refused : (signed : Bool) (bits p format : ℕ) (out : List ℕ) → known bits ≡ true → is_in_type signed bits (meaning 64 signed p) ≡ true → 6 < format
    → Writes (text_of bits (meaning 64 signed p) format house) (answer signed bits p format house (length out)) out (Err refusal.Options) out
short_refused signed bits p format out k i f =
    judged signed bits p format house out k i _ _
    (rw (options-refused bits (meaning 64 signed p) format house (length out) (house-unknown format f)) (record { answers = refl; leaves = refl }))
