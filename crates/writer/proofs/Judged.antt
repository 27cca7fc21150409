-- The promise for a pattern that was judged: of a value that it is, and of none. Assumes nothing.
use mathlib.Core.Bool.{true, false}
use mathlib.Core.List.{List}
use mathlib.Core.Path.{◌≡◌, refl}
use Prim.Native.Nat.{ℕ}
use Rattle.std.specs.Prelude.{Err}
use lib.ListN.{length}
use Rattle.kinds.specs.Kinds.{known, is_in_type, meaning}
use Rattle.kinds.specs.Values.{stands_for}
use Rattle.kinds.specs.declared.Kind.{Kind}
use Rattle.kinds.specs.declared.Misfit.{Misfit}
use Rattle.kinds.specs.declared.Misfit.TheVariants as misfit
use Rattle.kinds.specs.declared.Value.{Value}
use Rattle.writing.specs.declared.Options.{Options}
use Rattle.writing.specs.Promise.{Written, refusal_of, answer, answer_of, Writes}
use Rattle.writing.specs.Text.{text_of}
use Rattle.writing.proofs.Cases.{judged, type-refused, value-refused}

pub of_value : (k : Kind) (p : ℕ) (v : Value) (format : ℕ) (o : Options) {l l' : List ℕ} {r : Written} → (v.kind ≡ k) × (v.pattern ≡ p)
    → Writes (text_of v.kind.bits (stands_for v) format o) (answer_of v.kind.bits (stands_for v) format o (length l)) l r l'
    → Writes (text_of k.bits (meaning 64 k.signed p) format o) (answer k.signed k.bits p format o (length l)) l r l'
of_value k p v format o {l = l} e W = rw (← e.0, ← e.1) (judged v.kind.signed v.kind.bits v.pattern format o l v.of_type v.in_range _ _ W)

pub of_misfit : (k : Kind) (p : ℕ) (m : Misfit) (format : ℕ) (o : Options) (l : List ℕ) → (m ≡ misfit.Type → known k.bits ≡ false) → (m ≡ misfit.Value → (known k.bits ≡ true) × (is_in_type k.signed k.bits (meaning 64 k.signed p) ≡ false))
    → Writes (text_of k.bits (meaning 64 k.signed p) format o) (answer k.signed k.bits p format o (length l)) l (Err (refusal_of m)) l
of_misfit k p misfit.Type format o l no_type no_value = type-refused k.signed k.bits p format o l (no_type refl)
of_misfit k p misfit.Value format o l no_type no_value = let no = no_value refl in value-refused k.signed k.bits p format o l no.0 no.1
