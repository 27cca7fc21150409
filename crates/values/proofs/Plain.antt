-- From the digits that a layer below writes to the text, where nothing is around them but a minus. Assumes nothing.
use mathlib.Core.Bool.{false}
use mathlib.Core.List.{List}
use mathlib.Core.Path.{◌≡◌}
use Prim.Native.Nat.{ℕ}
use Rattle.std.specs.Prelude.{Option}
use Rattle.kinds.specs.Values.{stands_for}
use Rattle.kinds.specs.declared.Split.{Split}
use Rattle.kinds.specs.declared.Value.{Value}
use Rattle.writing.specs.declared.Options.{Options}
use Rattle.writing.specs.Promise.{Unframed, Places}
use Rattle.writing.specs.Text.{framed, unframed, numeral, text_of}
use Rattle.writing.proofs.Cases.{unframes}

module _ (v : Value) (format : ℕ) (s : Split) (shown : (o : Options) → text_of v.kind.bits (stands_for v) format o ≡ framed o s.negative format (numeral format s.magnitude))
    (o : Options) (p : Option ℕ) (U : Unframed o p) {l l' : List ℕ} {n : ℕ} where
  pub bare-places : Places (unframed s.negative (numeral format s.magnitude)) l n l' → Places (text_of v.kind.bits (stands_for v) format o) l n l'
  bare-places P = rw (shown o, unframes o s.negative format (numeral format s.magnitude) U) P

  pub digit-places : s.negative ≡ false → Places (numeral format s.magnitude) l n l' → Places (text_of v.kind.bits (stands_for v) format o) l n l'
  digit-places e P = bare-places (rw e P)
