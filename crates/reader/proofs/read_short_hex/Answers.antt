-- `reader::read_short_hex` meets its contract. Assumes nothing.
use Rattle.std.specs.Prelude.{Ok}
use mathlib.Core.Path.{subst, ◌≡◌}
use Prim.Native.Nat.{ℕ}
use Rattle.std.proofs.Common.{rules}
use Rattle.std.proofs.lemmas.Option.{IfSome_then}
use Rattle.formats.specs.Formats.{numeral_code}
use Rattle.formats.specs.declared.Numeral.TheVariants.{Hex}
use Rattle.reader.specs.Answers.{Answers}
use Rattle.reader.proofs.Outcomes.{hex-answer}
use Rattle.reader.proofs.read_short_hex.Goals as goal

pub returns : goal.returns
returns c =
    let e : numeral_code (Hex c.in-Ok-Numeral-Hex.case) ≡ c.args.format = search rules in
    IfSome_then c.short_hex.result c.short_hex.ensures
    (λ v q. subst (λ (code : ℕ). Answers c.args.kind.signed c.args.kind.bits code c.args.text.now (Ok v)) e
    (hex-answer c.args.kind.signed c.args.kind.bits c.args.text.now c.in-Ok-Numeral-Hex.case q.0 q.1 q.2))
