-- `whole_texts::find_hex` meets its contract. Assumes nothing.
use Rattle.std.proofs.lemmas.Option.{IfSome_then}
use Rattle.formats.specs.Formats.{letter_from}
use Rattle.whole_texts.proofs.Shorts.{a_apart, short-hex}
use Rattle.whole_texts.proofs.find_hex.Goals as goal

pub returns : goal.returns
returns c = IfSome_then c.number_of.result (simp c.letter.ensures at c.number_of.ensures) (λ n. short-hex (letter_from c.args.case 97) (a_apart c.args.case).0 c.args.text.now n)
