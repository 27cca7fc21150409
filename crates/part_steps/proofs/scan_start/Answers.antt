-- `part_steps::scan_start` meets its contract. Assumes nothing.
use mathlib.Core.Path.{◌≡◌, sym}
use mathlib.Core.Bool.{true, false}
use borrow.Author.Rules.{rules}
use Rattle.parts.specs.Parts.{known}
use Rattle.part_answers.proofs.Answers.{sign-unknown, sign-known}
use Rattle.part_steps.proofs.scan_start.Goals as goal

pub returns-in-Unknown : goal.returns-in-Unknown
returns-in-Unknown c n = let h : known c.args.sign ≡ false = search rules in sym (sign-unknown n c.args.sign h)

pub returns-in_default : goal.returns-in_default
returns-in_default c n = let h : known c.args.sign ≡ true = search rules in sym (sign-known n c.args.sign h c.length.ensures)
