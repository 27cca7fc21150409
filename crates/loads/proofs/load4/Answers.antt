-- `loads::load4` meets its contract. Assumes nothing.
use mathlib.Core.Path.{sym, ◌∙◌}
use Rattle.std.proofs.Common.{rules}
use Rattle.std.proofs.lemmas.Nat.{le_bytes_4}
use Rattle.words.proofs.Bytes.{library_bytes}
use Rattle.loads.proofs.load4.Goals as goal

pub returns : goal.returns
returns c =
    (sym (library_bytes 4 c.from_le_bytes.result) ∙ le_bytes_4 c.bytes.result _ (search rules) (search rules) c.from_le_bytes.ensures ∙ c.bytes.ensures, search rules)
