-- `eights::four` meets its contract: two pairs, and the digits of each. Assumes nothing.
use mathlib.Core.Path.{ap, ◌∙◌}
use native.Mathlib.Omega.{arith}
use Rattle.eights.proofs.Lanes.{paired, pairs-low, pairs-high, pairs-four}
use Rattle.eights.specs.Steps.{tens_of}
use Rattle.words.specs.Bytes.{bytes_of}
use Rattle.eights.proofs.Bytes.{bytes-four_of}
use Rattle.eights.proofs.four.Goals as goal

pub tens2-requires : goal.tens2-requires
tens2-requires c =
    rw (paired c.args.n c.requires, pairs-low c.args.n c.requires, pairs-high c.args.n c.requires) (omega arith, omega arith)

pub returns : goal.returns
returns c =
    ap (bytes_of 4) (c.tens2.ensures ∙ ap tens_of (paired c.args.n c.requires) ∙ pairs-four c.args.n c.requires) ∙ bytes-four_of c.args.n c.requires
