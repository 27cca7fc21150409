-- `formatted::Formatted::length` meets its contract: three steps from no part on. Assumes nothing.
use mathlib.Core.Path.{refl}
use mathlib.Core.List.{[], ◌∷◌}
use Rattle.formatted.proofs.Formatted.length.Goals as goal

pub returns : goal.returns
returns c =
    let none = c.scan_start-none.ensures c.args.source in
    let one = c.scan_step-one.ensures c.args.self.sign [] refl none in
    let two = c.scan_step-two.ensures c.args.self.sign (c.args.self.first ∷ []) refl one in
    c.scan_step.ensures c.args.self.sign (c.args.self.first ∷ c.args.self.second ∷ []) refl two
