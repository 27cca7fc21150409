-- `formatted::Formatted::write` meets its contract: DONE says that the text has room, and the promise is kept by writing it. Assumes nothing.
use mathlib.Core.Path.{refl, sym, ◌∙◌}
use native.Mathlib.Omega.{arith}
use Rattle.part_answers.proofs.Answers.{wrote-done, writes-done}
use Rattle.formatted.proofs.Formatted.write.Goals as goal

pub write_before-requires : goal.write_before-requires
write_before-requires c =
    let d = wrote-done _ _ _ _ _ (sym (c.judge.ensures _ _ _ c.length.ensures) ∙ c.in_ok-need.was) in
    (d.0, omega (arith, d.1), d.2)

pub returns : goal.returns
returns c = writes-done _ _ _ _ _ (sym c.in_ok-need.was ∙ c.judge.ensures _ _ _ c.length.ensures) refl c.write_before.ensures.1
