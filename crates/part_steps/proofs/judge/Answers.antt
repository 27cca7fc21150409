-- `part_steps::judge` meets its contract. Assumes nothing.
use mathlib.Core.Path.{sym, ◌∙◌}
use Rattle.std.proofs.lemmas.Result.{err_from_is_err_and}
use Rattle.part_answers.proofs.Answers.{wrote-refused, wrote-no-room, wrote-room}
use Rattle.part_steps.proofs.judge.Goals as goal

pub returns-in_err-need : goal.returns-in_err-need
returns-in_err-need c n sign ps e =
    let p = err_from_is_err_and c.from_residual.result c.from_residual.ensures.1 in
    rw (p.1, p.2) (sym (wrote-refused n _ sign ps _ (sym e ∙ c.in_err-need.was)))

pub returns-then-room-need : goal.returns-then-room-need
returns-then-room-need c n sign ps e = sym (wrote-no-room n _ sign ps _ (sym e ∙ c.in_ok-need.was) c.if-room-need.true)

pub returns : goal.returns
returns c n sign ps e = sym (wrote-room n _ sign ps _ (sym e ∙ c.in_ok-need.was) c.if-room-need.false c.requires)
