-- `fields::answers::number` meets its contract: what the end entry leaves from its start on is the number's text. Assumes nothing.
use Rattle.std.proofs.Common.{rules, subst, OnOk}
use Rattle.std.specs.Io.KnownBytes.{Appends}
use Rattle.fields.proofs.Shown.{shown}
use Rattle.fields.proofs.answers.number.Goals as goal

pub returns : goal.returns
returns g c =
    subst (λ text. OnOk c.write_all.result (Appends (g.W.Write.contents c.args.out.now) (g.W.Write.contents c.write_all.new.self) text))
    (shown _ c.args.n c.end_at-at.result c.end_at-at.new.out (search rules) (search rules) (search rules) c.end_at-at.ensures)
    c.write_all.ensures.bytes
