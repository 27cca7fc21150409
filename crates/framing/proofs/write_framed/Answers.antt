-- `framing::write_framed` meets its contract. Assumes nothing.
use Rattle.framing.proofs.Laid.{answer-places}
use Rattle.framing.proofs.write_framed.Goals as goal

pub returns : goal.returns
returns c = rw c.value.ensures (answer-places c.fit_framed.ensures)
