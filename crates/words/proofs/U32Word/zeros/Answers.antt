-- `zeros` of `u32` meets its contract. Assumes nothing.
use Rattle.words.proofs.Zeros.{zeros-bytes}
use Rattle.words.proofs.U32Word.zeros.Goals as goal

pub returns : goal.returns
returns c = zeros-bytes 4 c.args.self
