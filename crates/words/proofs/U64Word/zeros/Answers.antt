-- `zeros` of `u64` meets its contract. Assumes nothing.
use Rattle.words.proofs.Zeros.{zeros-bytes}
use Rattle.words.proofs.U64Word.zeros.Goals as goal

pub returns : goal.returns
returns c = zeros-bytes 8 c.args.self
