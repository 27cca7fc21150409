-- `put` of `u64` meets its contract. Assumes nothing.
use mathlib.Core.Path.{◌∙◌}
use Rattle.words.proofs.Bytes.{library_bytes}
use Rattle.words.proofs.Stores.{stored}
use Rattle.words.proofs.U64Word.put.Goals as goal

pub returns : goal.returns
returns c = stored c.args.buf.now c.args.at 8 c.args.self (c.copy_from_slice.ensures.after ∙ c.to_le_bytes.ensures ∙ library_bytes 8 c.args.self) c.requires
