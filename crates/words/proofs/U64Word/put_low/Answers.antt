-- `put_low` of `u64` meets its contract. Assumes nothing.
use mathlib.Core.Path.{◌∙◌}
use Prim.Native.Nat.{◌%◌}
use Rattle.words.proofs.Bytes.{library_bytes, bytes-mod}
use Rattle.words.proofs.Stores.{stored}
use Rattle.words.proofs.U64Word.put_low.Goals as goal

pub returns : goal.returns
returns c = stored c.args.buf.now c.args.at 4 c.args.self (c.copy_from_slice.ensures.after ∙ c.to_le_bytes.ensures ∙ library_bytes 4 (c.args.self % 4294967296) ∙ bytes-mod 4 c.args.self) c.requires
