-- `put_low` of `u32` meets its contract. Assumes nothing.
use mathlib.Core.Path.{◌∙◌}
use Prim.Native.Nat.{◌%◌}
use Rattle.words.proofs.Bytes.{library_bytes, bytes-mod}
use Rattle.words.proofs.Stores.{stored}
use Rattle.words.proofs.U32Word.put_low.Goals as goal

pub returns : goal.returns
returns c = stored c.args.buf.now c.args.at 2 c.args.self (c.copy_from_slice.ensures.after ∙ c.to_le_bytes.ensures ∙ library_bytes 2 (c.args.self % 65536) ∙ bytes-mod 2 c.args.self) c.requires
