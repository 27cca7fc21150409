-- `decimal::has_room` meets its contract: a text has room in k places exactly where its number is below 10 ^ k. Assumes nothing.
use mathlib.Core.Path.{sym}
use native.Mathlib.Nat.{pos_of_ne-zero}
use native.Mathlib.Omega.{arith}
use borrow.Author.Tests.{lt-leb}
use lib.Dec.{lit<}
use lib.ListN.{length}
use Rattle.digits.specs.Text.{ascii, decimal}
use Rattle.digits.proofs.Text.{text-some, text-fit}
use Rattle.decimal.proofs.has_room.Goals as goal

pub returns-then-room-eq0 : goal.returns-then-room-eq0
returns-then-room-eq0 c = sym (lt-leb (length (decimal c.args.n)) c.args.room (omega (arith, text-some ascii 10 (lit< tt) c.args.n)))

pub returns : goal.returns
returns c = rw c.power.ensures (sym (text-fit ascii 10 (lit< tt) c.args.room c.args.n (pos_of_ne-zero c.if-room-eq0.false)))
