-- Twenty bytes have room for the decimal text of any u64. Assumes nothing.
use mathlib.Core.Bool.{true}
use mathlib.Core.Path.{◌≡◌}
use Prim.Native.Nat.{ℕ, ◌≤◌, ◌<◌, ◌^◌}
use native.Mathlib.Omega.{arith}
use borrow.Author.Tests.{le-leb}
use lib.Dec.{leb, lit<}
use lib.ListN.{length}
use Rattle.digits.specs.Text.{ascii, decimal}
use Rattle.digits.proofs.Text.{text-most}

-- `has_room` names it for its first return
pub room_for_any : (n room : ℕ) → n < 2 ^ 64 → 20 ≤ room → leb (length (decimal n)) room ≡ true
room_for_any n room f h = le-leb (length (decimal n)) room (omega (arith, text-most ascii 10 (lit< tt) 20 n (lit< tt) (omega arith)))
