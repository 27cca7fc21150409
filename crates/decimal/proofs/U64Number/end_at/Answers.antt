-- `end_at` of u64 meets its contract: 20 bytes are room for any text, and of fewer the test of room tells. Assumes nothing.
use mathlib.Core.Path.{sym, ◌∙◌}
use Prim.Native.Nat.{ℕ, ◌^◌, ◌≤◌, ◌<◌}
use native.Mathlib.Nat.{le_refl}
use native.Mathlib.Omega.{arith}
use borrow.Author.Tests.{leb-true, le-leb}
use lib.Dec.{lit<}
use lib.ListN.{length}
use Rattle.digits.specs.Text.{ascii, decimal}
use Rattle.digits.proofs.Text.{text-most}
use Rattle.decimal.proofs.Ends.{has_room, no_room}
use Rattle.decimal.proofs.U64Number.end_at.Goals as goal

any : (n end : ℕ) → n < 2 ^ 64 → 20 ≤ end → length (decimal n) ≤ end
any n end f h = omega (arith, text-most ascii 10 (lit< tt) 20 n (lit< tt) (omega arith))

pub write_before-requires : goal.write_before-requires
write_before-requires c =
    (any c.args.self (length c.args.out.now) c.ranges.self.fits c.if-end-ge20.true, le_refl _)

pub returns-then-end-ge20 : goal.returns-then-end-ge20
returns-then-end-ge20 c =
    let t = le-leb _ _ (any c.args.self (length c.args.out.now) c.ranges.self.fits c.if-end-ge20.true) in
    has_room (decimal c.args.self) c.args.out.now c.write_before.result c.write_before.new.buf t c.write_before.ensures.0 c.write_before.ensures.1

pub write_pairs_before-requires : goal.write_pairs_before-requires
write_pairs_before-requires c =
    let t = sym c.has_room.ensures ∙ c.if-has_room.true in
    (leb-true _ _ t, le_refl _)

pub returns-then-has_room : goal.returns-then-has_room
returns-then-has_room c =
    has_room (decimal c.args.self) c.args.out.now c.write_pairs_before.result c.write_pairs_before.new.buf (sym c.has_room.ensures ∙ c.if-has_room.true) c.write_pairs_before.ensures.0 c.write_pairs_before.ensures.1

pub returns : goal.returns
returns c =
    no_room (decimal c.args.self) c.args.out.now (sym c.has_room.ensures ∙ c.if-has_room.false)
