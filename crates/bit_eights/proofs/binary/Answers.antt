-- `bit_eights::binary` meets its contract. The invariant: what is left of the text, written so that it ends at the offset, completes the buffer (`Left`).
-- The measure is how many digits are left. Assumes nothing.
use mathlib.Core.Path.{◌≡◌, refl}
use Prim.Native.Nat.{ℕ, ◌-◌, ◌/◌, ◌%◌, ◌≤◌, ◌<◌}
use native.Mathlib.Omega.{arith}
use lib.Dec.{lit<}
use lib.ListN.{length}
use lib.Seq.{length-sets}
use Rattle.buffer.proofs.Left.{left-start}
use Rattle.digits.specs.Text.{ascii, text, last_text}
use Rattle.digits.proofs.Text.{last_text-mod, text-most}
use Rattle.lanes.proofs.Tails.{text-more, tail-ended}
use Rattle.bit_eights.proofs.Eights.{eight-less, eight-store, last-sixteen}
use Rattle.bit_eights.proofs.binary.Goals as goal
use Rattle.bit_eights.proofs.binary.Goals.{After-loop-remain, At-loop-remain}

two : 1 < 2
two = lit< tt

last-eight : (n : ℕ) → last_text ascii 2 8 (n % 256) ≡ last_text ascii 2 8 n
last-eight n = last_text-mod ascii 2 two 8 n

pub overflow_cast-len : goal.overflow_cast-len
overflow_cast-len c = record { fits = omega arith }

pub tail-requires : goal.tail-requires
tail-requires c =
    (omega (arith, c.requires.1), omega (arith, c.requires.2), c.requires.3)

pub returns-then-len-le8 : goal.returns-then-len-le8
returns-then-len-le8 c =
    tail-ended ascii 2 two c.args.buf.now c.args.end c.args.n 8 (8 - c.args.len) (omega (arith, c.requires.0, c.if-len-le8.true)) (omega (arith, c.requires.0, c.requires.2)) c.requires.3
    c.tail.ensures.0 (rw (c.eight_bits.ensures, last-eight c.args.n) at c.tail.ensures.1)

pub loop-remain-init : goal.loop-remain-init
loop-remain-init c =
    let t = text ascii 2 c.args.n in
    (left-start c.args.buf.now c.args.end t t refl (omega (arith, c.requires.0, c.requires.2)) c.requires.3, c.requires.0, omega (arith, c.if-len-le8.false))

enough : (c : At-loop-remain) → 8 < length (text ascii 2 c.loop-remain.remain)
enough c = omega (arith, c.loop-remain.invariant.1, c.loop-remain.invariant.2)

room : (c : At-loop-remain) → 8 ≤ c.loop-remain.offset
room c = omega (arith, c.loop-remain.invariant.0.room, enough c)

pub overflow_sub-offset : goal.overflow_sub-offset
overflow_sub-offset c = room (goal.at.overflow_sub-offset c).At-loop-remain

pub put-requires : goal.put-requires
put-requires c = omega (arith, room (goal.at.put-requires c).At-loop-remain, c.loop-remain.invariant.0.within)

pub loop-remain-preserved : goal.loop-remain-preserved
loop-remain-preserved c =
    let h = room (goal.at.loop-remain-preserved c).At-loop-remain in (
      rw (c.put.ensures, c.eight_bits-in-loop-remain.ensures, last-eight c.loop-remain.remain)
          (eight-store ascii 1 (lit< tt) c.loop-remain.remain (c.loop-remain.offset - 8) c.loop-remain.invariant.0 (enough (goal.at.loop-remain-preserved c).At-loop-remain) (omega arith)),
      omega (arith, c.loop-remain.invariant.1, eight-less ascii 1 (lit< tt) c.loop-remain.remain (enough (goal.at.loop-remain-preserved c).At-loop-remain)),
      omega (arith, c.loop-remain.invariant.1, text-more ascii 2 two 16 c.loop-remain.remain c.loop-remain-test.true),
    )

-- past the loop no more are left
few : (c : After-loop-remain) → c.loop-remain.left ≤ 16
few c = omega (arith, c.loop-remain.invariant.1, text-most ascii 2 two 16 c.loop-remain.remain (lit< tt) (omega (arith, c.loop-remain-test.false)))

pub overflow_sub-left-2 : goal.overflow_sub-left-2
overflow_sub-left-2 c = few (goal.at.overflow_sub-left-2 c).After-loop-remain

pub overflow_cast-left : goal.overflow_cast-left
overflow_cast-left c = record { fits = omega arith }

pub tail_two-requires : goal.tail_two-requires
tail_two-requires c =
    (omega (arith, c.loop-remain.invariant.2), omega (arith, c.loop-remain.invariant.2), omega (arith, c.loop-remain.invariant.0.room, c.loop-remain.invariant.1), c.loop-remain.invariant.0.within)

pub shape_of-buf : goal.shape_of-buf
shape_of-buf c = rw (c.tail_two.ensures.1, length-sets) c.loop-remain.invariant.0.same

pub returns : goal.returns
returns c =
    last-sixteen ascii 1 (lit< tt) c.loop-remain.remain c.loop-remain.left c.loop-remain.invariant.0 c.loop-remain.invariant.1 c.loop-remain.invariant.2 (few (goal.at.returns c).After-loop-remain) c.tail_two.ensures.0
    (rw (c.eight_bits-front.ensures, c.eight_bits-back.ensures, last-eight (c.loop-remain.remain / 256), last-eight c.loop-remain.remain) at c.tail_two.ensures.1)
