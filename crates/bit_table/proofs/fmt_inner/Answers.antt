-- `bit_table::fmt_inner` meets its contract. The invariant: what is left of the text, written so that it ends at the offset, completes the buffer (`Left`).
-- The measure is the number that is left. Assumes nothing.
use mathlib.Core.Path.{◌≡◌, refl}
use mathlib.Core.List.{List, [], ◌++◌}
use Prim.Native.Nat.{ℕ, ◌+◌, ◌-◌, ◌/◌, ◌^◌}
use native.Mathlib.Omega.{arith}
use lib.ListN.{length, length-set}
use Rattle.buffer.proofs.Left.{left-start, left-room, left-store, left-last}
use Rattle.digits.specs.Text.{text, last_text}
use Rattle.digits.proofs.Text.{length-last_text}
use Rattle.bit_table.specs.Bits.{table_byte}
use Rattle.bit_table.proofs.Shift.{pair-more, one_last, shifted-less}
use Rattle.bit_table.proofs.fmt_inner.Goals as goal
use Rattle.bit_table.proofs.fmt_inner.Goals.{In-loop-remain}

pub overflow_add-pair : goal.overflow_add-pair
overflow_add-pair c = omega arith

pub loop-remain-init : goal.loop-remain-init
loop-remain-init c =
    let t = text (table_byte c.args.table.now) (2 ^ c.args.shift) c.args.n in
    left-start c.args.buf.now c.args.end t t refl c.requires.2 c.requires.3

pub overflow_cast-pair : goal.overflow_cast-pair
overflow_cast-pair c = omega arith

pub overflow_shr-remain : goal.overflow_shr-remain
overflow_shr-remain c = omega arith

abbrev Digits : List ℕ → ℕ → ℕ → List ℕ
Digits table shift n = text (table_byte table) (2 ^ shift) n

abbrev Pair : List ℕ → ℕ → ℕ → List ℕ
Pair table shift n = last_text (table_byte table) (2 ^ shift) 2 n

abbrev Front : List ℕ → ℕ → ℕ → List ℕ
Front table shift n = Digits table shift (n / 2 ^ (shift + shift))

more : (c : In-loop-remain) →
    let t = c.args.table.now in let s = c.args.shift in let n = c.loop-remain.remain in Digits t s n ≡ Front t s n ++ Pair t s n
more c =
    pair-more (table_byte c.args.table.now) c.args.shift c.requires.0 c.loop-remain.remain c.loop-remain-test.true

length-pair : (table : List ℕ) (shift n : ℕ) → length (Pair table shift n) ≡ 2
length-pair table shift n = length-last_text (table_byte table) (2 ^ shift) 2 n

pub overflow_sub-offset : goal.overflow_sub-offset
overflow_sub-offset c = omega (arith, left-room c.loop-remain.invariant (Front c.args.table.now c.args.shift c.loop-remain.remain) (Pair c.args.table.now c.args.shift c.loop-remain.remain) (more (goal.at.overflow_sub-offset c).In-loop-remain), length-pair c.args.table.now c.args.shift c.loop-remain.remain)

pub put2-requires : goal.put2-requires
put2-requires c =
    let h = overflow_sub-offset (goal.at.put2-requires c).In-loop-remain in
    (c.requires.1, omega (arith, c.loop-remain.invariant.within))

pub overflow_cast-remain : goal.overflow_cast-remain
overflow_cast-remain c = omega arith

pub overflow_shr-remain-in-loop-remain : goal.overflow_shr-remain-in-loop-remain
overflow_shr-remain-in-loop-remain c = omega arith

pub loop-remain-smaller : goal.loop-remain-smaller
loop-remain-smaller c =
    shifted-less (c.args.shift + c.args.shift) c.loop-remain.remain (omega (arith, c.requires.0)) c.loop-remain-test.true

pub loop-remain-preserved : goal.loop-remain-preserved
loop-remain-preserved c =
    let h = overflow_sub-offset (goal.at.loop-remain-preserved c).In-loop-remain in
    rw c.put2.ensures
    (left-store c.loop-remain.invariant (Front c.args.table.now c.args.shift c.loop-remain.remain) (Pair c.args.table.now c.args.shift c.loop-remain.remain) (c.loop-remain.offset - 2) (more (goal.at.loop-remain-preserved c).In-loop-remain) (omega (arith, length-pair c.args.table.now c.args.shift c.loop-remain.remain)))

pub overflow_shr-remain-2 : goal.overflow_shr-remain-2
overflow_shr-remain-2 c = omega arith

pub overflow_sub-offset-2 : goal.overflow_sub-offset-2
overflow_sub-offset-2 c =
    let d = one_last (table_byte c.args.table.now) c.args.shift c.requires.0 c.loop-remain.remain (omega arith) in
    left-room c.loop-remain.invariant [] _ d

pub last_byte-requires : goal.last_byte-requires
last_byte-requires c = c.requires.1

pub bounds-buf-offset : goal.bounds-buf-offset
bounds-buf-offset c =
    let d = one_last (table_byte c.args.table.now) c.args.shift c.requires.0 c.loop-remain.remain (omega arith) in
    omega (arith, left-room c.loop-remain.invariant [] _ d, c.loop-remain.invariant.within)

pub shape_of-buf : goal.shape_of-buf
shape_of-buf c = simp length-set c.loop-remain.invariant.same

pub returns : goal.returns
returns c =
    let d = one_last (table_byte c.args.table.now) c.args.shift c.requires.0 c.loop-remain.remain (omega arith) in
    let h = left-room c.loop-remain.invariant [] _ d in
    rw c.last_byte.ensures (left-last c.loop-remain.invariant _ (c.loop-remain.offset - 1) d (omega arith))
