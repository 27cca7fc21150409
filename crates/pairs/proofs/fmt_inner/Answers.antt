-- `pairs::fmt_inner` meets its contract. The invariant: what is left of the text, written so that it ends at the offset, completes the buffer (`Left`).
-- The measure is the number that is left. Assumes nothing.
use mathlib.Core.Path.{◌≡◌}
use mathlib.Core.List.{List, [], ◌∷◌}
use mathlib.Core.Logic.{⊎_elim}
use Prim.Native.Nat.{ℕ, ◌+◌, ◌-◌, ◌*◌, ◌%◌, ◌≤◌, ◌<◌}
use native.Mathlib.Nat.{le_refl}
use native.Mathlib.Omega.{arith}
use lib.ListN.{length-set, get_or}
use Rattle.buffer.proofs.Left.{left-start, left-room, left-last}
use Rattle.digits.specs.Text.{decimal}
use Rattle.digits.proofs.Tables.{table-units}
use Rattle.pairs.proofs.Pending.{Rest, rest-room, rest-store, pending, pending-all, pending-one, pending-none}
use Rattle.pairs.proofs.fmt_inner.Goals as goal
use Rattle.pairs.proofs.fmt_inner.Goals.{Joined-remain-gt9, Joined-then-remain-ne0, then-remain-gt9, else-remain-gt9}

pub loop-remain-init : goal.loop-remain-init
loop-remain-init c =
    record {
      less = le_refl c.args.n;
      left = left-start c.args.buf.now c.args.end (decimal c.args.n) (pending c.args.n c.args.n) (pending-all c.args.n) c.requires.1 c.requires.2;
    }

pub overflow_sub-offset : goal.overflow_sub-offset
overflow_sub-offset c = rest-room c.loop-remain.invariant 3 c.loop-remain-test.true

pub put4-requires : goal.put4-requires
put4-requires c =
    let h = rest-room c.loop-remain.invariant 3 c.loop-remain-test.true in
    (c.requires.0, omega arith, omega (arith, h, c.loop-remain.invariant.left.within))

pub loop-remain-smaller : goal.loop-remain-smaller
loop-remain-smaller c = omega arith

pub loop-remain-preserved : goal.loop-remain-preserved
loop-remain-preserved c =
    let h = rest-room c.loop-remain.invariant 3 c.loop-remain-test.true in
    rw c.put4.ensures
    (rest-store c.loop-remain.invariant 3 c.loop-remain-test.true (c.loop-remain.offset - 4) (omega arith))

pub overflow_sub-offset-then-remain-gt9 : goal.overflow_sub-offset-then-remain-gt9
overflow_sub-offset-then-remain-gt9 c = rest-room c.loop-remain.invariant 1 c.if-remain-gt9.true

pub put2-requires : goal.put2-requires
put2-requires c =
    let h = rest-room c.loop-remain.invariant 1 c.if-remain-gt9.true in
    (c.requires.0, omega arith, omega (arith, h, c.loop-remain.invariant.left.within))

-- after the pair at most one digit is left
record Joined (n end : ℕ) (buf₀ : List ℕ) (remain offset : ℕ) (buf : List ℕ) : Type 0 where
  rest : Rest n end buf₀ remain offset buf
  small : remain < 10

joined : (c : Joined-remain-gt9) →
    Joined c.args.n c.args.end c.args.buf.now
    c.if-remain-gt9.remain c.if-remain-gt9.offset c.if-remain-gt9.buf
joined c =
    elim c.if-remain-gt9.branch [
      | then-remain-gt9 w ↦
          let h = rest-room c.loop-remain.invariant 1 w.if-remain-gt9.true in
          rw (w.buf-is, w.offset-is, w.remain-is, w.put2.ensures) (record {
            rest = rest-store c.loop-remain.invariant 1 w.if-remain-gt9.true (c.loop-remain.offset - 2) (omega arith);
            small = omega (arith, c.loop-remain-test.false);
          })
      | else-remain-gt9 w ↦ rw (w.buf-is, w.offset-is, w.remain-is) (record { rest = c.loop-remain.invariant; small = omega (arith, w.if-remain-gt9.false) })
    ]

-- where a last digit is written it is all that is left
one_left : (c : Joined-then-remain-ne0) →
    Joined c.args.n c.args.end c.args.buf.now c.if-remain-gt9.remain c.if-remain-gt9.offset c.if-remain-gt9.buf →
    pending c.args.n c.if-remain-gt9.remain ≡ (48 + c.if-remain-gt9.remain) ∷ []
one_left c J =
    pending-one c.args.n c.if-remain-gt9.remain J.rest.less J.small (⊎_elim (λ w z. absurd (w z)) (λ w z. w.1) c.then-remain-ne0.either)

room-left : (c : Joined-then-remain-ne0) →
    Joined c.args.n c.args.end c.args.buf.now c.if-remain-gt9.remain c.if-remain-gt9.offset c.if-remain-gt9.buf →
    1 ≤ c.if-remain-gt9.offset
room-left c J = left-room J.rest.left [] ((48 + c.if-remain-gt9.remain) ∷ []) (one_left c J)

pub overflow_sub-offset-then-remain-ne0 : goal.overflow_sub-offset-then-remain-ne0
overflow_sub-offset-then-remain-ne0 c = room-left (goal.at.overflow_sub-offset-then-remain-ne0 c).Joined-then-remain-ne0 (joined (goal.at.overflow_sub-offset-then-remain-ne0 c).Joined-remain-gt9)

pub overflow_mul-buf : goal.overflow_mul-buf
overflow_mul-buf c = omega arith

pub overflow_add-buf : goal.overflow_add-buf
overflow_add-buf c = omega arith

pub bounds-pairs-remain : goal.bounds-pairs-remain
bounds-pairs-remain c = omega arith

pub bounds-buf-offset : goal.bounds-buf-offset
bounds-buf-offset c =
    omega (arith, room-left (goal.at.bounds-buf-offset c).Joined-then-remain-ne0 (joined (goal.at.bounds-buf-offset c).Joined-remain-gt9), (joined (goal.at.bounds-buf-offset c).Joined-remain-gt9).rest.left.within)

pub shape_of-buf-then-remain-ne0 : goal.shape_of-buf-then-remain-ne0
shape_of-buf-then-remain-ne0 c =
    simp length-set (joined (goal.at.shape_of-buf-then-remain-ne0 c).Joined-remain-gt9).rest.left.same

pub returns-then-remain-ne0 : goal.returns-then-remain-ne0
returns-then-remain-ne0 c =
    let J = joined (goal.at.returns-then-remain-ne0 c).Joined-remain-gt9 in
    let d : 48 + c.if-remain-gt9.remain % 16 % 10 ≡ 48 + c.if-remain-gt9.remain = omega (arith, J.small) in
    let e : get_or c.args.pairs.now (c.if-remain-gt9.remain % 16 * 2 + 1) 0 ≡ 48 + c.if-remain-gt9.remain = rw (c.requires.0, table-units (c.if-remain-gt9.remain % 16) (omega arith)) d in
    rw e (left-last J.rest.left ((48 + c.if-remain-gt9.remain) ∷ []) (c.if-remain-gt9.offset - 1) (one_left (goal.at.returns-then-remain-ne0 c).Joined-then-remain-ne0 (joined (goal.at.returns-then-remain-ne0 c).Joined-remain-gt9)) (omega (arith, room-left (goal.at.returns-then-remain-ne0 c).Joined-then-remain-ne0 (joined (goal.at.returns-then-remain-ne0 c).Joined-remain-gt9))))

pub shape_of-buf-else-n-eq0 : goal.shape_of-buf-else-n-eq0
shape_of-buf-else-n-eq0 c = (joined (goal.at.shape_of-buf-else-n-eq0 c).Joined-remain-gt9).rest.left.same

pub returns-else-n-eq0 : goal.returns-else-n-eq0
returns-else-n-eq0 c =
    let e : pending c.args.n c.if-remain-gt9.remain ≡ [] = rw c.if-remain-ne0.false (pending-none c.args.n c.if-n-eq0.false) in
    left-last (joined (goal.at.returns-else-n-eq0 c).Joined-remain-gt9).rest.left [] c.if-remain-gt9.offset e (omega arith)
