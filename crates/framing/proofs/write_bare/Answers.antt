-- `framing::write_bare` meets its contract. Assumes nothing.
use mathlib.Core.Bool.{Bool}
use mathlib.Core.List.{List, ◌∷◌, append_assoc}
use mathlib.Core.Path.{◌≡◌, ap, ◌∙◌}
use Prim.Native.Nat.{ℕ, suc, ◌+◌, ◌-◌, ◌≤◌}
use native.Mathlib.Omega.{arith}
use lib.ListN.{length, set, length-set}
use lib.Seq.{take-suc-set, drop-set-lt}
use Rattle.buffer.specs.AtEnd.{ended}
use Rattle.buffer.proofs.AtEnd.{length-ended}
use Rattle.writing.specs.Text.{unframed, numeral}
use Rattle.writing.proofs.Cases.{lacks-room, has_room}
use Rattle.framing.proofs.Laid.{numeral-few}
use Rattle.framing.proofs.write_bare.Goals as goal
use Rattle.framing.proofs.write_bare.Goals.{Else-negative, Then-negative}

-- a byte in front, and then a text behind it
behind-front : (l : List ℕ) (o e x : ℕ) (t : List ℕ) → o + length (x ∷ t) ≡ e → e ≤ length l → ended (set l o x) e t ≡ ended l e (x ∷ t)
unfolding ended
behind-front l o e x t i k =
    let q : e - length t ≡ suc o = omega arith in
    let q' : e - length (x ∷ t) ≡ o = omega arith in
    rw (q, q', take-suc-set l o x (omega arith), drop-set-lt e l o x (omega arith), append_assoc)

-- the text, behind a minus and without one
below : (c : Then-negative) → unframed c.args.negative (numeral c.args.format c.args.n) ≡ 45 ∷ numeral c.args.format c.args.n
below c = ap (λ (b : Bool). unframed b (numeral c.args.format c.args.n)) c.if-negative.true

from : (c : Else-negative) → unframed c.args.negative (numeral c.args.format c.args.n) ≡ numeral c.args.format c.args.n
from c = ap (λ (b : Bool). unframed b (numeral c.args.format c.args.n)) c.if-negative.false

pub overflow_add-need : goal.overflow_add-need
overflow_add-need c = record { fits = omega (arith, c.count_digits-count.ensures, numeral-few c.args.format c.args.n c.ranges.n.fits) }

pub returns-then-out-need : goal.returns-then-out-need
returns-then-out-need c =
    rw (below (goal.at.returns-then-out-need c).Then-negative) (lacks-room (45 ∷ numeral c.args.format c.args.n) c.args.out.now (c.count_digits-count.result + 1) (omega (arith, c.count_digits-count.ensures)) c.if-out-need.true)

pub write_digits-requires : goal.write_digits-requires
write_digits-requires c =
    (c.count_digits-count.ensures, omega arith, simp length-set c.if-out-need.false)

pub shape_of-out-then-negative : goal.shape_of-out-then-negative
shape_of-out-then-negative c =
    let q = length-ended (set c.args.out.now 0 45) (c.count_digits-count.result + 1) (numeral c.args.format c.args.n) (omega (arith, c.count_digits-count.ensures)) (simp length-set c.if-out-need.false) in
    rw c.write_digits.ensures (simp length-set at q)

pub returns-then-negative : goal.returns-then-negative
returns-then-negative c =
    let d = numeral c.args.format c.args.n in
    rw (below (goal.at.returns-then-negative c).Then-negative)
    (has_room (45 ∷ d) c.args.out.now (c.count_digits-count.result + 1) (omega (arith, c.count_digits-count.ensures)) c.write_digits.new.out c.if-out-need.false
    (c.write_digits.ensures ∙ behind-front c.args.out.now 0 (c.count_digits-count.result + 1) 45 d (omega (arith, c.count_digits-count.ensures)) c.if-out-need.false))

pub returns-then-out-count : goal.returns-then-out-count
returns-then-out-count c =
    rw (from (goal.at.returns-then-out-count c).Else-negative) (lacks-room (numeral c.args.format c.args.n) c.args.out.now c.count_digits-count.result c.count_digits-count.ensures c.if-out-count.true)

pub returns : goal.returns
returns c =
    let room : c.count_digits-count.result ≤ length c.args.out.now = omega arith in
    rw (from (goal.at.returns c).Else-negative) (has_room (numeral c.args.format c.args.n) c.args.out.now c.count_digits-count.result c.count_digits-count.ensures c.write_digits-2.new.out room c.write_digits-2.ensures)
