-- `end_at` of i64 meets its contract: a minus stands in front of the magnitude's text. Assumes nothing.
use mathlib.Core.Bool.{true}
use mathlib.Core.List.{◌∷◌}
use mathlib.Core.Path.{◌≡◌}
use native.Mathlib.Nat.{pos_of_ne-zero}
use lib.Dec.{lit<}
use mir.Facts.{to_z-of_z}
use mir.Syntax.{w64}
use mir.Val.{to_z, of_z}
use Rattle.digits.specs.Text.{ascii, decimal, signed}
use Rattle.digits.proofs.Text.{text-some}
use Rattle.kinds.specs.Kinds.{split_of}
use Rattle.kinds.specs.declared.Split.{Split}
use Rattle.decimal.proofs.Ends.{front-nothing, front-no-room, front-room, front-within}
use Rattle.decimal.proofs.Signed.{with-minus, no_minus}
use Rattle.decimal.proofs.I64Number.end_at.Goals as goal
use Rattle.decimal.proofs.I64Number.end_at.Goals.{Start}

-- the text by the split that the code made
minus : (s : Start) (r : Split) → r ≡ split_of (to_z w64 (of_z w64 s.args.self)) → r.negative ≡ true → signed s.args.self ≡ 45 ∷ decimal r.magnitude
minus s r e h = with-minus s.args.self r (simp (to_z-of_z s.ranges.self) at e) h

pub returns-then-end-eq0 : goal.returns-then-end-eq0
returns-then-end-eq0 c =
    rw (minus (goal.at.returns-then-end-eq0 c).Start c.split-split.result c.split-split.ensures c.if-split.true) (front-nothing 45 (decimal c.split-split.result.magnitude) c.args.out.now c.if-end-eq0.true)

pub returns-then-at-end : goal.returns-then-at-end
returns-then-at-end c =
    rw (minus (goal.at.returns-then-at-end c).Start c.split-split.result c.split-split.ensures c.if-split.true)
    (front-no-room 45 (decimal c.split-split.result.magnitude) c.args.out.now c.end_at-at.result c.end_at-at.new.out (text-some ascii 10 (lit< tt) c.split-split.result.magnitude) (pos_of_ne-zero c.if-end-eq0.false) c.end_at-at.ensures c.if-at-end.true)

pub bounds-out-at : goal.bounds-out-at
bounds-out-at c =
    front-within 45 (decimal c.split-split.result.magnitude) c.args.out.now c.end_at-at.result c.end_at-at.new.out (text-some ascii 10 (lit< tt) c.split-split.result.magnitude) (pos_of_ne-zero c.if-end-eq0.false) c.end_at-at.ensures

pub returns-then-split : goal.returns-then-split
returns-then-split c =
    rw (minus (goal.at.returns-then-split c).Start c.split-split.result c.split-split.ensures c.if-split.true)
    (front-room 45 (decimal c.split-split.result.magnitude) c.args.out.now c.end_at-at.result c.end_at-at.new.out (text-some ascii 10 (lit< tt) c.split-split.result.magnitude) (pos_of_ne-zero c.if-end-eq0.false) c.end_at-at.ensures c.if-at-end.false)

pub returns : goal.returns
returns c =
    rw (no_minus c.args.self c.split-split.result (simp (to_z-of_z c.ranges.self) at c.split-split.ensures) c.if-split.false) c.end_at.ensures
