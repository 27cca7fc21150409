-- `framed_exponents::write_scaled` meets its contract: the text is written where it stands in the end, behind a minus or without one. Assumes nothing.
use mathlib.Core.Bool.{Bool}
use mathlib.Core.List.{List, ◌∷◌}
use mathlib.Core.Path.{◌≡◌, ap}
use Prim.Native.Nat.{ℕ, ◌+◌}
use native.Mathlib.Omega.{arith}
use lib.ListN.{length, set}
use Rattle.buffer.proofs.AtEnd.{ended-front}
use Rattle.exponent.specs.Coefficient.{scaled_text}
use Rattle.scaling.specs.declared.Scaled.{Scaled}
use Rattle.writing.specs.Text.{exponent_letter, unframed}
use Rattle.writing.proofs.Cases.{lacks-room, has_room}
use Rattle.framed_exponents.proofs.write_scaled.Goals as goal
use Rattle.framed_exponents.proofs.write_scaled.Goals.{After-size-size, Else-negative, Then-negative}

pub size-size-requires : goal.size-size-requires
size-size-requires c = c.requires

-- the text, and how long it is
abbrev shown_text : ℕ → Scaled → List ℕ
shown_text format scaled = scaled_text (exponent_letter format) scaled

long : (c : After-size-size) → c.size-size.result ≡ length (shown_text c.args.format c.args.scaled)
long c = c.size-size.ensures.1 (exponent_letter c.args.format)

-- behind a minus and without one
below : (c : Then-negative) → let t = shown_text c.args.format c.args.scaled in unframed c.args.negative t ≡ 45 ∷ t
below c = ap (λ (b : Bool). unframed b (shown_text c.args.format c.args.scaled)) c.if-negative.true

from : (c : Else-negative) → let t = shown_text c.args.format c.args.scaled in unframed c.args.negative t ≡ t
from c = ap (λ (b : Bool). unframed b (shown_text c.args.format c.args.scaled)) c.if-negative.false

pub overflow_add-need : goal.overflow_add-need
overflow_add-need c = record { fits = omega (arith, c.size-size.ensures.0) }

pub returns-then-out-need : goal.returns-then-out-need
returns-then-out-need c =
    rw (below (goal.at.returns-then-out-need c).Then-negative) (lacks-room (45 ∷ shown_text c.args.format c.args.scaled) c.args.out.now (c.size-size.result + 1) (omega (arith, long (goal.at.returns-then-out-need c).After-size-size)) c.if-out-need.true)

-- the letter is the format's
lettered : (format : ℕ) (scaled : Scaled) (letter : ℕ) → letter ≡ exponent_letter format → scaled_text letter scaled ≡ shown_text format scaled
lettered format scaled letter i = ap (λ (x : ℕ). scaled_text x scaled) i

pub write_at-requires : goal.write_at-requires
write_at-requires c =
    (c.requires, omega (arith, ap length (lettered c.args.format c.args.scaled c.letter_of.result c.letter_of.ensures), long (goal.at.write_at-requires c).After-size-size, c.if-out-need.false))

pub returns-then-negative : goal.returns-then-negative
returns-then-negative c =
    let n : 1 + length (shown_text c.args.format c.args.scaled) ≡ c.size-size.result + 1 = omega (arith, long (goal.at.returns-then-negative c).After-size-size) in
    rw (below (goal.at.returns-then-negative c).Then-negative)
    (has_room (45 ∷ shown_text c.args.format c.args.scaled) c.args.out.now (c.size-size.result + 1) (omega (arith, long (goal.at.returns-then-negative c).After-size-size)) (set c.write_at.new.buf 0 45) c.if-out-need.false
    (rw (rw (lettered c.args.format c.args.scaled c.letter_of.result c.letter_of.ensures, n) at c.write_at.ensures) (ended-front c.args.out.now 0 (c.size-size.result + 1) 45 (shown_text c.args.format c.args.scaled) (omega (arith, long (goal.at.returns-then-negative c).After-size-size)) c.if-out-need.false)))

pub returns-then-out-size : goal.returns-then-out-size
returns-then-out-size c =
    rw (from (goal.at.returns-then-out-size c).Else-negative) (lacks-room (shown_text c.args.format c.args.scaled) c.args.out.now c.size-size.result (long (goal.at.returns-then-out-size c).After-size-size) c.if-out-size.true)

pub write_at-requires-2 : goal.write_at-requires-2
write_at-requires-2 c =
    (c.requires, omega (arith, ap length (lettered c.args.format c.args.scaled c.letter_of-2.result c.letter_of-2.ensures), long (goal.at.write_at-requires-2 c).After-size-size, c.if-out-size.false))

pub returns : goal.returns
returns c =
    let n : 0 + length (shown_text c.args.format c.args.scaled) ≡ c.size-size.result = omega (arith, long (goal.at.returns c).After-size-size) in
    rw (from (goal.at.returns c).Else-negative)
    (has_room (shown_text c.args.format c.args.scaled) c.args.out.now c.size-size.result (long (goal.at.returns c).After-size-size) c.write_at-2.new.buf c.if-out-size.false (rw (lettered c.args.format c.args.scaled c.letter_of-2.result c.letter_of-2.ensures, n) at c.write_at-2.ensures))
