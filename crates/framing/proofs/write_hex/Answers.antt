-- `framing::write_hex` meets its contract. Assumes nothing.
use mathlib.Core.Path.{◌≡◌, sym, ap, ◌∙◌}
use native.Mathlib.Nat.{le_refl}
use lib.Dec.{lit<}
use lib.ListN.{length}
use Rattle.buffer.specs.AtEnd.{ended}
use Rattle.digits.proofs.Text.{length-text}
use Rattle.radix.specs.Radix.{digit_byte}
use Rattle.writing.specs.Text.{numeral}
use Rattle.writing.proofs.Cases.{lacks-room, has_room}
use Rattle.framing.proofs.write_hex.Goals as goal
use Rattle.framing.proofs.write_hex.Goals.{After-count-len}

counted : (c : After-count-len) → c.count-len.result ≡ length (numeral c.args.format c.args.n)
counted c =
    c.count-len.ensures ∙ sym (ap length (c.hex_letter-letter.ensures.2 c.args.n) ∙ length-text (digit_byte c.hex_letter-letter.result) 16 (lit< tt) c.args.n)

pub returns-then-out-len : goal.returns-then-out-len
returns-then-out-len c =
    lacks-room (numeral c.args.format c.args.n) c.args.out.now c.count-len.result (counted (goal.at.returns-then-out-len c).After-count-len) c.if-out-len.true

pub write-requires : goal.write-requires
write-requires c =
    (c.hex_letter-letter.ensures.0, c.hex_letter-letter.ensures.1, counted (goal.at.write-requires c).After-count-len ∙ ap length (c.hex_letter-letter.ensures.2 c.args.n), le_refl _, c.if-out-len.false)

pub returns : goal.returns
returns c =
    rw c.write.ensures.0
    (has_room (numeral c.args.format c.args.n) c.args.out.now c.count-len.result (counted (goal.at.returns c).After-count-len) c.write.new.buf c.if-out-len.false
    (c.write.ensures.1 ∙ ap (ended c.args.out.now c.count-len.result) (sym (c.hex_letter-letter.ensures.2 c.args.n))))
