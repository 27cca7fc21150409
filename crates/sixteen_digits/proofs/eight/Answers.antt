-- `sixteen_digits::eight` meets its contract. Assumes nothing.
use mathlib.Core.List.{map}
use mathlib.Core.Path.{◌≡◌, sym, ap, ◌∙◌}
use lib.Dec.{lit<, lit≤}
use Rattle.digits.specs.Digits.{last}
use Rattle.digits.specs.Text.{last_text}
use Rattle.digits.proofs.Last.{last-unique}
use Rattle.lanes.specs.Lanes.{word}
use Rattle.lanes.specs.Letters.{digit_byte}
use Rattle.words.specs.Bytes.{bytes_of}
use Rattle.words.proofs.Bytes.{length-bytes_of}
use Rattle.digit_words.proofs.Masks.{halved}
use borrow.Author.Rules.{rules}
use Rattle.sixteen_digits.proofs.eight.Goals as goal

pub spelled-requires : goal.spelled-requires
unfolding word
spelled-requires c = (c.args.letter.apart.0, search rules, halved 8 c.nibbles-w.result c.if-w-ne0.false)

pub number-requires : goal.number-requires
unfolding word
number-requires c = (lit≤ tt, lit≤ tt, halved 8 c.nibbles-w.result c.if-w-ne0.false)

pub returns : goal.returns
unfolding last_text word
returns c =
    let α = digit_byte c.args.letter.first in
    let are : last 16 8 c.number.result ≡ bytes_of 8 c.nibbles-w.result =
    ap (last 16 8) c.number.ensures.0 ∙ rw length-bytes_of at (last-unique 16 (lit< tt) (bytes_of 8 c.nibbles-w.result) (halved 8 c.nibbles-w.result c.if-w-ne0.false)) in
    (ap (bytes_of 8) (sym c.if-spelled-u.false) ∙ c.spelled.ensures ∙ ap (map α) (sym are), c.number.ensures.1)
