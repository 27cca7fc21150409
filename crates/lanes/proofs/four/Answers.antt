-- `lanes::four` meets its contract: zeros lie in the four bytes above. Assumes nothing.
use mathlib.Core.List.{map, ◌++◌}
use mathlib.Core.Path.{sym, ap, ◌∙◌, subst}
use Prim.Native.Nat.{ℕ}
use native.Mathlib.Nat.{div-eq_of_lt}
use lib.Dec.{lit<, lit≤}
use lib.ListN.{take}
use Rattle.digits.specs.Digits.{Below}
use Rattle.digits.specs.Text.{last_text}
use Rattle.digits.proofs.Digits.{Below-append}
use Rattle.lanes.specs.Letters.{digit_byte}
use Rattle.lanes.proofs.Letters.{bytes-last, below_last}
use Rattle.words.specs.Bytes.{bytes_of}
use Rattle.words.proofs.Bytes.{bytes-mod, bytes-split, bytes_take}
use borrow.Author.Rules.{rules}
use Rattle.lanes.proofs.four.Goals as goal

pub spelled-requires : goal.spelled-requires
unfolding Below bytes_of
spelled-requires c =
    let up = bytes-split 4 4 c.spread4.result ∙ ap (λ (y : ℕ). bytes_of 4 c.spread4.result ++ bytes_of 4 y) (div-eq_of_lt (search rules)) in
    let low = below_last 16 4 c.args.n (lit< tt) (lit≤ tt) c.spread4.ensures in
    (c.requires.0, c.requires.1, subst (Below 16) (sym up) (Below-append 16 (bytes_of 4 c.spread4.result) (bytes_of 4 0) low (lit< tt, (lit< tt, (lit< tt, (lit< tt, tt))))))

pub returns : goal.returns
unfolding last_text bytes_of
returns c =
    bytes-mod 4 c.spelled.result ∙ sym (bytes_take 4 4 c.spelled.result) ∙ ap (take 4) c.spelled.ensures
    ∙ ap (map (digit_byte c.args.letter)) (bytes-last 16 4 c.args.n (lit< tt) (lit≤ tt) c.spread4.ensures)
