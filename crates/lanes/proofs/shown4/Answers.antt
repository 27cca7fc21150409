-- `lanes::shown4` meets its contract: zeros lie in the four bytes above. Assumes nothing.
use mathlib.Core.List.{◌++◌}
use mathlib.Core.Path.{sym, ap, ◌∙◌, subst}
use Prim.Native.Nat.{ℕ}
use native.Mathlib.Nat.{div-eq_of_lt}
use lib.Dec.{lit<}
use lib.ListN.{take}
use Rattle.digits.specs.Digits.{Below}
use Rattle.digits.proofs.Digits.{Below-append}
use Rattle.words.specs.Bytes.{bytes_of}
use Rattle.words.proofs.Bytes.{bytes-mod, bytes-split, bytes_take}
use borrow.Author.Rules.{rules}
use Rattle.lanes.proofs.shown4.Goals as goal

pub shown-requires : goal.shown-requires
unfolding Below bytes_of
shown-requires c =
    let up = bytes-split 4 4 c.args.x ∙ ap (λ (y : ℕ). bytes_of 4 c.args.x ++ bytes_of 4 y) (div-eq_of_lt (search rules)) in
    subst (Below 10) (sym up) (Below-append 10 (bytes_of 4 c.args.x) (bytes_of 4 0) c.requires (lit< tt, (lit< tt, (lit< tt, (lit< tt, tt)))))

pub returns : goal.returns
unfolding bytes_of
returns c = bytes-mod 4 c.shown.result ∙ sym (bytes_take 4 4 c.shown.result) ∙ ap (take 4) c.shown.ensures
