-- `pairs::put4` meets its contract: four digits are two pairs. Assumes nothing.
use mathlib.Core.Path.{◌≡◌, ap, ◌∙◌}
use mathlib.Core.List.{◌++◌}
use Prim.Native.Nat.{ℕ, ◌+◌, ◌/◌, ◌%◌}
use lib.Dec.{lit<}
use lib.Seq.{sets}
use Rattle.digits.specs.Text.{ascii, last_text}
use Rattle.digits.proofs.Text.{length-last_text, last_text-split, last_text-mod}
use Rattle.words.proofs.Stores.{sets-append}
use Rattle.pairs.proofs.put4.Goals as goal

pub returns : goal.returns
returns c =
    let front = last_text ascii 10 2 (c.args.k / 100) in
    let a : last_text ascii 10 4 c.args.k ≡ front ++ last_text ascii 10 2 c.args.k = last_text-split ascii 10 2 2 c.args.k in
    let m : last_text ascii 10 2 (c.args.k % 100) ≡ last_text ascii 10 2 c.args.k = last_text-mod ascii 10 (lit< tt) 2 c.args.k in
    let b : sets c.args.buf.now c.args.at (front ++ last_text ascii 10 2 c.args.k) ≡ sets (sets c.args.buf.now c.args.at front) (c.args.at + 2) (last_text ascii 10 2 c.args.k) =
    sets-append c.args.buf.now c.args.at front (last_text ascii 10 2 c.args.k) ∙ ap (λ (j : ℕ). sets (sets c.args.buf.now c.args.at front) (c.args.at + j) (last_text ascii 10 2 c.args.k)) (length-last_text ascii 10 2 (c.args.k / 100)) in
    cc
