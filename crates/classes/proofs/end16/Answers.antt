-- `classes::end16` meets its contract: eight digits without the zeros in front, and the last eight. Assumes nothing.
use mathlib.Core.Path.{ap₂, ◌∙◌}
use mathlib.Core.List.{List, ◌++◌}
use Prim.Native.Nat.{ℕ, ◌/◌, ◌%◌, ◌<◌}
use native.Mathlib.Omega.{arith}
use Rattle.digits.specs.Text.{ascii, decimal}
use Rattle.digits.proofs.Text.{text-longer, text-some}
use Rattle.classes.proofs.Heads.{ten, each-digit, last-text, head-length, head-text, stands, front-some, joined}
use Rattle.classes.proofs.end16.Goals as goal

small : (n : ℕ) → n < 10000000000000000 → n / 100000000 < 100000000
small n h = omega arith

pub shown-y-requires : goal.shown-y-requires
shown-y-requires c = each-digit 8 (c.args.n % 100000000) _ c.eight.ensures

pub shown-requires : goal.shown-requires
shown-requires c = each-digit 8 (c.args.n / 100000000) _ c.eight-x.ensures

pub tail_two-requires : goal.tail_two-requires
tail_two-requires c =
    let p = front-some 8 c.args.n c.requires.0 in
    let h = head-length 8 (c.args.n / 100000000) _ c.eight-x.ensures _ c.zeros-z.ensures p (small c.args.n c.requires.1) in
    let some = text-some ascii 10 ten (c.args.n / 100000000) in
    let all = text-longer ascii 10 ten 8 c.args.n c.requires.0 in
    (omega arith, omega arith, omega arith, c.requires.3)

pub returns : goal.returns
returns c =
    let p = front-some 8 c.args.n c.requires.0 in
    let h = head-length 8 (c.args.n / 100000000) _ c.eight-x.ensures _ c.zeros-z.ensures p (small c.args.n c.requires.1) in
    let front = head-text 8 (c.args.n / 100000000) _ c.eight-x.ensures _ c.zeros-z.ensures p (small c.args.n c.requires.1) _ c.shown.ensures in
    let behind = last-text 8 (c.args.n % 100000000) _ c.eight.ensures _ c.shown-y.ensures in
    let t = ap₂ (λ (u v : List ℕ). u ++ v) front behind ∙ joined 8 c.args.n c.requires.0 in
    let all = text-longer ascii 10 ten 8 c.args.n c.requires.0 in
    stands c.args.buf.now _ (decimal c.args.n) _ _ c.args.end c.tail_two.ensures.1 t (omega (arith, c.tail_two.ensures.0)) c.requires.3
