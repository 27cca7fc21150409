-- `classes::end20` meets its contract: four digits without the zeros in front, the eight behind them, and the last eight. Assumes nothing.
use mathlib.Core.Path.{◌≡◌, sym, ap, ap₂, ◌∙◌}
use mathlib.Core.List.{List, ◌++◌}
use Prim.Native.Nat.{ℕ, ◌-◌, ◌/◌, ◌%◌, ◌^◌, ◌<◌, ◌≤◌}
use native.Mathlib.Nat.{div-div-eq-div-mul}
use native.Mathlib.Omega.{arith}
use Rattle.digits.specs.Text.{ascii, last_text, decimal}
use Rattle.digits.proofs.Text.{text-longer, text-some}
use Rattle.classes.proofs.Heads.{ten, each-digit, last-text, head-length, head-text, stands, front-some, joined, stored_on}
use Rattle.classes.proofs.end20.Goals as goal

small : (n : ℕ) → n < 2 ^ 64 → n / 10000000000000000 < 10000
small n h = omega arith

-- the digits in front of the last eight
in-front : (n : ℕ) → 10000000000000000 ≤ n → decimal (n / 10000000000000000) ++ last_text ascii 10 8 (n / 100000000 % 100000000) ≡ decimal (n / 100000000)
in-front n h =
    let d : n / 10000000000000000 ≡ n / 100000000 / 100000000 = sym (div-div-eq-div-mul n 100000000 100000000) in
    rw d (joined 8 (n / 100000000) (omega arith))

pub shown-y-requires : goal.shown-y-requires
shown-y-requires c = each-digit 8 (c.args.n / 100000000 % 100000000) _ c.eight.ensures

pub shown4-requires : goal.shown4-requires
shown4-requires c = each-digit 4 (c.args.n / 10000000000000000) _ c.four-x.ensures

pub overflow_sub-end : goal.overflow_sub-end
overflow_sub-end c = omega (arith, text-longer ascii 10 ten 16 c.args.n c.requires.0)

pub tail_two-at-requires : goal.tail_two-at-requires
tail_two-at-requires c =
    let h = head-length 4 (c.args.n / 10000000000000000) _ c.four-x.ensures _ c.zeros-z.ensures (front-some 16 c.args.n c.requires.0) (small c.args.n c.ranges.n.fits) in
    let some = text-some ascii 10 ten (c.args.n / 10000000000000000) in
    let all = text-longer ascii 10 ten 16 c.args.n c.requires.0 in
    (omega arith, omega arith, omega arith, omega (arith, c.requires.2))

pub shown-requires : goal.shown-requires
shown-requires c = each-digit 8 (c.args.n % 100000000) _ c.eight-2.ensures

pub overflow_sub-end-2 : goal.overflow_sub-end-2
overflow_sub-end-2 c = omega (arith, text-longer ascii 10 ten 16 c.args.n c.requires.0)

pub put-requires : goal.put-requires
put-requires c = omega (arith, text-longer ascii 10 ten 16 c.args.n c.requires.0)

pub returns : goal.returns
returns c =
    let p = front-some 16 c.args.n c.requires.0 in
    let q = small c.args.n c.ranges.n.fits in
    let h = head-length 4 (c.args.n / 10000000000000000) _ c.four-x.ensures _ c.zeros-z.ensures p q in
    let first = head-text 4 (c.args.n / 10000000000000000) _ c.four-x.ensures _ c.zeros-z.ensures p q _ c.shown4.ensures in
    let second = last-text 8 (c.args.n / 100000000 % 100000000) _ c.eight.ensures _ c.shown-y.ensures in
    let third = last-text 8 (c.args.n % 100000000) _ c.eight-2.ensures _ c.shown.ensures in
    let front = ap₂ (λ (u v : List ℕ). u ++ v) first second ∙ in-front c.args.n c.requires.0 in
    let t = ap (λ (v : List ℕ). decimal (c.args.n / 100000000) ++ v) third ∙ joined 8 c.args.n (omega (arith, c.requires.0)) in
    let all = text-longer ascii 10 ten 16 c.args.n c.requires.0 in
    let less = text-longer ascii 10 ten 8 c.args.n (omega (arith, c.requires.0)) in
    let both = stored_on c.args.buf.now _ _ _ _ (decimal (c.args.n / 100000000)) c.tail_two-at.result (c.args.end - 8) c.tail_two-at.ensures.1 front c.put.ensures (omega (arith, c.tail_two-at.ensures.0)) in
    stands c.args.buf.now _ (decimal c.args.n) _ _ c.args.end both t (omega (arith, c.tail_two-at.ensures.0)) c.requires.2
