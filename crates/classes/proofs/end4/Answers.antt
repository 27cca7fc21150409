-- `classes::end4` meets its contract: one digit, or four without the zeros in front. Assumes nothing.
use mathlib.Core.Path.{◌≡◌, refl, sym, ap}
use mathlib.Core.List.{[], ◌∷◌}
use Prim.Native.Nat.{ℕ, ◌+◌, ◌-◌, ◌<◌}
use native.Mathlib.Omega.{arith}
use lib.ListN.{length}
use Rattle.digits.specs.Text.{ascii, decimal}
use Rattle.digits.proofs.Text.{text-small}
use Rattle.classes.proofs.Heads.{ten, each-digit, head-length, head-text, stands, longer}
use Rattle.classes.proofs.end4.Goals as goal

one : (n : ℕ) → n < 10 → length (decimal n) ≡ 1
one n h = ap length (text-small ascii 10 ten n h)

pub overflow_sub-at : goal.overflow_sub-at
overflow_sub-at c = omega (arith, one c.args.n c.if-n-lt10.true)

pub bounds-buf-at : goal.bounds-buf-at
bounds-buf-at c = omega (arith, one c.args.n c.if-n-lt10.true)

pub returns-then-n-lt10 : goal.returns-then-n-lt10
returns-then-n-lt10 c =
    let e = text-small ascii 10 ten c.args.n c.if-n-lt10.true in
    stands c.args.buf.now _ (decimal c.args.n) ((48 + c.args.n) ∷ []) (c.args.end - 1) c.args.end refl (sym e) (omega (arith, one c.args.n c.if-n-lt10.true)) c.requires.2

pub shown4-requires : goal.shown4-requires
shown4-requires c = each-digit 4 c.args.n _ c.four-x.ensures

pub tail-requires : goal.tail-requires
tail-requires c =
    let h = head-length 4 c.args.n _ c.four-x.ensures _ c.zeros-z.ensures (omega arith) c.requires.0 in
    let m = longer 1 c.args.n (omega arith) in
    (omega arith, omega arith, c.requires.2)

pub returns : goal.returns
returns c =
    let h = head-length 4 c.args.n _ c.four-x.ensures _ c.zeros-z.ensures (omega arith) c.requires.0 in
    let t = head-text 4 c.args.n _ c.four-x.ensures _ c.zeros-z.ensures (omega arith) c.requires.0 _ c.shown4.ensures in
    stands c.args.buf.now _ (decimal c.args.n) _ _ c.args.end c.tail.ensures.1 t (omega (arith, c.tail.ensures.0)) c.requires.2
