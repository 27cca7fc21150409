-- `classes::end8` meets its contract: eight digits without the zeros in front. Assumes nothing.
use native.Mathlib.Omega.{arith}
use Rattle.digits.specs.Text.{decimal}
use Rattle.classes.proofs.Heads.{each-digit, head-length, head-text, stands, longer}
use Rattle.classes.proofs.end8.Goals as goal

pub shown-requires : goal.shown-requires
shown-requires c = each-digit 8 c.args.n _ c.eight-x.ensures

pub tail-requires : goal.tail-requires
tail-requires c =
    let h = head-length 8 c.args.n _ c.eight-x.ensures _ c.zeros-z.ensures (omega arith) c.requires.1 in
    let m = longer 4 c.args.n c.requires.0 in
    (omega arith, omega arith, c.requires.3)

pub returns : goal.returns
returns c =
    let h = head-length 8 c.args.n _ c.eight-x.ensures _ c.zeros-z.ensures (omega arith) c.requires.1 in
    let t = head-text 8 c.args.n _ c.eight-x.ensures _ c.zeros-z.ensures (omega arith) c.requires.1 _ c.shown.ensures in
    stands c.args.buf.now _ (decimal c.args.n) _ _ c.args.end c.tail.ensures.1 t (omega (arith, c.tail.ensures.0)) c.requires.3
