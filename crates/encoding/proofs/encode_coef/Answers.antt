-- `encoding::encode_coef` meets its contract: a single digit, and a lead with a point and a fraction. Assumes nothing.
use mathlib.Core.Path.{◌≡◌}
use Prim.Native.Nat.{ℕ, suc, ◌+◌, ◌<◌}
use native.Mathlib.Omega.{arith}
use lib.ListN.{length-set}
use Rattle.scientific.specs.Sci.{exponent_of}
use Rattle.scientific.proofs.Tens as T
use Rattle.encoding.proofs.Encoding.{one-digit, fraction}
use Rattle.encoding.proofs.encode_coef.Goals as goal

-- a number with no fraction digit is below ten
small : (m f z : ℕ) → exponent_of m ≡ f → f + z ≡ 0 → m < 10
small m f z e h = let l = T.hi m in let k : suc (exponent_of m) ≡ 1 = omega arith in omega (arith, rw k at l)

pub overflow_cast-buf : goal.overflow_cast-buf
overflow_cast-buf c = omega (arith, small _ _ _ c.requires.0 c.if-coef_prec-more_prec-eq0.true)

pub overflow_add-buf : goal.overflow_add-buf
overflow_add-buf c = omega (arith, small _ _ _ c.requires.0 c.if-coef_prec-more_prec-eq0.true)

pub returns-then-coef_prec-more_prec-eq0 : goal.returns-then-coef_prec-more_prec-eq0
returns-then-coef_prec-more_prec-eq0 c = one-digit c.args.buf.now c.args.at c.args.coef c.args.coef_prec c.args.more_prec c.if-coef_prec-more_prec-eq0.true (omega arith)

pub write_before-requires : goal.write_before-requires
write_before-requires c = (omega (arith, T.decimal-are c.args.coef), c.requires.2)

pub bounds-buf-at-4 : goal.bounds-buf-at-4
bounds-buf-at-4 c = simp length-set (omega arith)

pub returns : goal.returns
returns c =
    rw c.write_before.ensures.1 (fraction c.args.buf.now c.args.at c.args.coef c.args.coef_prec c.args.more_prec c.requires.0 c.if-coef_prec-more_prec-eq0.false c.requires.2)
