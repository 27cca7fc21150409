-- `encoding::encode_exp` meets its contract: where there is one digit, the last is written over the first. Assumes nothing.
use native.Mathlib.Omega.{arith}
use lib.ListN.{length-set}
use Rattle.encoding.proofs.Encoding.{exp-least, exp-digits}
use Rattle.encoding.proofs.encode_exp.Goals as goal

pub overflow_cast-short : goal.overflow_cast-short
overflow_cast-short c = omega (arith, c.requires.0)

pub overflow_cast-buf : goal.overflow_cast-buf
overflow_cast-buf c = omega (arith, c.requires.0)

pub overflow_add-buf : goal.overflow_add-buf
overflow_add-buf c = omega (arith, c.requires.0)

pub bounds-buf-at-2 : goal.bounds-buf-at-2
bounds-buf-at-2 c = simp length-set (omega (arith, c.requires.1, exp-least c.args.letter c.args.exp))

pub overflow_sub-buf : goal.overflow_sub-buf
overflow_sub-buf c = omega (arith, c.exp_length-len.ensures.1 c.args.letter, exp-least c.args.letter c.args.exp)

pub bounds-buf-at-3 : goal.bounds-buf-at-3
bounds-buf-at-3 c = simp length-set (omega (arith, c.requires.1, c.exp_length-len.ensures.1 c.args.letter, exp-least c.args.letter c.args.exp))

pub returns : goal.returns
returns c =
    let n = c.exp_length-len.ensures.1 c.args.letter in
    (n, exp-digits c.args.buf.now c.args.at c.args.letter c.args.exp c.exp_length-len.result c.requires.0 n (omega (arith, c.requires.1)))
