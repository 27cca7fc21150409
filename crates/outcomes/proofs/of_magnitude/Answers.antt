-- `outcomes::of_magnitude` meets its contract. Assumes nothing.
use Prim.Native.Nat.{◌-◌}
use native.Mathlib.Omega.{arith}
use Rattle.kinds.proofs.Patterns.{one_shifted}
use Rattle.outcomes.proofs.Ranges.{minus-in, minus-out, signed-in, signed-out, unsigned-in, unsigned-out}
use Rattle.outcomes.proofs.of_magnitude.Goals as goal

pub overflow_sub-n : goal.overflow_sub-n
overflow_sub-n c = c.requires.1 c.if-split.true

pub overflow_sub-result : goal.overflow_sub-result
overflow_sub-result c = c.requires.1 c.if-split.true

pub returns-then-n-half : goal.returns-then-n-half
returns-then-n-half c =
    let e = one_shifted 64 (c.args.target.kind.bits - 1) (omega arith) in
    rw (c.requires.0 c.if-split.true, c.if-split.true) (minus-in c.args.target.kind.bits c.args.split.magnitude (c.requires.1 c.if-split.true) (simp e at c.if-n-half.true))

pub returns-then-split : goal.returns-then-split
returns-then-split c =
    let e = one_shifted 64 (c.args.target.kind.bits - 1) (omega arith) in
    rw (c.requires.0 c.if-split.true, c.if-split.true) (minus-out c.args.target.kind.bits c.args.split.magnitude (c.requires.1 c.if-split.true) (simp e at c.if-n-half.false))

pub returns-then-n-half-2 : goal.returns-then-n-half-2
returns-then-n-half-2 c =
    let e = one_shifted 64 (c.args.target.kind.bits - 1) (omega arith) in
    rw (c.if-split.false, c.if-target.true) (signed-in c.args.target.kind.bits c.args.split.magnitude (simp e at c.if-n-half-2.true))

pub returns-then-target : goal.returns-then-target
returns-then-target c =
    let e = one_shifted 64 (c.args.target.kind.bits - 1) (omega arith) in
    rw (c.if-split.false, c.if-target.true) (signed-out c.args.target.kind.bits c.args.split.magnitude (simp e at c.if-n-half-2.false))

pub returns-then-n-half-3 : goal.returns-then-n-half-3
returns-then-n-half-3 c =
    let e = one_shifted 64 (c.args.target.kind.bits - 1) (omega arith) in
    rw (c.if-split.false, c.if-target.false) (unsigned-in c.args.target.kind.bits c.args.split.magnitude c.args.target.fits.0 (simp e at c.if-n-half-3.true))

pub returns : goal.returns
returns c =
    let e = one_shifted 64 (c.args.target.kind.bits - 1) (omega arith) in
    rw (c.if-split.false, c.if-target.false) (unsigned-out c.args.target.kind.bits c.args.split.magnitude c.args.target.fits.0 (simp e at c.if-n-half-3.false))
