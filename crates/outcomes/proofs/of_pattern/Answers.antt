-- `outcomes::of_pattern` meets its contract. Assumes nothing.
use Prim.Native.Nat.{◌-◌}
use native.Mathlib.Omega.{arith}
use lib.Pow.{pow_mono}
use Rattle.kinds.proofs.Patterns.{one_shifted}
use Rattle.outcomes.proofs.Ranges.{pattern-out, pattern-low, pattern-signed-low, pattern-high}
use Rattle.outcomes.proofs.of_pattern.Goals as goal

pub overflow_sub-result-then-half-p-2 : goal.overflow_sub-result-then-half-p-2
overflow_sub-result-then-half-p-2 c =
    rw (one_shifted 64 (c.args.target.kind.bits - 1) (omega arith)) (omega (arith, pow_mono {i = c.args.target.kind.bits - 1} {j = 63} (omega arith)))

pub returns-then-half-p : goal.returns-then-half-p
returns-then-half-p c =
    let e = one_shifted 64 (c.args.target.kind.bits - 1) (omega arith) in
    rw c.if-target.true (simp e (pattern-high c.args.target.kind.bits c.args.p c.args.target.fits.0 (simp e at c.if-p-half.true) (simp e at c.if-half-p.true) c.args.target.fits.1))

pub returns-else-half-p : goal.returns-else-half-p
returns-else-half-p c =
    let e = one_shifted 64 (c.args.target.kind.bits - 1) (omega arith) in
    rw c.if-target.true (pattern-signed-low c.args.target.kind.bits c.args.p c.args.target.fits.0 (simp e at c.if-p-half.true) (simp e at c.if-half-p.false))

pub returns-else-target : goal.returns-else-target
returns-else-target c =
    let e = one_shifted 64 (c.args.target.kind.bits - 1) (omega arith) in
    rw c.if-target.false (pattern-low c.args.target.kind.bits c.args.p c.args.target.fits.0 (simp e at c.if-p-half.true))

pub returns : goal.returns
returns c =
    let e = one_shifted 64 (c.args.target.kind.bits - 1) (omega arith) in
    pattern-out c.args.target.kind.bits c.args.p c.args.target.fits.0 c.args.target.kind.signed (simp e at c.if-p-half.false)
