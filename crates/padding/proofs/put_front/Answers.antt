-- `padding::put_front` meets its contract: each piece goes just before the one behind it. Assumes nothing.
use mathlib.Core.List.{List, ◌++◌}
use Prim.Native.Nat.{ℕ}
use native.Mathlib.Omega.{arith}
use lib.ListN.{replicate, length-append, length-replicate}
use Rattle.buffer.proofs.AtEnd.{ended-on}
use Rattle.padding.specs.Padding.{sign_of, prefix_of}
use Rattle.padding.proofs.put_front.Goals as goal

pub returns : goal.returns
returns c =
    let zs : List ℕ = replicate c.args.pad.zeros 48 in
    let fs = replicate c.args.pad.before c.args.fill in
    let pre = prefix_of c.args.alternate c.args.code in
    let sgn = sign_of c.args.negative c.args.plus in
    let nz = length-replicate {A = ℕ} c.args.pad.zeros 48 in
    let nf = length-replicate c.args.pad.before c.args.fill in
    let np = length-append pre zs in
    let ns = length-append sgn (pre ++ zs) in
    let e₁ = ended-on c.args.out.now c.args.end zs pre c.fill.ensures c.put_prefix.ensures (omega arith) (omega arith) c.requires.1 in
    let e₂ = ended-on c.args.out.now c.args.end (pre ++ zs) sgn e₁ c.put_sign.ensures (omega arith) (omega arith) c.requires.1 in
    ended-on c.args.out.now c.args.end (sgn ++ (pre ++ zs)) fs e₂ c.fill-2.ensures (omega arith) (omega arith) c.requires.1
