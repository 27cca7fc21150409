-- `framing::put_around` meets its contract. Assumes nothing.
use mathlib.Core.Path.{◌≡◌, refl, ap, ◌∙◌}
use Prim.Native.Nat.{◌+◌}
use native.Mathlib.Omega.{arith}
use lib.ListN.{length, replicate, length-replicate}
use Rattle.padding.specs.Padding.{sign_of, prefix_of}
use Rattle.writing.specs.declared.Refusal.TheVariants as refusal
use Rattle.framing.proofs.Laid.{need-is, surrounds}
use Rattle.framing.proofs.put_around.Goals as goal
use Rattle.framing.proofs.put_around.Goals.{After-lay_out-layout}

-- the layout's pieces, of any digits that are so many
pieces : (c : After-lay_out-layout) →
    (c.lay_out-layout.result.end + c.lay_out-layout.result.pad.behind ≡ c.lay_out-layout.result.need) × (c.lay_out-layout.result.need ≡ (c.lay_out-layout.result.pad.before + (length (sign_of c.args.negative c.args.options.plus) + (length (prefix_of c.args.options.alternate c.args.format) + c.lay_out-layout.result.pad.zeros))) + (c.args.count + c.lay_out-layout.result.pad.behind))
pieces c =
    let e = length-replicate c.args.count 48 in
    let L = c.lay_out-layout.ensures (replicate c.args.count 48) e in
    (L.ends, need-is c.args.options c.args.negative c.args.format (replicate c.args.count 48) c.lay_out-layout.result L ∙ rw e refl)

pub returns-then-out-layout : goal.returns-then-out-layout
returns-then-out-layout c digits e =
    let w = (c.lay_out-layout.ensures digits e).whole in
    (ap refusal.NoRoom w, omega (arith, w, c.if-out-layout.true), refl)

pub fill-requires : goal.fill-requires
fill-requires c = (omega (arith, pieces (goal.at.fill-requires c).After-lay_out-layout), c.if-out-layout.false)

pub overflow_sub-layout : goal.overflow_sub-layout
overflow_sub-layout c = omega (arith, pieces (goal.at.overflow_sub-layout c).After-lay_out-layout)

pub put_front-requires : goal.put_front-requires
put_front-requires c = let p = pieces (goal.at.put_front-requires c).After-lay_out-layout in (omega (arith, p), omega (arith, p, c.if-out-layout.false))

pub returns : goal.returns
returns c digits e =
    surrounds c.args.options c.args.negative c.args.format digits c.lay_out-layout.result (c.lay_out-layout.ensures digits e) c.args.out.now c.fill.new.buf c.put_front.new.out c.if-out-layout.false c.fill.ensures (rw e c.put_front.ensures)
