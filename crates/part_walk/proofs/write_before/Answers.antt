-- `part_walk::write_before` meets its contract: a part's writer takes one turn to the next, and the sign's ends the last. Assumes nothing.
use mathlib.Core.Path.{ap, ◌∙◌}
use Rattle.std.specs.Iterator.Adapters.{rev_source}
use Rattle.std.specs.Slice.Iter.{iter_rest}
use Rattle.std.specs.declared.iter.Rev.{Rev}
use Rattle.std.proofs.Common.{Iter}
use Rattle.parts.specs.declared.Part.{Part}
use Rattle.part_walk.proofs.Back.{start, here-room, next, sign-room, all-written}
use Rattle.part_walk.proofs.write_before.Goals as goal

pub loop-part-init : goal.loop-part-init
loop-part-init c =
    let e = ap (λ (s : Rev (Iter Part)). iter_rest (rev_source s)) c.into_iter-part-iterator.ensures.into_iter_gives ∙ ap iter_rest c.rev-part-items.ensures.source ∙ c.iter.ensures.rest in
    start _ _ _ _ _ e c.requires.0 c.requires.1 c.requires.2

pub write_before-at-requires : goal.write_before-at-requires
write_before-at-requires c = here-room c.loop-part.invariant _ _ c.in-Some.ensures.steps

pub loop-part-preserved : goal.loop-part-preserved
loop-part-preserved c = next c.loop-part.invariant _ _ c.in-Some.ensures.steps c.write_before-at.ensures

pub write_before-requires : goal.write_before-requires
write_before-requires c = sign-room c.loop-part.invariant c.in-None.ensures.steps.0

pub returns : goal.returns
returns c = all-written c.loop-part.invariant c.in-None.ensures.steps.0 c.requires.0 c.write_before.ensures
