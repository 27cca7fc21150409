-- `formatted::Formatted::write_before` meets its contract: behind each call the parts that are left complete the buffer. Assumes nothing.
use mathlib.Core.List.{List, [], ◌∷◌}
use Prim.Native.Nat.{ℕ}
use Rattle.parts.specs.Parts.{Inside}
use Rattle.parts.specs.declared.Part.{Part}
use Rattle.parts.proofs.Writing.{Rest, rest-start, rest-room, rest-step, rest-sign-room, rest-sign}
use Rattle.formatted.specs.Three.{parts_of}
use Rattle.formatted.specs.declared.Formatted.{Formatted}
use Rattle.formatted.proofs.Formatted.write_before.Goals as goal
use Rattle.formatted.proofs.Formatted.write_before.Goals.{After-write_before-first, After-write_before-second, After-write_before-third}

-- the parts ps are left of f, and are to end at the index at of buf
abbrev Left : Formatted → List ℕ → List ℕ → ℕ → List Part → ℕ → List ℕ → Type 0
Left f src out end ps at buf = Rest f.sign src out end (parts_of f) ps at buf

left1 : (c : After-write_before-third) →
    let a = c.args in
    Left a.self a.src.now a.out.now a.end (a.self.first ∷ a.self.second ∷ []) c.write_before-third.result c.write_before-third.new.out
unfolding Inside
left1 c =
    let f = c.args.self in
    rest-step _ _ (parts_of f) (f.first ∷ f.second ∷ []) f.third (rest-start _ _ _ _ _ c.requires.0 c.requires.1 c.requires.2) c.requires.0.1.1.0
    c.write_before-third.ensures.0 c.write_before-third.ensures.1

left2 : (c : After-write_before-second) →
    let a = c.args in
    Left a.self a.src.now a.out.now a.end (a.self.first ∷ a.self.second ∷ []) c.write_before-third.result c.write_before-third.new.out →
    Left a.self a.src.now a.out.now a.end (a.self.first ∷ []) c.write_before-second.result c.write_before-second.new.out
unfolding Inside
left2 c l =
    let f = c.args.self in
    rest-step _ _ (parts_of f) (f.first ∷ []) f.second l c.requires.0.1.0 c.write_before-second.ensures.0 c.write_before-second.ensures.1

left3 : (c : After-write_before-first) →
    let a = c.args in
    Left a.self a.src.now a.out.now a.end (a.self.first ∷ []) c.write_before-second.result c.write_before-second.new.out →
    Left a.self a.src.now a.out.now a.end [] c.write_before-first.result c.write_before-first.new.out
unfolding Inside
left3 c l =
    let f = c.args.self in
    rest-step _ _ (parts_of f) [] f.first l c.requires.0.0 c.write_before-first.ensures.0 c.write_before-first.ensures.1

pub write_before-third-requires : goal.write_before-third-requires
unfolding Inside
write_before-third-requires c =
    let f = c.args.self in
    let i = c.requires.0.1.1.0 in
    (i, rest-room _ _ (parts_of f) (f.first ∷ f.second ∷ []) f.third (rest-start _ _ _ _ _ c.requires.0 c.requires.1 c.requires.2) i, c.requires.2)

pub write_before-second-requires : goal.write_before-second-requires
unfolding Inside
write_before-second-requires c =
    let f = c.args.self in
    let l = left1 (goal.at.write_before-second-requires c).After-write_before-third in
    let i = c.requires.0.1.0 in
    (i, rest-room _ _ (parts_of f) (f.first ∷ []) f.second l i, l.within)

pub write_before-first-requires : goal.write_before-first-requires
unfolding Inside
write_before-first-requires c =
    let f = c.args.self in
    let at = goal.at.write_before-first-requires c in
    let l = left2 at.After-write_before-second (left1 at.After-write_before-third) in
    let i = c.requires.0.0 in
    (i, rest-room _ _ (parts_of f) [] f.first l i, l.within)

pub write_before-requires : goal.write_before-requires
write_before-requires c =
    let at = goal.at.write_before-requires c in
    let l = left3 at.After-write_before-first (left2 at.After-write_before-second (left1 at.After-write_before-third)) in
    (rest-sign-room _ _ (parts_of c.args.self) l, l.within)

pub returns : goal.returns
returns c =
    let at = goal.at.returns c in
    let l = left3 at.After-write_before-first (left2 at.After-write_before-second (left1 at.After-write_before-third)) in
    rest-sign _ _ (parts_of c.args.self) l c.requires.0 c.write_before.ensures.0 c.write_before.ensures.1
