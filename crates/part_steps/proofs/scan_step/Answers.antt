-- `part_steps::scan_step` meets its contract: a law of one part more for each way that it goes. Assumes nothing.
use mathlib.Core.Path.{◌≡◌, sym, ap, ◌∙◌}
use mathlib.Core.Bool.{true, false}
use borrow.Author.Rules.{rules}
use Prim.Native.Nat.{ℕ}
use Rattle.std.specs.Prelude.{Err}
use Rattle.std.proofs.lemmas.Result.{err_from_is_err_and}
use Rattle.parts.specs.Parts.{known_part}
use Rattle.part_answers.specs.declared.Refusal.TheVariants as refusal
use Rattle.part_answers.proofs.Answers.{more-unknown, more-refused, more-leaves, more-done}
use Rattle.part_steps.proofs.scan_step.Goals as goal

pub returns-in-Unknown : goal.returns-in-Unknown
returns-in-Unknown c sign ps n e = let h : known_part c.args.part ≡ false = search rules in sym (more-unknown _ sign ps _ h)

pub returns-in_err-sum : goal.returns-in_err-sum
returns-in_err-sum c sign ps n e =
    let h : known_part c.args.part ≡ true = search rules in
    let p = err_from_is_err_and c.from_residual.result c.from_residual.ensures.1 in
    rw (p.1, p.2) (sym (more-refused _ sign ps _ h _ (sym e ∙ c.in_err-sum.was)))

pub returns-then-leaves : goal.returns-then-leaves
returns-then-leaves c sign ps n e =
    let h : known_part c.args.part ≡ true = search rules in
    ap (λ (i : ℕ). Err (refusal.Part i)) n ∙ sym (more-leaves _ sign ps _ h _ (sym e ∙ c.in_ok-sum.was) (sym c.leaves.ensures ∙ c.if-leaves.true))

pub returns : goal.returns
returns c sign ps n e =
    let h : known_part c.args.part ≡ true = search rules in
    rw (more-done _ sign ps _ h _ (sym e ∙ c.in_ok-sum.was) (sym c.leaves.ensures ∙ c.if-leaves.false), ← c.length.ensures) (cc)
