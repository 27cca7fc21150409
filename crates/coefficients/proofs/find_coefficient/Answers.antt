-- `coefficients::find_coefficient` meets its contract. Assumes nothing.
use native.Mathlib.Omega.{arith}
use Rattle.coefficients.proofs.Coefficients.{fraction-from, no_lead, no_fraction, no-letter, found-coefficient}
use Rattle.coefficients.proofs.Places.{no-figure}
use Rattle.coefficients.proofs.find_coefficient.Goals as goal

pub returns-then-text-start : goal.returns-then-text-start
returns-then-text-start c = no_lead _ _ c.requires.1 _ _ c.front-start.ensures (λ h. absurd (omega arith))

pub returns-in_default : goal.returns-in_default
returns-in_default c = no_lead _ _ c.requires.1 _ _ c.front-start.ensures (λ h. no-figure c.args.text.now c.front-start.result c.in_default.ensures)

pub returns-then-end-at : goal.returns-then-end-at
returns-then-end-at c = no_fraction _ _ c.requires.1 _ _ c.front-start.ensures _ (omega arith) c.in-Some.ensures.0 c.in-Some.ensures.1 _ c.fraction-run.ensures c.if-end-at.true

pub returns-then-text-end : goal.returns-then-text-end
returns-then-text-end c = no-letter _ _ c.requires.1 _ _ c.front-start.ensures _ (omega arith) c.in-Some.ensures.0 c.in-Some.ensures.1 _ c.fraction-run.ensures c.if-end-at.false (λ h. absurd (omega arith))

pub overflow_sub-result : goal.overflow_sub-result
overflow_sub-result c = fraction-from c.fraction-run.ensures

pub returns-then-text-end-2 : goal.returns-then-text-end-2
returns-then-text-end-2 c = found-coefficient _ _ c.requires.1 _ _ c.front-start.ensures _ (omega arith) c.in-Some.ensures.0 c.in-Some.ensures.1 _ c.fraction-run.ensures c.if-end-at.false (omega arith) (omega arith)

pub returns : goal.returns
returns c = no-letter _ _ c.requires.1 _ _ c.front-start.ensures _ (omega arith) c.in-Some.ensures.0 c.in-Some.ensures.1 _ c.fraction-run.ensures c.if-end-at.false (λ h e. omega arith)
