-- `exponent_texts::is_canonical` meets its contract. Assumes nothing.
use borrow.Author.Rules.{rules}
use Rattle.exponent_texts.proofs.Exponents.{told, not-told}
use Rattle.exponent_texts.proofs.is_canonical.Goals as goal

pub returns-then-text-ne3 : goal.returns-then-text-ne3
returns-then-text-ne3 c = not-told (λ R. c.if-text-ne3.true (R.zero c.if-coefficient-eq0.true).0)

pub returns-then-k-ne0 : goal.returns-then-k-ne0
returns-then-k-ne0 c = not-told (λ R. c.if-k-ne0.true (R.zero c.if-coefficient-eq0.true).1)

pub returns-then-text-end-eq48 : goal.returns-then-text-end-eq48
returns-then-text-end-eq48 c = not-told (λ R. R.spare c.if-size-gt0.true c.if-text-end-eq48.true)

pub returns-then-text-end-eq48-2 : goal.returns-then-text-end-eq48-2
returns-then-text-end-eq48-2 c = not-told (λ R. R.two c.if-end-text.true c.if-text-end-eq48-2.true)

pub returns : goal.returns
returns c =
    told c.args.text.now c.args.coefficient.lead c.args.coefficient.size c.args.coefficient.end c.args.k
    (λ z. (search rules, search rules))
    (λ h z. search rules)
    (λ h z. search rules)
