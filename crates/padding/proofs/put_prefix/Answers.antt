-- `padding::put_prefix` meets its contract. Assumes nothing.
use mathlib.Core.Path.{ap, ◌∙◌}
use mathlib.Core.Bool.{Bool}
use native.Mathlib.Omega.{arith}
use lib.ListN.{length}
use Rattle.padding.specs.Padding.{prefix_of}
use Rattle.padding.proofs.Padding.{prefix-two, no-prefix-low, no-prefix-high, put-none}
use Rattle.padding.proofs.put_prefix.Goals as goal

pub put_letter-requires : goal.put_letter-requires
put_letter-requires c =
    let p = ap (λ (b : Bool). length (prefix_of b c.args.code)) c.if-alternate.true ∙ prefix-two c.args.code c.if-code-ge1.true c.if-code-le4.true in
    (omega (arith, c.requires.0), c.requires.1)

pub returns-then-code-le4 : goal.returns-then-code-le4
returns-then-code-le4 c =
    rw (c.if-alternate.true, c.prefix_letter.ensures) c.put_letter.ensures

pub returns-else-code-le4 : goal.returns-else-code-le4
returns-else-code-le4 c =
    put-none _ _ _ (ap (λ (b : Bool). prefix_of b c.args.code) c.if-alternate.true ∙ no-prefix-high c.args.code c.if-code-le4.false)

pub returns-else-code-ge1 : goal.returns-else-code-ge1
returns-else-code-ge1 c =
    put-none _ _ _ (ap (λ (b : Bool). prefix_of b c.args.code) c.if-alternate.true ∙ no-prefix-low c.args.code c.if-code-ge1.false)

pub returns-else-alternate : goal.returns-else-alternate
returns-else-alternate c = put-none _ _ _ (ap (λ (b : Bool). prefix_of b c.args.code) c.if-alternate.false)
