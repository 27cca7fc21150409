-- `digit_runs::Numerals::digit` meets its contract. Assumes nothing.
use Rattle.std.proofs.Common.{◌-◌, arith, rules}
use Rattle.digit_runs.proofs.Runs.{is_hex, is_digit, not-digit, less, not-less}
use Rattle.digit_runs.proofs.Numerals.digit.Goals as goal

pub returns-then-figure-lt10 : goal.returns-then-figure-lt10
returns-then-figure-lt10 c =
    let e = less c.wrapping_sub_u8-figure.result 48 c.args.byte (omega (arith, c.if-figure-lt10.true)) c.wrapping_sub_u8-figure.ensures.value in
    is_digit _ (is_hex _ _ _ (λ h. omega arith) (λ g h. omega arith) (λ d h f. omega arith) (λ d g h f. omega arith)) (omega arith) (omega arith) c.below.ensures

pub returns-then-d-lt6 : goal.returns-then-d-lt6
returns-then-d-lt6 c =
    let e = less c.wrapping_sub_u8-d.result c.args.self.letter c.args.byte (omega (arith, c.if-d-lt6.true)) c.wrapping_sub_u8-d.ensures.value in
    is_digit _ (is_hex _ _ _ (λ h. omega arith) (λ g h. omega arith) (λ d h f. omega arith) (λ d g h f. omega arith)) (omega arith) (omega arith) c.below-then-d-lt6.ensures

pub returns : goal.returns
returns c =
    not-digit
    (is_hex _ _ 255 (λ h. omega arith) (λ g h. omega arith)
    (λ d h f. absurd (not-less c.wrapping_sub_u8-figure.result 48 c.args.byte 10 d (search rules) c.wrapping_sub_u8-figure.ensures.value c.if-figure-lt10.false h f))
    (λ d g h f. absurd (not-less c.wrapping_sub_u8-d.result c.args.self.letter c.args.byte 6 (d - 10) (search rules) c.wrapping_sub_u8-d.ensures.value c.if-d-lt6.false (omega arith) f)))
    (omega arith) (omega arith)
