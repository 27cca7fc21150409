-- `exponent_texts::exponent_digits` meets its contract. Assumes nothing.
use mathlib.Core.Path.{refl}
use native.Mathlib.Omega.{arith}
use lib.Dec.{lit<}
use Rattle.radix.specs.Radix.{lower}
use Rattle.digit_runs.proofs.Runs.{sofar-none, sofar-more}
use Rattle.exponent_texts.proofs.Exponents.{two_at}
use Rattle.exponent_texts.proofs.exponent_digits.Goals as goal

pub returns-in_default : goal.returns-in_default
returns-in_default c =
    two_at (sofar-none lower 10 0 c.args.text.now c.args.from c.requires (lit< tt)) refl c.requires (omega arith) (λ h. c.in_default.ensures)

pub returns-in_default-digit_at : goal.returns-in_default-digit_at
returns-in_default-digit_at c =
    let S = sofar-none lower 10 0 c.args.text.now c.args.from c.requires (lit< tt) in
    let tens = c.in-Some.ensures in
    let U = sofar-more lower 10 0 _ _ _ _ _ (lit< tt) S tens.0 tens.1 (omega (arith, tens.1.0)) in
    two_at U (omega arith) c.requires (omega arith) (λ h. c.in_default-digit_at.ensures)

pub returns : goal.returns
returns c =
    let S = sofar-none lower 10 0 c.args.text.now c.args.from c.requires (lit< tt) in
    let tens = c.in-Some.ensures in
    let units = c.in-Some-digit_at.ensures in
    let U = sofar-more lower 10 0 _ _ _ _ _ (lit< tt) S tens.0 tens.1 (omega (arith, tens.1.0)) in
    let W = sofar-more lower 10 0 _ _ _ _ _ (lit< tt) U units.0 units.1 (omega (arith, tens.1.0, units.1.0)) in
    two_at W (omega arith) c.requires (omega arith) (λ h. absurd (omega arith))
