-- `radix::count` meets its contract: the bits of a digit by the format code. Assumes nothing.
use mathlib.Core.Path.{◌≡◌, sym, ap, ◌∙◌}
use Prim.Native.Nat.{ℕ, ◌^◌}
use native.Mathlib.Omega.{arith}
use borrow.Author.Tests.{ne_eqb}
use lib.ListN.{length}
use Rattle.digits.specs.Digits.{digits}
use Rattle.radix.specs.Radix.{radix, digit_bits}
use Rattle.radix.proofs.Lengths.{radix-digits}
use Rattle.radix.proofs.count.Goals as goal

by_bits : (format n k : ℕ) → digit_bits format ≡ k → length (digits (2 ^ k) n) ≡ length (radix format n)
by_bits format n k e = sym (radix-digits format n ∙ ap (λ (j : ℕ). length (digits (2 ^ j) n)) e)

pub returns-in-1 : goal.returns-in-1
returns-in-1 c = c.digit_count.ensures ∙ by_bits c.args.format c.args.n 1 (rw c.in-1.is)

pub returns-in-2 : goal.returns-in-2
returns-in-2 c = c.digit_count-in-2.ensures ∙ by_bits c.args.format c.args.n 3 (rw c.in-2.is)

pub returns-in_default : goal.returns-in_default
returns-in_default c =
    c.digit_count-in_default.ensures ∙ by_bits c.args.format c.args.n 4 (rw (ne_eqb c.args.format 1 (λ e. omega arith), ne_eqb c.args.format 2 (λ e. omega arith)))
