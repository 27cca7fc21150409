-- `coefficients::fraction` meets its contract. Assumes nothing.
use mathlib.Core.Logic.{inl, inr}
use mathlib.Core.Path.{refl}
use native.Mathlib.Omega.{arith}
use Rattle.coefficients.proofs.fraction.Goals as goal

pub returns-then-text-at-eq46 : goal.returns-then-text-at-eq46
returns-then-text-at-eq46 c = inr (record { here = c.if-at-text.true; point = c.if-text-at-eq46.true; scanned = c.scan.ensures })

pub returns-else-text-at-eq46 : goal.returns-else-text-at-eq46
returns-else-text-at-eq46 c = inl (record { is = refl; next = λ h. c.if-text-at-eq46.false })

pub returns-else-at-text : goal.returns-else-at-text
returns-else-at-text c = inl (record { is = refl; next = λ h. absurd (omega arith) })
