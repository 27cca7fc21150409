-- What is left to drop once no four zeros are: two, then one, by the values that the code computes. `short` names these, as `last_zeros`, for its returns.
-- Each speaks of m and f where e - f zeros were dropped from m * 10 ^ (e - f); its first part says nothing, and shows `grind` that product.
-- Assumes nothing.
use Rattle.std.specs.Prelude.{None}
use mathlib.Core.Path.{◌≡◌, refl}
use Prim.Native.Nat.{ℕ, ◌-◌, ◌*◌, ◌/◌, ◌%◌, ◌^◌, ◌≤◌, ◌<◌}
use native.Mathlib.Omega.{arith}
use Rattle.scientific.specs.Sci.{exponent_of}
use Rattle.scaling.specs.Coefficient.{Scales}
use Rattle.scaling.proofs.Scaling.{Drops, drops-more, drops-done}

module _ (m f e : ℕ) (some : 0 < m) (fewer : f ≤ e) (is : e ≡ exponent_of (m * 10 ^ (e - f))) where
  dropped : Drops (m * 10 ^ (e - f)) e m f
  dropped = record { some = some; fewer = fewer; same = refl }

  -- one zero, or one behind two, has its place
  pub one_place : m % 10 ≡ 0 → (m * 10 ^ (e - f) ≡ m * 10 ^ (e - f)) × (1 ≤ f)
  one_place z = (refl, (drops-more dropped is 1 z).0)

  pub two_and_one_places : m % 100 ≡ 0 → m / 100 % 10 ≡ 0 → (m * 10 ^ (e - f) ≡ m * 10 ^ (e - f)) × (1 ≤ f - 2)
  two_and_one_places y z = (refl, (drops-more (drops-more dropped is 2 y).1 is 1 z).0)

  module _ (fits : m * 10 ^ (e - f) < 2 ^ 64) where
    pub none_left : (m % 10 ≡ 0 → ⊥)
        → (m * 10 ^ (e - f) ≡ m * 10 ^ (e - f)) × Scales None (m * 10 ^ (e - f)) (record { coef = m; coef_prec = f; more_prec = 0; exp = e })
    none_left z = (refl, drops-done dropped is (omega arith) z)

    pub one_left : (m % 100 ≡ 0 → ⊥) → m % 10 ≡ 0
        → (m * 10 ^ (e - f) ≡ m * 10 ^ (e - f)) × Scales None (m * 10 ^ (e - f)) (record { coef = m / 10; coef_prec = f - 1; more_prec = 0; exp = e })
    one_left y z = (refl, drops-done (drops-more dropped is 1 z).1 is (omega arith) (λ x. y (omega arith)))

    pub two_left : m % 100 ≡ 0 → (m / 100 % 10 ≡ 0 → ⊥)
        → (m * 10 ^ (e - f) ≡ m * 10 ^ (e - f)) × Scales None (m * 10 ^ (e - f)) (record { coef = m / 100; coef_prec = f - 2; more_prec = 0; exp = e })
    two_left y z = (refl, drops-done (drops-more dropped is 2 y).1 is (omega arith) z)

    pub three_left : (m % 10000 ≡ 0 → ⊥) → m % 100 ≡ 0 → m / 100 % 10 ≡ 0
        → (m * 10 ^ (e - f) ≡ m * 10 ^ (e - f)) × Scales None (m * 10 ^ (e - f)) (record { coef = m / 100 / 10; coef_prec = f - 2 - 1; more_prec = 0; exp = e })
    three_left x y z = (refl, drops-done (drops-more (drops-more dropped is 2 y).1 is 1 z).1 is (omega arith) (λ w. x (omega arith)))

pub ruleset last_zeros = (one_place, two_and_one_places, none_left, one_left, two_left, three_left)
