-- The coefficient and the exponent of n, by the values that the code computes: with a precision in three ways, and without by dropping zeros.
-- Assumes nothing.
use Rattle.std.specs.Prelude.{None, Some}
use mathlib.Core.Path.{◌≡◌, refl, sym, ◌∙◌}
use Prim.Native.Nat.{ℕ, suc, ◌+◌, ◌-◌, ◌*◌, ◌/◌, ◌%◌, ◌^◌, ◌≤◌, ◌<◌}
use native.Mathlib.Nat.{add-zero, mul-one, mul_assoc, mul_comm, pow-zero, pow-suc, le_trans, le_of_eq, le_refl, div-add-mod', div-mul-le_self, mul-le-mul_left, mul-pos}
use native.Mathlib.Numerals.{add-one}
use native.Mathlib.Decide.{dec_le}
use native.Mathlib.Omega.{arith}
use lib.Pow.{pow-add}
use Rattle.scientific.specs.Sci.{Sci, exponent_of, rounded, fixed, short, sci}
use Rattle.scientific.proofs.Fixed.{fixed-long, fixed-carry, fixed-stay, q-low, q-high}
use Rattle.scientific.proofs.Short.{short-is, zeros-most, shown}
use Rattle.scientific.proofs.Tens as T
use Rattle.scaling.specs.Coefficient.{Scales}

-- a quotient by 2 or more is at most the half
pub halved : (n u : ℕ) → 2 ≤ u → n / u * 2 ≤ n
halved n u h = le_trans (mul-le-mul_left (n / u) h) (div-mul-le_self n u)

-- a power that drops a digit is at least 2
pub two : (k : ℕ) → 0 < k → 2 ≤ 10 ^ k
two k h = omega (arith, T.powers {i = 1} {j = k} h)

-- no zeros are to follow
plain : (s : Sci) (m f k : ℕ) → s ≡ record { coef = m; frac = f; expo = k } → s ≡ record { coef = m * 10 ^ 0; frac = f + 0; expo = k }
plain s m f k e = rw (pow-zero, mul-one, add-zero) e

-- ---- with precision p, for n of e + 1 digits

module _ (n p e : ℕ) (is : e ≡ exponent_of n) (twenty : n < 10 ^ 20) where
  pub scales-long : e ≤ p → p ≤ 65535 → Scales (Some p) n (record { coef = n; coef_prec = e; more_prec = p - e; exp = e })
  unfolding sci
  scales-long l h =
      let f : exponent_of n + (p - exponent_of n) ≡ p = omega arith in
      let t = T.le 19 n twenty in
      rw is (record {
        is = rw f (fixed-long n p (omega arith));
        lead = refl;
        few = t;
        zeros = omega arith;
        high = omega arith;
      })

  module _ (u q : ℕ) (less : p < e) (scale : u ≡ 10 ^ (e - p)) (quotient : q ≡ rounded u n) where
    at-scale : rounded (10 ^ (exponent_of n - p)) n ≡ q
    at-scale = rw (← is, ← scale) (sym quotient)

    -- the quotient has reached the next power of ten
    pub scales-carry : q ≡ 10 ^ (p + 1) → Scales (Some p) n (record { coef = q / 10; coef_prec = p; more_prec = 0; exp = e + 1 })
    unfolding sci
    scales-carry h =
        let g : q ≡ 10 ^ p * 10 = h ∙ rw (add-one p) (pow-suc 10 p) in
        let d : q / 10 ≡ 10 ^ p = omega arith in
        let k : e + 1 ≡ suc (exponent_of n) = omega arith in
        let t = T.le 19 n twenty in
        rw (d, k) (record {
          is = plain (fixed p n) (10 ^ p) p (suc (exponent_of n)) (fixed-carry n p (omega arith) (at-scale ∙ g ∙ sym (pow-suc 10 p)));
          lead = T.is p (le_refl (10 ^ p)) (rw (pow-suc 10 p) (omega (arith, T.pos p)));
          few = omega arith;
          zeros = omega arith;
          high = omega arith;
        })

    pub scales-stay : (q ≡ 10 ^ (p + 1) → ⊥) → Scales (Some p) n (record { coef = q; coef_prec = p; more_prec = 0; exp = e })
    unfolding sci
    scales-stay h =
        let l : p < exponent_of n = omega arith in
        let ne : (q ≡ 10 ^ suc p → ⊥) = rw (add-one p) at h in
        let t = T.le 19 n twenty in
        rw (← at-scale) (record {
          is = plain (fixed p n) (rounded (10 ^ (exponent_of n - p)) n) p e (rw is (fixed-stay n p l (λ z. ne (sym at-scale ∙ z))));
          lead = T.is p (q-low n p l) (omega (arith, q-high n p l, at-scale));
          few = omega arith;
          zeros = omega arith;
          high = omega arith;
        })

-- ---- without precision

module _ (n e : ℕ) (is : e ≡ exponent_of n) (twenty : n < 10 ^ 20) where
  scales-short : (m f : ℕ) → short n ≡ record { coef = m; frac = f; expo = exponent_of n } → exponent_of m ≡ f → f ≤ e → Scales None n (record { coef = m; coef_prec = f; more_prec = 0; exp = e })
  unfolding sci
  scales-short m f s l h =
      let t = T.le 19 n twenty in
      record {
        is = plain (short n) m f e (rw is s);
        lead = l;
        few = omega arith;
        zeros = omega arith;
        high = omega arith;
      }

  -- one digit has no fraction
  pub scales-one : n < 10 → Scales None n (record { coef = n; coef_prec = e; more_prec = 0; exp = e })
  scales-one h =
      let z : exponent_of n ≡ 0 = T.small n h in
      let f : exponent_of n - 0 ≡ e = omega arith in
      let s = short-is n n 0 (omega arith) (rw pow-zero (mul-one n)) (λ l. absurd (omega arith)) in
      scales-short n e (rw f at s) (sym is) (le_refl e)

-- e - f zeros were dropped from n, and m is left
pub record Drops (n e m f : ℕ) : Type 0 where
  pub some : 0 < m
  pub fewer : f ≤ e
  pub same : m * 10 ^ (e - f) ≡ n

pub drops-none : (n e : ℕ) → 0 < n → Drops n e n e
drops-none n e h =
    let z : e - e ≡ 0 = omega arith in
    record { some = h; fewer = le_refl e; same = rw (z, pow-zero) (mul-one n) }

module _ {n e m f : ℕ} (D : Drops n e m f) (is : e ≡ exponent_of n) where
  -- k zeros more, which were there to drop
  pub drops-more : (k : ℕ) → m % 10 ^ k ≡ 0 → (k ≤ f) × Drops n e (m / 10 ^ k) (f - k)
  drops-more k h =
      let l = D.fewer in
      let w : m / 10 ^ k * 10 ^ k ≡ m = omega (arith, div-add-mod' m (10 ^ k)) in
      let p : 0 < m / 10 ^ k = some (m / 10 ^ k) w in
      let g : m / 10 ^ k * 10 ^ (e - f + k) ≡ n = rw (pow-add 10 (e - f) k, mul_comm (10 ^ (e - f)) (10 ^ k), ← mul_assoc (m / 10 ^ k) (10 ^ k) (10 ^ (e - f)), w) D.same in
      let z = zeros-most n (m / 10 ^ k) (e - f + k) p g in
      let a : k ≤ f = omega arith in
      let b : e - (f - k) ≡ e - f + k = omega arith in
      (a, record { some = p; fewer = omega arith; same = rw b g })
    where
      some : (x : ℕ) → x * 10 ^ k ≡ m → 0 < x
      some x w = go (dec_le 1 x)
        where
          go : Dec (1 ≤ x) → 0 < x
          go (yes y) = y
          go (no y) = absurd (let z : x ≡ 0 = omega arith in let v : 0 * 10 ^ k ≡ m = rw z at w in omega (arith, D.some))

  -- none is left to drop
  pub drops-done : n < 10 ^ 20 → (m % 10 ≡ 0 → ⊥) → Scales None n (record { coef = m; coef_prec = f; more_prec = 0; exp = e })
  drops-done twenty h =
      let l = D.fewer in
      let g : m * 10 ^ (exponent_of n - f) ≡ n = rw (← is) D.same in
      let b : exponent_of n - (exponent_of n - f) ≡ f = omega arith in
      let s : short n ≡ record { coef = m; frac = f; expo = exponent_of n } = rw b at (short-is n m (exponent_of n - f) (omega arith) g (λ _. h)) in
      let S = rw s at (shown n) in
      let p : 0 < n = le_trans (mul-pos D.some (T.pos (e - f))) (le_of_eq D.same) in
      scales-short n e is twenty m f s (T.is f (S.low p) S.high) l
