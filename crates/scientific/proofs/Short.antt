-- Without precision: the number that the exponent form shows is n, its lead digit is not 0, its fraction does not end in 0, and nothing else is so.
-- Assumes nothing.
use mathlib.Core.Bool.{Bool, true, false}
use mathlib.Core.Path.{◌≡◌, refl, sym, ap₂, ◌∙◌}
use Prim.Native.Nat.{ℕ, zero, suc, ◌+◌, ◌-◌, ◌*◌, ◌/◌, ◌%◌, ◌^◌, ◌≤◌, ◌<◌}
use native.Mathlib.Nat.{add-zero, add-suc, mul-one, mul_assoc, mul-le-mul_right, pow-zero, pow-suc, le_trans, le_of_eq, le_of_mul-le-mul_right, lt_of_mul-lt-mul_right}
use native.Mathlib.Omega.{arith}
use borrow.Author.Tests.{eqb-true, eqb-false, eq-eqb, ne_eqb}
use lib.Dec.{eqb}
use Rattle.scientific.specs.Sci.{Sci, exponent_of, trimmed, short}
use Rattle.scientific.specs.Shape.{Denotes}
use Rattle.scientific.proofs.Tens as T

-- s is m with f fraction digits, less the zeros that end the fraction, with the exponent e
record Trimmed (e f m : ℕ) (s : Sci) : Type 0 where
  expo : s.expo ≡ e
  fewer : s.frac ≤ f
  same : s.coef * 10 ^ (f - s.frac) ≡ m
  spare : 0 < s.frac → s.coef % 10 ≡ 0 → ⊥

trim : (e f m : ℕ) → Trimmed e f m (trimmed e f m)
unfolding trimmed
trim e zero m = record { expo = refl; fewer = omega arith; same = omega arith; spare = λ h. absurd (omega arith) }
trim e (suc f) m = go (eqb (m % 10) 0) refl (trim e f (m / 10))
  where
    go : (t : Bool) → eqb (m % 10) 0 ≡ t → Trimmed e f (m / 10) (trimmed e f (m / 10)) → Trimmed e (suc f) m (trimmed e (suc f) m)
    go true t ih =
        let s = trimmed e f (m / 10) in
        let l = ih.fewer in
        let j : suc f - s.frac ≡ suc (f - s.frac) = omega arith in
        rw (t, trimmed) (record {
          expo = ih.expo;
          fewer = omega arith;
          same = rw (j, pow-suc 10 (f - s.frac), ← mul_assoc s.coef (10 ^ (f - s.frac)) 10, ih.same) (omega (arith, eqb-true (m % 10) 0 t));
          spare = ih.spare;
        })
    go false t ih =
        rw (t, trimmed) (record {
          expo = refl;
          fewer = omega arith;
          same = let z : suc f - suc f ≡ 0 = omega arith in rw (z, pow-zero) (omega arith);
          spare = λ h. eqb-false (m % 10) 0 t;
        })

-- what is shown of n without precision
pub record Shown (n : ℕ) (s : Sci) : Type 0 where
  pub expo : s.expo ≡ exponent_of n
  pub denotes : Denotes s n
  pub low : 0 < n → 10 ^ s.frac ≤ s.coef
  pub high : s.coef < 10 ^ suc s.frac
  pub spare : 0 < s.frac → s.coef % 10 ≡ 0 → ⊥
  pub enough : s.frac ≤ s.expo

pub shown : (n : ℕ) → Shown n (short n)
unfolding short
shown n =
    let e = exponent_of n in
    let s = trimmed e e n in
    let K = trim e e n in
    let split : 10 ^ e ≡ 10 ^ (e - s.frac) * 10 ^ s.frac = T.split K.fewer in
    let P : 0 < 10 ^ (e - s.frac) = T.pos (e - s.frac) in
    let hi : n < 10 ^ e * 10 = rw pow-suc at (T.hi n) in
    record {
      expo = K.expo;
      denotes = rw (K.expo, split, ← mul_assoc s.coef (10 ^ (e - s.frac)) (10 ^ s.frac), K.same);
      low = λ h. le_of_mul-le-mul_right (le_trans (omega arith) (le_trans (T.lo n h) (le_of_eq (sym K.same)))) P;
      high = lt_of_mul-lt-mul_right (10 ^ (e - s.frac)) (rw (K.same, pow-suc 10 s.frac) (omega arith));
      spare = K.spare;
      enough = rw K.expo K.fewer;
    }

-- ---- how a program comes by it: it drops zeros

-- z zeros at the end are dropped
drops : (e f z m : ℕ) → trimmed e (f + z) (m * 10 ^ z) ≡ trimmed e f m
unfolding trimmed
drops e f zero m = ap₂ (λ (x y : ℕ). trimmed e x y) (add-zero f) (rw pow-zero (mul-one m))
drops e f (suc z) m =
    let a : m * 10 ^ suc z ≡ m * 10 ^ z * 10 = rw (pow-suc 10 z) (sym (mul_assoc m (10 ^ z) 10)) in
    let b : m * 10 ^ z * 10 / 10 ≡ m * 10 ^ z = omega arith in
    let c : eqb (m * 10 ^ z * 10 % 10) 0 ≡ true = eq-eqb (m * 10 ^ z * 10 % 10) 0 (omega arith) in
    ap₂ (λ (x y : ℕ). trimmed e x y) (add-suc f z) a ∙ rw (c, trimmed, b) (drops e f z m)

-- and nothing else
stops : (e f m : ℕ) → (0 < f → m % 10 ≡ 0 → ⊥) → trimmed e f m ≡ record { coef = m; frac = f; expo = e }
unfolding trimmed
stops e zero m h = refl
stops e (suc f) m h = rw (ne_eqb (m % 10) 0 (h (omega arith)), trimmed)

-- n is m and z zeros behind it: as many as m, if it is not 0, and the digits leave room for
pub zeros-most : (n m z : ℕ) → 0 < m → m * 10 ^ z ≡ n → z ≤ exponent_of n
zeros-most n m z h e =
    let l : z < suc (exponent_of n) = T.below_power (le_trans (omega arith) (le_trans (mul-le-mul_right (10 ^ z) h) (le_of_eq e))) (T.hi n) in
    omega arith

-- digits m with no zero to drop, z zeros behind them
pub short-is : (n m z : ℕ) → z ≤ exponent_of n → m * 10 ^ z ≡ n → (0 < exponent_of n - z → m % 10 ≡ 0 → ⊥)
    → short n ≡ record { coef = m; frac = exponent_of n - z; expo = exponent_of n }
unfolding short
short-is n m z l e h =
    let f : exponent_of n - z + z ≡ exponent_of n = omega arith in
    ap₂ (λ (x y : ℕ). trimmed (exponent_of n) x y) (sym f) (sym e) ∙ drops (exponent_of n) (exponent_of n - z) z m ∙ stops (exponent_of n) (exponent_of n - z) m h
