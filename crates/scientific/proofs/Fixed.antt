-- With a precision: what the arithmetic of the exponent form makes of n, by the tests of its definition, and that nothing it could show is nearer n.
-- Assumes nothing.
use mathlib.Core.Bool.{Bool, true, false}
use mathlib.Core.Path.{◌≡◌, refl, sym, ap, ◌∙◌}
use Prim.Native.Nat.{ℕ, zero, suc, ◌+◌, ◌-◌, ◌*◌, ◌/◌, ◌^◌, ◌≤◌, ◌<◌}
use native.Mathlib.Nat.{add-mul, mul_comm, mul-sub, mul_assoc, pow-suc, le-div_iff_mul-le, div-lt_iff_lt-mul, mul-le-mul_right, mul-le-mul_left, mul-lt-mul_of_pos_right, le_of_eq, le_trans, mul-mod_left, mul-div_cancel}
use native.Mathlib.Decide.{dec_le}
use native.Mathlib.Omega.{arith}
use borrow.Author.Tests.{eqb-true, eqb-false, eq-eqb, ne_eqb, le-leb, lt-leb}
use lib.Dec.{eqb}
use Rattle.scientific.specs.Sci.{Sci, exponent_of, rounded, carried, fixed_at, fixed}
use Rattle.scientific.specs.Shape.{scaled, apart}
use Rattle.scientific.specs.Demand.{Rounds}
use Rattle.scientific.proofs.Round as R
use Rattle.scientific.proofs.Tens as T

-- a distance, scaled
apart-mul : (a b c : ℕ) → apart false (a * c) (b * c) ≡ apart false a b * c
apart-mul a b c = sym (add-mul (a - b) (b - a) c ∙ ap (λ (x : ℕ). x + (b - a) * c) (dif a b) ∙ ap (λ (x : ℕ). (a * c - b * c) + x) (dif b a))
  where
    dif : (x y : ℕ) → (x - y) * c ≡ x * c - y * c
    dif x y = mul_comm (x - y) c ∙ mul-sub c x y ∙ ap (λ (z : ℕ). z - c * y) (mul_comm c x) ∙ ap (λ (z : ℕ). x * c - z) (mul_comm c y)

pub even_power : (k : ℕ) → 0 < k → 2 * (10 ^ k / 2) ≡ 10 ^ k
even_power zero h = absurd (omega arith)
even_power (suc k) h = rw pow-suc (omega arith)

-- ---- which way it goes

-- p is at least e: the digits of n and p - e zeros
pub fixed-long : (n p : ℕ) → exponent_of n ≤ p → fixed p n ≡ record { coef = n * 10 ^ (p - exponent_of n); frac = p; expo = exponent_of n }
unfolding fixed fixed_at
fixed-long n p l = rw (le-leb (exponent_of n) p l, fixed_at)

less : (n p : ℕ) → p < exponent_of n → fixed p n ≡ carried p (exponent_of n) (rounded (10 ^ (exponent_of n - p)) n)
unfolding fixed fixed_at
less n p l = rw (lt-leb (exponent_of n) p l, fixed_at)

-- ---- the carry

record Carried (p e q : ℕ) (s : Sci) : Type 0 where
  same : scaled s ≡ q * 10 ^ e
  places : s.frac ≡ p
  low : 10 ^ p ≤ q → 10 ^ p ≤ s.coef
  high : q ≤ 10 ^ suc p → s.coef < 10 ^ suc p
  least : e ≤ s.expo
  most : s.expo ≤ suc e

carry : (p e q : ℕ) → Carried p e q (carried p e q)
unfolding carried
carry p e q = go (eqb q (10 ^ suc p)) refl
  where
    go : (t : Bool) → eqb q (10 ^ suc p) ≡ t → Carried p e q (carried p e q)
    go true f =
        let z : q ≡ 10 ^ p * 10 = eqb-true q (10 ^ suc p) f ∙ pow-suc 10 p in
        rw (f, carried) (record {
          same = omega (arith, ap (λ (x : ℕ). x * 10 ^ e) z, ap (λ (x : ℕ). 10 ^ p * x) (pow-suc 10 e));
          places = refl;
          low = λ l. omega arith;
          high = λ h. omega (arith, T.pos p);
          least = omega arith;
          most = omega arith;
        })
    go false f =
        rw (f, carried) (record {
          same = refl;
          places = refl;
          low = λ l. l;
          high = λ h. let ne : (q ≡ 10 ^ suc p → ⊥) = eqb-false q (10 ^ suc p) f in omega arith;
          least = omega arith;
          most = omega arith;
        })

-- ---- p is below e

module _ (n p : ℕ) (lt : p < exponent_of n) where
  abbrev e : ℕ
  e = exponent_of n

  -- the scale u, and the quotient rounded
  abbrev u : ℕ
  u = 10 ^ (e - p)

  abbrev q : ℕ
  q = rounded u n

  lo : 10 ^ e ≤ n
  lo = T.lo n (T.some n (omega arith))

  near : R.Near u n q
  near = R.near u (T.pos (e - p)) (even_power (e - p) (omega arith)) n

  split : 10 ^ e ≡ u * 10 ^ p
  split = T.split (omega arith)

  pub q-low : 10 ^ p ≤ q
  q-low = le_trans ((le-div_iff_mul-le (T.pos (e - p))).1 (le_trans (omega (arith, split)) lo)) near.least

  pub q-high : q ≤ 10 ^ suc p
  q-high = le_trans near.most ((div-lt_iff_lt-mul (T.pos (e - p))).1 (le_trans (T.hi n) (le_of_eq (rw (pow-suc 10 e, pow-suc 10 p) (omega (arith, split))))))

  -- any multiple of 10^e is at least as far
  far : (j : ℕ) → apart false (q * 10 ^ e) (n * 10 ^ p) ≤ apart false (j * 10 ^ e) (n * 10 ^ p)
  far j =
      rw (split, ← mul_assoc q u (10 ^ p), ← mul_assoc j u (10 ^ p), apart-mul (q * u) n (10 ^ p), apart-mul (j * u) n (10 ^ p))
      (mul-le-mul_right (10 ^ p) (R.nearest u (T.pos (e - p)) (even_power (e - p) (omega arith)) n j))

  -- any digits, at an exponent from e on, are a multiple of 10^e; at a lower exponent they are below 10^p times 10^e; behind a minus they are below 0
  farther : (minus : Bool) (M k : ℕ) → M < 10 ^ suc p → apart false (q * 10 ^ e) (n * 10 ^ p) ≤ apart minus (M * 10 ^ k) (n * 10 ^ p)
  farther true M k h = le_trans (far 0) (omega arith)
  farther false M k h = go (dec_le e k)
    where
      go : Dec (e ≤ k) → apart false (q * 10 ^ e) (n * 10 ^ p) ≤ apart false (M * 10 ^ k) (n * 10 ^ p)
      go (yes l) = rw (T.split l, ← mul_assoc M (10 ^ (k - e)) (10 ^ e)) (far (M * 10 ^ (k - e)))
      go (no l) =
          let a : M * 10 ^ k ≤ 10 ^ suc p * 10 ^ k = mul-le-mul_right (10 ^ k) (omega arith) in
          let b : 10 ^ p * 10 ^ suc k ≤ 10 ^ p * 10 ^ e = mul-le-mul_left (10 ^ p) (T.powers (omega arith)) in
          let c : 10 ^ suc p * 10 ^ k ≡ 10 ^ p * 10 ^ suc k = rw (pow-suc 10 p, pow-suc 10 k) (omega arith) in
          let d : 10 ^ p * 10 ^ e ≤ n * 10 ^ p = le_trans (mul-le-mul_left (10 ^ p) lo) (omega arith) in
          let g : M * 10 ^ k ≤ 10 ^ p * 10 ^ e = le_trans a (le_trans (le_of_eq c) b) in
          le_trans (far (10 ^ p)) (omega arith)

-- ---- both cases

-- what is shown of n at precision p: demand 3 of its arithmetic, its exponent, and that its digits fit p + 1 places
pub record Shown (n p : ℕ) (s : Sci) : Type 0 where
  pub places : s.frac ≡ p
  pub low : 0 < n → 10 ^ p ≤ s.coef
  pub high : s.coef < 10 ^ suc p
  pub least : exponent_of n ≤ s.expo
  pub most : s.expo ≤ suc (exponent_of n)
  pub exact : exponent_of n ≤ p → scaled s ≡ n * 10 ^ p
  pub less : p < exponent_of n → scaled s ≡ rounded (10 ^ (exponent_of n - p)) n * 10 ^ exponent_of n
  -- any digits M with p of them behind the point, any exponent k, with or without a minus
  pub nearest : (minus : Bool) (M k : ℕ) → M < 10 ^ suc p → apart false (scaled s) (n * 10 ^ p) ≤ apart minus (M * 10 ^ k) (n * 10 ^ p)

pub shown : (n p : ℕ) → Shown n p (fixed p n)
shown n p = go (dec_le (exponent_of n) p)
  where
    go : Dec (exponent_of n ≤ p) → Shown n p (fixed p n)
    go (yes l) =
        let P : 0 < 10 ^ (p - exponent_of n) = T.pos (p - exponent_of n) in
        let hi : n < 10 ^ exponent_of n * 10 = rw pow-suc at (T.hi n) in
        let same : n * 10 ^ (p - exponent_of n) * 10 ^ exponent_of n ≡ n * 10 ^ p = rw (T.split l) (omega arith) in
        rw (fixed-long n p l) (record {
          places = refl;
          low = λ h. omega (arith, T.split l, mul-le-mul_right (10 ^ (p - exponent_of n)) (T.lo n h));
          high = omega (arith, T.split l, mul-lt-mul_of_pos_right hi P);
          least = omega arith;
          most = omega arith;
          exact = λ k. same;
          less = λ k. absurd (omega arith);
          nearest = λ minus M k h. rw same (omega arith);
        })
    go (no l) =
        let k : p < exponent_of n = omega arith in
        let c = carry p (exponent_of n) (rounded (10 ^ (exponent_of n - p)) n) in
        rw (less n p k) (record {
          places = c.places;
          low = λ h. c.low (q-low n p k);
          high = c.high (q-high n p k);
          least = c.least;
          most = c.most;
          exact = λ h. absurd (omega arith);
          less = λ h. c.same;
          nearest = λ minus M j h. rw c.same (farther n p k minus M j h);
        })

-- n is rounded to a multiple of u = 10^(e-p)
pub rounds : (n p : ℕ) → p < exponent_of n → Rounds (10 ^ (exponent_of n - p)) n (fixed p n) (rounded (10 ^ (exponent_of n - p)) n * 10 ^ (exponent_of n - p))
rounds n p l =
    let N = near n p l in
    let S = shown n p in
    record {
      denotes = rw S.places (S.less l ∙ rw (split n p l) (omega arith));
      multiple = mul-mod_left (rounded (10 ^ (exponent_of n - p)) n) (10 ^ (exponent_of n - p));
      half = N.half;
      tie = λ t. rw (mul-div_cancel (rounded (10 ^ (exponent_of n - p)) n) (T.pos (exponent_of n - p))) (N.tie t);
    }

-- a number below 10^d shows an exponent of at most d
pub fixed-expo : (d n p : ℕ) → 0 < d → n < 10 ^ d → (fixed p n).expo ≤ d
fixed-expo zero n p k h = absurd (omega arith)
fixed-expo (suc d) n p k h = omega (arith, (shown n p).most, T.le d n h)

-- ---- what is computed where p is below e, by the test that a program makes

pub fixed-carry : (n p : ℕ) → p < exponent_of n → rounded (10 ^ (exponent_of n - p)) n ≡ 10 ^ suc p → fixed p n ≡ record { coef = 10 ^ p; frac = p; expo = suc (exponent_of n) }
unfolding carried
fixed-carry n p l e = less n p l ∙ rw (eq-eqb (rounded (10 ^ (exponent_of n - p)) n) (10 ^ suc p) e, carried)

pub fixed-stay : (n p : ℕ) → p < exponent_of n → (rounded (10 ^ (exponent_of n - p)) n ≡ 10 ^ suc p → ⊥)
    → fixed p n ≡ record { coef = rounded (10 ^ (exponent_of n - p)) n; frac = p; expo = exponent_of n }
unfolding carried
fixed-stay n p l e = less n p l ∙ rw (ne_eqb (rounded (10 ^ (exponent_of n - p)) n) (10 ^ suc p) e, carried)
