-- A higher precision never goes farther from n, and at one precision a larger magnitude never denotes a smaller number. Zero included.
-- Assumes nothing.
use mathlib.Core.Bool.{Bool, false}
use Rattle.std.specs.Prelude.{Some}
use mathlib.Core.Path.{◌≡◌, sym, ap, ◌∙◌, subst}
use Prim.Native.Nat.{ℕ, suc, ◌-◌, ◌*◌, ◌^◌, ◌≤◌, ◌<◌}
use native.Mathlib.Nat.{le_trans, mul_assoc, mul-le-mul_right, pow-suc}
use native.Mathlib.Decide.{dec_le}
use native.Mathlib.Omega.{arith}
use lib.Pow.{pow-add}
use Rattle.scientific.specs.Sci.{Sci, exponent_of, rounded, fixed, sci}
use Rattle.scientific.specs.Layout.{layout, exp_text}
use Rattle.scientific.specs.Shape.{Parts, Reads, number, Denotes, apart}
use Rattle.scientific.proofs.Round as R
use Rattle.scientific.proofs.Tens as T
use Rattle.scientific.proofs.Fixed as F
use Rattle.scientific.proofs.Text.{parts, reads, number-parts, one-reading}
use Rattle.scientific.proofs.Demand.{one_value}

-- ---- what is denoted, D

module _ (n p D : ℕ) (d : Denotes (fixed p n) D) where
  is-exact : exponent_of n ≤ p → D ≡ n
  is-exact l =
      let S = F.shown n p in
      one_value (fixed p n) D n d (rw S.places (S.exact l))

  is-rounded : p < exponent_of n → D ≡ rounded (10 ^ (exponent_of n - p)) n * 10 ^ (exponent_of n - p)
  is-rounded l = one_value (fixed p n) D (rounded (10 ^ (exponent_of n - p)) n * 10 ^ (exponent_of n - p)) d (F.rounds n p l).denotes

  -- it has the digits of n, or is 10^(e+1)
  low : 0 < n → 10 ^ exponent_of n ≤ D
  low h = go (dec_le (exponent_of n) p)
    where
      go : Dec (exponent_of n ≤ p) → 10 ^ exponent_of n ≤ D
      go (yes l) = rw (is-exact l) (T.lo n h)
      go (no l) =
          let k : p < exponent_of n = omega arith in
          let a = mul-le-mul_right (10 ^ (exponent_of n - p)) (F.q-low n p k) in
          rw (is-rounded k) (omega (arith, T.split {i = p} {j = exponent_of n} (omega arith)))

  high : D ≤ 10 ^ suc (exponent_of n)
  high = go (dec_le (exponent_of n) p)
    where
      go : Dec (exponent_of n ≤ p) → D ≤ 10 ^ suc (exponent_of n)
      go (yes l) = omega (arith, is-exact l, T.hi n)
      go (no l) =
          let k : p < exponent_of n = omega arith in
          let a = mul-le-mul_right (10 ^ (exponent_of n - p)) (rw pow-suc at (F.q-high n p k)) in
          rw (is-rounded k) (omega (arith, T.split {i = p} {j = exponent_of n} (omega arith)))

-- a higher precision is at most as far from n
finer : (n p p' D D' : ℕ) → p ≤ p' → Denotes (fixed p n) D → Denotes (fixed p' n) D' → apart false D' n ≤ apart false D n
finer n p p' D D' h d d' = go (dec_le (exponent_of n) p')
  where
    go : Dec (exponent_of n ≤ p') → apart false D' n ≤ apart false D n
    go (yes l) = omega (arith, is-exact n p' D' d' l)
    go (no l) =
        let k : p' < exponent_of n = omega arith in
        let e = exponent_of n in
        let s : 10 ^ (e - p) ≡ 10 ^ (p' - p) * 10 ^ (e - p') = ap (λ (x : ℕ). 10 ^ x) (omega arith) ∙ pow-add 10 (p' - p) (e - p') in
        let q = rounded (10 ^ (e - p)) n in
        let w : D ≡ q * 10 ^ (p' - p) * 10 ^ (e - p') = is-rounded n p D d (omega arith) ∙ ap (λ (x : ℕ). q * x) s ∙ sym (mul_assoc q (10 ^ (p' - p)) (10 ^ (e - p'))) in
        rw (is-rounded n p' D' d' k, w) (R.nearest (10 ^ (e - p')) (T.pos (e - p')) (F.even_power (e - p') (omega arith)) n (q * 10 ^ (p' - p)))

-- a larger magnitude does not denote a smaller number
in_order : (n m p D E : ℕ) → n ≤ m → Denotes (fixed p n) D → Denotes (fixed p m) E → D ≤ E
in_order n m p D E h d d' = go (dec_le (exponent_of m) (exponent_of n)) (T.mono h)
  where
    -- both have e + 1 digits
    same : exponent_of n ≡ exponent_of m → Dec (exponent_of m ≤ p) → D ≤ E
    same e (yes l) = omega (arith, is-exact n p D d (omega arith), is-exact m p E d' l)
    same e (no l) =
        let k : p < exponent_of m = omega arith in
        let a = rw e at (is-rounded n p D d (omega arith)) in
        let j = exponent_of m - p in
        rw (a, is-rounded m p E d' k) (mul-le-mul_right (10 ^ j) (R.in_order (10 ^ j) (T.pos j) (F.even_power j (omega arith)) n m h))

    go : Dec (exponent_of m ≤ exponent_of n) → exponent_of n ≤ exponent_of m → D ≤ E
    go (yes l) k = same (omega arith) (dec_le (exponent_of m) p)
    go (no l) k =
        let a : 10 ^ suc (exponent_of n) ≤ 10 ^ exponent_of m = T.powers (omega arith) in
        le_trans (high n p D d) (le_trans a (low m p E d' (T.some m (omega arith))))

-- ---- of the texts

-- a text of n at precision p is read as the number that was made
read_number : (letter n p : ℕ) → 57 < letter → (fixed p n).expo ≤ 99 → (signed : Bool) (x : Parts) → Reads signed letter (exp_text letter (Some p) n) x → number x ≡ fixed p n
unfolding exp_text sci
read_number letter n p l h signed x r =
    let s = fixed p n in
    let S = F.shown n p in
    let w = reads false false letter s (λ e. e) (rw S.places S.high) h in
    ap number (one-reading signed false letter (layout letter s) x (parts false s) l r w) ∙ number-parts false s

-- raising the precision never increases the distance to n
pub finer-texts : (letter n p p' : ℕ) → 57 < letter → (fixed p n).expo ≤ 99 → (fixed p' n).expo ≤ 99 → p ≤ p'
    → (signed : Bool) (x x' : Parts) → Reads signed letter (exp_text letter (Some p) n) x → Reads signed letter (exp_text letter (Some p') n) x'
    → (D D' : ℕ) → Denotes (number x) D → Denotes (number x') D' → apart false D' n ≤ apart false D n
finer-texts letter n p p' l b b' h signed x x' r r' D D' d d' =
    finer n p p' D D' h
    (subst (λ (s : Sci). Denotes s D) (read_number letter n p l b signed x r) d)
    (subst (λ (s : Sci). Denotes s D') (read_number letter n p' l b' signed x' r') d')

-- at one precision a larger magnitude never denotes a smaller number
pub ordered-texts : (letter n m p : ℕ) → 57 < letter → (fixed p n).expo ≤ 99 → (fixed p m).expo ≤ 99 → n ≤ m
    → (signed : Bool) (x y : Parts) → Reads signed letter (exp_text letter (Some p) n) x → Reads signed letter (exp_text letter (Some p) m) y
    → (D E : ℕ) → Denotes (number x) D → Denotes (number y) E → D ≤ E
ordered-texts letter n m p l b b' h signed x y r r' D E d d' =
    in_order n m p D E h
    (subst (λ (s : Sci). Denotes s D) (read_number letter n p l b signed x r) d)
    (subst (λ (s : Sci). Denotes s E) (read_number letter m p l b' signed y r') d')
