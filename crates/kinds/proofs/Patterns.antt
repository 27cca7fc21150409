-- Ranges, patterns, signs and magnitudes, once over the bits.
-- Assumes nothing.
use mathlib.Core.Bool.{Bool, true, false, false≢true}
use mathlib.Core.Path.{◌≡◌, refl, sym, ap, ◌∙◌}
use Prim.Native.Nat.{ℕ, suc, ◌+◌, ◌-◌, ◌*◌, ◌/◌, ◌%◌, ◌^◌, ◌≤◌, ◌<◌}
use native.Mathlib.Decide.{dec_le}
use native.Mathlib.Nat.{mod-eq_of_lt, mul-div_cancel, pow-suc, one-mul}
use native.Mathlib.Omega.{arith}
use borrow.Author.Tests.{ltb-true, ltb-false, lt-ltb, le-ltb}
use lib.Dec.{ltb}
use lib.IntN.{ℤ, pos, negsuc}
use lib.Pow.{pow-lt, pow_mono, pow_pos, field, not_mod}
use Rattle.kinds.specs.Kinds.{is_in_type, pattern, reading, meaning}

-- two times half of the numbers of so many bits are all of them
pub halves : (b : ℕ) → 1 ≤ b → 2 ^ b ≡ 2 ^ (b - 1) * 2
halves b h = let e : suc (b - 1) ≡ b = omega arith in sym (ap (λ (k : ℕ). 2 ^ k) e) ∙ pow-suc 2 (b - 1)

-- which way a pattern is read
pub read_low : (b p : ℕ) → p < 2 ^ (b - 1) → reading b p ≡ pos p
read_low b p h = simp (lt-ltb p (2 ^ (b - 1)) h)

pub read-high : (b p : ℕ) → 2 ^ (b - 1) ≤ p → reading b p ≡ negsuc (2 ^ b - suc p)
read-high b p h = simp (le-ltb p (2 ^ (b - 1)) h)

pub pattern-reading : (w p : ℕ) → p < 2 ^ w → pattern w (reading w p) ≡ p
pattern-reading w p fits = go (dec_le (2 ^ (w - 1)) p)
  where
    go : Dec (2 ^ (w - 1) ≤ p) → pattern w (reading w p) ≡ p
    go (yes g) = rw (read-high w p g) (omega arith)
    go (no g) = rw (read_low w p (omega arith))

-- a value of a signed type, as a pattern of a word that is no narrower, stands for itself
pub reading-pattern : (w b : ℕ) (z : ℤ) → 1 ≤ w → b ≤ w → is_in_type true b z ≡ true → reading w (pattern w z) ≡ z
reading-pattern w b (pos n) one h t = read_low w n (omega (arith, ltb-true n (2 ^ (b - 1)) t, pow_mono {i = b - 1} {j = w - 1} (omega arith)))
reading-pattern w b (negsuc k) one h t =
    let l : k < 2 ^ (w - 1) = omega (arith, ltb-true k (2 ^ (b - 1)) t, pow_mono {i = b - 1} {j = w - 1} (omega arith)) in
    let e = halves w one in
    read-high w (2 ^ w - suc k) (omega arith) ∙ ap negsuc (omega arith)

-- the pattern at the type's own bits is what is left of the word's pattern
pub own-pattern : (w b : ℕ) (z : ℤ) → 1 ≤ b → b ≤ w → is_in_type true b z ≡ true → pattern w z % 2 ^ b ≡ pattern b z
own-pattern w b (pos n) one h t = mod-eq_of_lt (omega (arith, ltb-true n (2 ^ (b - 1)) t, halves b one, pow_pos (b - 1)))
own-pattern w b (negsuc k) one h t =
    let l = ltb-true k (2 ^ (b - 1)) t in
    let e : (w - b) + b ≡ w = omega arith in
    let m = not_mod {a = k} (w - b) b (omega (arith, halves b one)) in
    let e₂ : 2 ^ w - suc k ≡ (2 ^ ((w - b) + b) - 1) - k = omega (arith, ap (λ (j : ℕ). 2 ^ j) e) in
    ap (λ (x : ℕ). x % 2 ^ b) e₂ ∙ m ∙ omega arith

-- a value of any type, as a pattern of a word that is no narrower, stands for itself; and two values of a type with one pattern are one
pub meaning-pattern : (w b : ℕ) (s : Bool) (z : ℤ) → 1 ≤ w → b ≤ w → is_in_type s b z ≡ true → meaning w s (pattern w z) ≡ z
meaning-pattern w b true z one h t = reading-pattern w b z one h t
meaning-pattern w b false (pos n) one h t = refl
meaning-pattern w b false (negsuc k) one h t = absurd (false≢true t)

pub one-pattern : (w b : ℕ) (s : Bool) (y z : ℤ) → 1 ≤ w → b ≤ w → is_in_type s b y ≡ true → is_in_type s b z ≡ true → pattern w y ≡ pattern w z → y ≡ z
one-pattern w b s y z one h i j e = sym (meaning-pattern w b s y one h i) ∙ ap (meaning w s) e ∙ meaning-pattern w b s z one h j

-- ---- the range test of a word's pattern

module _ (w b p : ℕ) (one : 1 ≤ b) (h : b ≤ w) (fits : p < 2 ^ w) where
  half : 2 ^ (b - 1) ≤ 2 ^ (w - 1)
  half = pow_mono {i = b - 1} {j = w - 1} (omega arith)

  pub in-low : p < 2 ^ (b - 1) → is_in_type true b (reading w p) ≡ true
  in-low l = rw (read_low w p (omega (arith, half))) (lt-ltb p (2 ^ (b - 1)) l)

  pub in-high : 2 ^ (b - 1) ≤ p → is_in_type true b (reading w p) ≡ ltb ((2 ^ w - 1) - p) (2 ^ (b - 1))
  in-high l = go (dec_le (2 ^ (w - 1)) p)
    where
      go : Dec (2 ^ (w - 1) ≤ p) → is_in_type true b (reading w p) ≡ ltb ((2 ^ w - 1) - p) (2 ^ (b - 1))
      go (yes g) = let e : 2 ^ w - suc p ≡ (2 ^ w - 1) - p = omega arith in rw (read-high w p g, e)
      go (no g) =
          let k : p < 2 ^ (w - 1) = omega arith in
          let f : 2 ^ (b - 1) ≤ (2 ^ w - 1) - p = omega (arith, half, halves w (omega arith)) in
          rw (read_low w p k, le-ltb p (2 ^ (b - 1)) l, le-ltb ((2 ^ w - 1) - p) (2 ^ (b - 1)) f)

-- half of an unsigned number is below half of the type's numbers exactly where it is below all of them
pub in-unsigned : (b p : ℕ) → 1 ≤ b → ltb (p / 2) (2 ^ (b - 1)) ≡ is_in_type false b (pos p)
in-unsigned b p one = go (ltb p (2 ^ b)) refl
  where
    go : (t : Bool) → ltb p (2 ^ b) ≡ t → ltb (p / 2) (2 ^ (b - 1)) ≡ ltb p (2 ^ b)
    go true e = rw e (lt-ltb (p / 2) (2 ^ (b - 1)) (omega (arith, ltb-true p (2 ^ b) e, halves b one)))
    go false e = rw e (le-ltb (p / 2) (2 ^ (b - 1)) (omega (arith, ltb-false p (2 ^ b) e, halves b one)))

-- the pattern at the type's own bits, of a value by its word's pattern
pub own-meaning : (w b : ℕ) (s : Bool) (p : ℕ) → 1 ≤ b → b ≤ w → p < 2 ^ w → is_in_type s b (meaning w s p) ≡ true → p % 2 ^ b ≡ pattern b (meaning w s p)
own-meaning w b false p one h fits t = mod-eq_of_lt (ltb-true p (2 ^ b) t)
own-meaning w b true p one h fits t =
    let e : pattern w (reading w p) ≡ p = pattern-reading w p fits in
    ap (λ (x : ℕ). x % 2 ^ b) (sym e) ∙ own-pattern w b (reading w p) one h t

-- up and down again in a word: what is left are so many bits
pub shifted_back : (w b p : ℕ) → b ≤ w → p * 2 ^ (w - b) % 2 ^ w / 2 ^ (w - b) ≡ p % 2 ^ b
shifted_back w b p h =
    let e : w ≡ b + (w - b) = omega arith in
    ap (λ (x : ℕ). p * 2 ^ (w - b) % 2 ^ x / 2 ^ (w - b)) e ∙ field (p * 2 ^ (w - b)) b (w - b) ∙ ap (λ (x : ℕ). x % 2 ^ b) (mul-div_cancel p (pow_pos (w - b)))

-- a 1 that is moved b places is 2 ^ b, in a word of more places
pub one_shifted : (w b : ℕ) → b < w → (1 * 2 ^ b) % 2 ^ w ≡ 2 ^ b
one_shifted w b h = rw one-mul (mod-eq_of_lt (pow-lt h))
