-- Bases that are a power of two, 2 ^ s: the mask of s ones leaves the last digit, and what stands in front of it is n shifted by s.
-- A text goes by pairs of digits while n shifted by both is not 0. Over all naturals, every s above 0 and any alphabet.
-- Assumes nothing.
use mathlib.Core.Path.{◌≡◌, sym, ap, ◌∙◌}
use mathlib.Core.List.{[], ◌∷◌, ◌++◌, map}
use Prim.Native.Nat.{ℕ, suc, ◌+◌, ◌*◌, ◌-◌, ◌/◌, ◌%◌, ◌≤◌, ◌<◌, ◌^◌}
use native.Mathlib.Nat.{pow-zero, pow-suc, one-mul, div-one, mod-eq_of_lt, mod-lt, lt_of_lt_of_le, div-lt_iff_lt-mul, div-eq_of_lt, div-lt_self}
use native.Mathlib.Decide.{dec_le}
use native.Mathlib.Omega.{arith}
use lib.Bits.{bit_and, and_mask}
use lib.Pow.{pow-add, pow-lt, pow_pos, pow_mono}
use Rattle.digits.specs.Digits.{last}
use Rattle.digits.specs.Text.{text, last_text}
use Rattle.digits.proofs.Digits.{digits-length}
use Rattle.digits.proofs.Last.{digits_last}
use Rattle.digits.proofs.Text.{text-split, text-small}
use Rattle.digits.proofs.Powers.{above-one}

first-power : (b : ℕ) → b ^ 1 ≡ b
first-power b = pow-suc b 0 ∙ rw (pow-zero, one-mul)

-- ---- the last digit

-- 1 shifted left by s, in a word of w bits
pub one_shifted : (w s : ℕ) → s < w → 1 * 2 ^ s % 2 ^ w ≡ 2 ^ s
one_shifted w s h = mod-eq_of_lt (rw one-mul (pow-lt h)) ∙ one-mul (2 ^ s)

-- what the mask of s ones leaves
pub last-digit : (w s n : ℕ) → s < w → bit_and n (1 * 2 ^ s % 2 ^ w - 1) ≡ n % 2 ^ s
last-digit w s n h = rw (one_shifted w s h) (and_mask n s)

pub last-digit-below : (s k n : ℕ) → s ≤ k → n % 2 ^ s < 2 ^ k
last-digit-below s k n h = lt_of_lt_of_le (mod-lt n (pow_pos s)) (pow_mono h)

-- ---- the last two, and what stands in front

-- the shift tells whether n reaches the power
reached : (k n : ℕ) → (n / 2 ^ k ≡ 0 → ⊥) → 2 ^ k ≤ n
reached k n h = go (dec_le (2 ^ k) n)
  where
    go : Dec (2 ^ k ≤ n) → 2 ^ k ≤ n
    go (yes l) = l
    go (no l) = absurd (h (div-eq_of_lt (omega arith)))

not-reached : (k n : ℕ) → n / 2 ^ k ≡ 0 → n < 2 ^ k
not-reached k n e = rw one-mul at ((div-lt_iff_lt-mul {k = 2 ^ k} {x = n} {y = 1} (pow_pos k)).0 (omega arith))

-- what a turn leaves is less
pub shifted-less : (k n : ℕ) → 0 < k → (n / 2 ^ k ≡ 0 → ⊥) → n / 2 ^ k < n
shifted-less k n p h = div-lt_self (omega (arith, reached k n h, pow_pos k)) (above-one p)

module _ (α : ℕ → ℕ) (b : ℕ) where
  pub pair_is : (n : ℕ) → last_text α b 2 n ≡ α (n / b % b) ∷ α (n % b) ∷ []
  unfolding last_text last
  pair_is n = rw (first-power b, pow-zero, div-one)

  -- a text of so many digits is that of the last so many
  text-last : 1 < b → (k n : ℕ) → b ^ k ≤ n → n < b ^ suc k → text α b n ≡ last_text α b (suc k) n
  unfolding text last_text
  text-last big k n l h = ap (map α) (digits_last b big n ∙ ap (λ (j : ℕ). last b j n) (digits-length b big k n l h))

module _ (α : ℕ → ℕ) (s : ℕ) (p : 0 < s) where
  square : 2 ^ (s + s) ≡ (2 ^ s) ^ 2
  square = pow-add 2 s s ∙ sym (pow-suc (2 ^ s) 1 ∙ ap (λ (x : ℕ). x * 2 ^ s) (first-power (2 ^ s)))

  -- more than two digits are left, two, or one
  pub pair-more : (n : ℕ) → (n / 2 ^ (s + s) ≡ 0 → ⊥) → text α (2 ^ s) n ≡ text α (2 ^ s) (n / 2 ^ (s + s)) ++ last_text α (2 ^ s) 2 n
  pair-more n h = rw square (text-split α (2 ^ s) (above-one p) 2 n (rw square at (reached (s + s) n h)))

  pub pair-last : (n : ℕ) → n / 2 ^ (s + s) ≡ 0 → (n / 2 ^ s ≡ 0 → ⊥) → text α (2 ^ s) n ≡ last_text α (2 ^ s) 2 n
  pair-last n e h = text-last α (2 ^ s) (above-one p) 1 n (rw first-power (reached s n h)) (rw square at (not-reached (s + s) n e))

  pub one_last : (n : ℕ) → n / 2 ^ s ≡ 0 → text α (2 ^ s) n ≡ α (n % 2 ^ s) ∷ []
  one_last n e =
      let l : n < 2 ^ s = not-reached s n e in
      rw (mod-eq_of_lt l) (text-small α (2 ^ s) (above-one p) n l)
