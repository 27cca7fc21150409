-- Document 01's lengths: of a pattern that needs b bits, binary has b digits, octal b/3 rounded up, hex b/4 rounded up. Over all naturals.
-- Assumes nothing.
use mathlib.Core.Bool.{Bool, true, false}
use mathlib.Core.Path.{◌≡◌, refl, ◌∙◌}
use Prim.Native.Nat.{ℕ, ◌*◌, ◌^◌, ◌≤◌, ◌<◌}
use native.Mathlib.Nat.{lt_of_lt_of_le, mul-le-mul_right}
use native.Mathlib.Omega.{arith}
use lib.Dec.{eqb, lit<}
use lib.ListN.{length}
use lib.Pow.{pow_mono}
use Rattle.digits.specs.Digits.{digits}
use Rattle.digits.proofs.Digits.{digits-length-le}
use Rattle.digits.proofs.Text.{length-text}
use Rattle.radix.specs.Radix.{lower, upper, radix, digit_bits, rounded_up}
use Rattle.digits.proofs.Powers.{pow-pow, above-one}
use Rattle.bit_table.proofs.Rounded.{length-rounded}

module _ (format : ℕ) where
  -- the ways through the cases
  by_code {ℓ} : (P : Type ℓ) → (eqb format 1 ≡ true → P) → (eqb format 1 ≡ false → eqb format 2 ≡ true → P) → (eqb format 1 ≡ false → eqb format 2 ≡ false → (t : Bool) → eqb format 3 ≡ t → P) → P
  by_code P one two hex = go (eqb format 1) refl (eqb format 2) refl
    where
      go : (x : Bool) → eqb format 1 ≡ x → (y : Bool) → eqb format 2 ≡ y → P
      go true e y f = one e
      go false e true f = two e f
      go false e false f = hex e f (eqb format 3) refl

  -- so many as in the base of the code
  pub radix-digits : (n : ℕ) → length (radix format n) ≡ length (digits (2 ^ digit_bits format) n)
  radix-digits n =
      by_code (length (radix format n) ≡ length (digits (2 ^ digit_bits format) n))
      (λ e. rw e (length-text lower 2 (lit< tt) n))
      (λ e f. rw (e, f) (length-text lower 8 (lit< tt) n))
      hex
    where
      hex : eqb format 1 ≡ false → eqb format 2 ≡ false → (t : Bool) → eqb format 3 ≡ t → length (radix format n) ≡ length (digits (2 ^ digit_bits format) n)
      hex e f true g = rw (e, f, g) (length-text lower 16 (lit< tt) n)
      hex e f false g = rw (e, f, g) (length-text upper 16 (lit< tt) n)

  some_bits : 0 < digit_bits format
  some_bits = by_code (0 < digit_bits format) (λ e. rw e (lit< tt)) (λ e f. rw (e, f) (lit< tt)) (λ e f t g. rw (e, f) (lit< tt))

  -- document 01's rule
  pub radix-length : (n : ℕ) → length (radix format n) ≡ rounded_up (length (digits 2 n)) (digit_bits format)
  radix-length n = radix-digits n ∙ length-rounded (digit_bits format) some_bits n

  -- a pattern of k bits has at most k digits
  pub radix-most : (k n : ℕ) → 0 < k → n < 2 ^ k → length (radix format n) ≤ k
  radix-most k n p h =
      let s = digit_bits format in
      let l : k ≤ s * k = omega (arith, mul-le-mul_right k some_bits) in
      let q : n < (2 ^ s) ^ k = rw (pow-pow s k) (lt_of_lt_of_le h (pow_mono l)) in
      omega (arith, radix-digits n, digits-length-le (2 ^ s) (above-one some_bits) k n p q)
