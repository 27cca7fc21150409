-- The binary digits of a byte by a product: n at seven places, nine bits apart, has in each lane of eight bits one more of its digits lowest.
-- Assumes nothing.
use mathlib.Core.Path.{◌≡◌}
use mathlib.Core.List.{List, [], ◌∷◌, map}
use Prim.Native.Nat.{ℕ, ◌+◌, ◌*◌, ◌/◌, ◌%◌, ◌^◌, ◌<◌}
use native.Mathlib.Nat.{div-add-mod', div-one, mul_assoc, add-mul-mod_self_right}
use native.Mathlib.Omega.{arith}
use lib.Bits.{bit_and, and_block, and_zero_r}
use lib.Dec.{lit<}
use Rattle.digits.specs.Digits.{last, Below}
use Rattle.lanes.specs.Lanes.{word}
use Rattle.lanes.proofs.Lanes.{masked}

-- n at seven places, by its quotients and remainders by 2 to 64
summed : (n a b c d e f a' b' c' d' e' f' : ℕ) →
    a * 2 + a' ≡ n → b * 4 + b' ≡ n → c * 8 + c' ≡ n → d * 16 + d' ≡ n → e * 32 + e' ≡ n → f * 64 + f' ≡ n →
    n * 0x0100_8040_2010_0804
    ≡ (((((((0 * 256 + n) * 256 + a) * 256 + (b + a' * 128)) * 256 + (c + b' * 64)) * 256 + (d + c' * 32)) * 256 + (e + d' * 16)) * 256 + (f + e' * 8)) * 256 + f' * 4
summed n a b c d e f a' b' c' d' e' f' ha hb hc hd he hf = omega arith

-- the lanes but the lowest: the digits from one on, and above them those below
abbrev lanes : ℕ → List ℕ
lanes n = (n / 64 + n % 32 * 8) ∷ (n / 32 + n % 16 * 16) ∷ (n / 16 + n % 8 * 32) ∷ (n / 8 + n % 4 * 64) ∷ (n / 4 + n % 2 * 128) ∷ (n / 2) ∷ n ∷ []

product : (n : ℕ) → n * 0x0100_8040_2010_0804 ≡ word 256 (lanes n) * 256 + n % 64 * 4
unfolding word
product n =
    summed n (n / 2) (n / 4) (n / 8) (n / 16) (n / 32) (n / 64) (n % 2) (n % 4) (n % 8) (n % 16) (n % 32) (n % 64)
    (div-add-mod' n 2) (div-add-mod' n 4) (div-add-mod' n 8) (div-add-mod' n 16) (div-add-mod' n 32) (div-add-mod' n 64)

even : (q r p : ℕ) → (q + r * (p * 2)) % 2 ≡ q % 2
even q r p = rw (← mul_assoc r p 2) (add-mul-mod_self_right q (r * p) 2)

module _ (n : ℕ) (h : n < 256) where
  inside : Below 256 (lanes n)
  unfolding Below
  inside = (omega arith, (omega arith, (omega arith, (omega arith, (omega arith, (omega arith, (h, tt)))))))

  -- the lowest bit of each
  lowest : (n / 128) ∷ map (λ (d : ℕ). d % 2) (lanes n) ≡ last 2 8 n
  unfolding last
  lowest =
      let top : n / 128 % 2 ≡ n / 128 = omega arith in
      rw (top, div-one, even (n / 64) (n % 32) 4, even (n / 32) (n % 16) 8, even (n / 16) (n % 8) 16, even (n / 8) (n % 4) 32, even (n / 4) (n % 2) 64)

  pub bits-spread : n / 2 ^ 7 + bit_and (n * 0x0100_8040_2010_0804) 0x0101_0101_0101_0100 ≡ word 256 (last 2 8 n)
  unfolding word
  bits-spread =
      let v = word 256 (lanes n) in
      let m : bit_and v 0x0001_0101_0101_0101 ≡ word 256 (map (λ (d : ℕ). d % 2) (lanes n)) = masked 7 1 (lanes n) inside in
      let e : bit_and (v * 256 + n % 64 * 4) 0x0101_0101_0101_0100 ≡ bit_and v 0x0001_0101_0101_0101 * 256 + bit_and (n % 64 * 4) 0 =
      and_block 8 v 0x0001_0101_0101_0101 (n % 64 * 4) 0 (omega arith) (lit< tt) in
      rw (product n, e, m, and_zero_r, ← lowest) (omega arith)
