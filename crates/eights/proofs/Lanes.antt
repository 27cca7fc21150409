-- Numbers that stand side by side in a word: what a product, a shift and a mask do to each.
-- Assumes nothing.
use mathlib.Core.List.{List, map, map-id, map-map}
use mathlib.Core.Path.{◌≡◌, refl, sym, ap, ◌∙◌}
use Prim.Native.Nat.{ℕ, ◌+◌, ◌*◌, ◌-◌, ◌/◌, ◌%◌, ◌^◌, ◌<◌, ◌≤◌}
use native.Mathlib.Nat.{div-add-mod', mod-eq_of_lt, mul-pos, div-div-eq-div-mul}
use native.Mathlib.Omega.{arith}
use lib.Arith.{digits_div, digits_mod}
use lib.Bits.{bit_and}
use lib.Dec.{lit<}
use lib.ListN.{length, replicate, length-map}
use lib.Pow.{pow_pos}
use Rattle.digits.specs.Digits.{Below}
use Rattle.lanes.specs.Lanes.{word}
use Rattle.lanes.proofs.Lanes.{field, word_sum, word-times}
use Rattle.lanes.proofs.Letters.{map_same, below-map}
use Rattle.eights.specs.Steps.{pairs_of, tens_of}

-- the digits of a number of four in a word
unfoldable pub four_of : ℕ → ℕ
four_of n = n / 1000 + n / 100 % 10 * 256 + n / 10 % 10 * 65536 + n % 10 * 16777216

pub div_is : {x : ℕ} (q r m : ℕ) → x ≡ q * m + r → r < m → x / m ≡ q
div_is q r m e h = ap (λ (x : ℕ). x / m) e ∙ digits_div q h

pub mod-is : {x : ℕ} (q r m : ℕ) → x ≡ q * m + r → r < m → x % m ≡ r
mod-is q r m e h = ap (λ (x : ℕ). x % m) e ∙ digits_mod q h

-- Each number d of a word's lanes, of twice w bits, below the limit: a product by m and a shift by s have d / c lowest, j bits of it.
-- With the mask of those, d shifted by w less c * 2 ^ w - 1 times d / c has d / c and above it d % c.
module _ (w c m s j a limit : ℕ) (some : 0 < c) (inside : (d : ℕ) → d < limit → d * m < 2 ^ (a + j + s)) (quotient : (d : ℕ) → d < limit → d * m / 2 ^ s % 2 ^ j ≡ d / c) where
  abbrev b : ℕ
  b = 2 ^ (a + j + s)

  -- one number
  one : (d : ℕ) → d * 2 ^ w ≡ d % c * 2 ^ w + d / c + d / c * (c * 2 ^ w - 1)
  one d =
      let n : c * 2 ^ w ≡ c * 2 ^ w - 1 + 1 = omega (arith, mul-pos some (pow_pos w)) in
      let e : d / c * (c * 2 ^ w) ≡ d / c * (c * 2 ^ w - 1 + 1) = ap (λ (z : ℕ). d / c * z) n in
      let f : (d / c * c + d % c) * 2 ^ w ≡ d * 2 ^ w = ap (λ (z : ℕ). z * 2 ^ w) (div-add-mod' d c) in
      omega arith

  quotients : (ds : List ℕ) → Below limit ds → bit_and (word b ds * m / 2 ^ s) (word b (replicate (length ds) (2 ^ j - 1))) ≡ word b (map (λ (d : ℕ). d / c) ds)
  quotients ds h =
      let times : ℕ → ℕ = λ (d : ℕ). d * m in
      let p : word b ds * m ≡ word b (map times ds) = ap (λ (l : List ℕ). word b l * m) (sym (map-id ds)) ∙ word-times b (λ (d : ℕ). d) m ds in
      ap (λ (x : ℕ). bit_and (x / 2 ^ s) (word b (replicate (length ds) (2 ^ j - 1)))) p
      ∙ rw (length-map, map-map) at (field a j s (map times ds) (below-map limit b times inside ds h))
      ∙ ap (word b) (map_same (λ (d : ℕ). d * m / 2 ^ s % 2 ^ j) (λ (d : ℕ). d / c) limit quotient ds h)

  pub parted : {y : ℕ} (ds : List ℕ) → y ≡ word b ds → Below limit ds →
      y * 2 ^ w ≡ word b (map (λ (d : ℕ). d % c * 2 ^ w + d / c) ds) + bit_and (y * m / 2 ^ s) (word b (replicate (length ds) (2 ^ j - 1))) * (c * 2 ^ w - 1)
  parted ds e h =
      let n = c * 2 ^ w - 1 in
      let left : ℕ → ℕ = λ (d : ℕ). d % c * 2 ^ w + d / c in
      rw (e, quotients ds h)
      (ap (λ (l : List ℕ). word b l * 2 ^ w) (sym (map-id ds)) ∙ word-times b (λ (d : ℕ). d) (2 ^ w) ds
      ∙ ap (word b) (map_same (λ (d : ℕ). d * 2 ^ w) (λ (d : ℕ). left d + d / c * n) limit (λ d l. one d) ds h)
      ∙ sym (word_sum b left (λ (d : ℕ). d / c * n) ds) ∙ ap (λ (x : ℕ). word b (map left ds) + x) (sym (word-times b (λ (d : ℕ). d / c) n ds)))

-- n's two pairs side by side
pub paired : (n : ℕ) → n < 10000 → n * 2 ^ 16 % 2 ^ 32 - n / 100 * 6553599 ≡ pairs_of n
unfolding pairs_of
paired n h =
    let e : n * 2 ^ 16 % 2 ^ 32 ≡ n * 65536 = mod-eq_of_lt (omega arith) in
    let d = div-add-mod' n 100 in
    rw e (omega arith)

tens-of : (n : ℕ) → n % 100 / 10 ≡ n / 10 % 10
tens-of n = omega arith

units_of : (n : ℕ) → n % 100 % 10 ≡ n % 10
units_of n = omega arith

pub sub_is : {x : ℕ} (r t : ℕ) → x ≡ r + t → x - t ≡ r
sub_is r t e = omega arith

pub le_is : {x : ℕ} (r t : ℕ) → x ≡ r + t → t ≤ x
le_is r t e = omega arith

-- the pairs of a number of four digits
pub pairs-low : (n : ℕ) → n < 10000 → pairs_of n % 65536 ≡ n / 100
unfolding pairs_of
pairs-low n h = mod-is (n % 100) (n / 100) 65536 refl (omega arith)

pub pairs-high : (n : ℕ) → n < 10000 → pairs_of n / 65536 ≡ n % 100
unfolding pairs_of
pairs-high n h = div_is (n % 100) (n / 100) 65536 refl (omega arith)

pub pairs_small : (n : ℕ) → n < 10000 → pairs_of n < 4294967296
unfolding pairs_of
pairs_small n h = omega arith

-- the digits of the pairs of n are n's
pub pairs-four : (n : ℕ) → n < 10000 → tens_of (pairs_of n) ≡ four_of n
unfolding tens_of four_of
pairs-four n h =
    let d : n / 100 / 10 ≡ n / 1000 = div-div-eq-div-mul n 100 10 in
    rw (pairs-low n h, pairs-high n h, d, tens-of n, units_of n)

-- ---- tens in lanes of 16 bits, and hundreds in lanes of 32

pub tens : {y : ℕ} (ds : List ℕ) → y ≡ word 65536 ds → Below 100 ds →
    y * 256 ≡ word 65536 (map (λ (d : ℕ). d % 10 * 256 + d / 10) ds) + bit_and (y * 103 / 2 ^ 10) (word 65536 (replicate (length ds) 15)) * 2559
tens = parted 8 10 103 10 4 2 100 (lit< tt) (λ d h. omega arith) (λ d h. ap (λ (x : ℕ). x % 16) (div_is (d / 10) (d / 10 * 6 + d % 10 * 103) 1024 (omega (arith, div-add-mod' d 10)) (omega arith)) ∙ mod-eq_of_lt (omega arith))

pub hundreds : {y : ℕ} (ds : List ℕ) → y ≡ word 4294967296 ds → Below 10000 ds →
    y * 65536 ≡ word 4294967296 (map (λ (d : ℕ). d % 100 * 65536 + d / 100) ds) + bit_and (y * 10486 / 2 ^ 20) (word 4294967296 (replicate (length ds) 127)) * 6553599
hundreds = parted 16 100 10486 20 7 5 10000 (lit< tt) (λ d h. omega arith) (λ d h. ap (λ (x : ℕ). x % 128) (div_is (d / 100) (d / 100 * 24 + d % 100 * 10486) 1048576 (omega (arith, div-add-mod' d 100)) (omega arith)) ∙ mod-eq_of_lt (omega arith))
