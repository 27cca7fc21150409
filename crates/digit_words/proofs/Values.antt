-- Numbers side by side in a word are gathered two and two: the first times c and the second, in lanes of twice the size. Over the bits of a lane, and c.
-- So eight digits become their number: in pairs, in fours, and the two fours.
-- Assumes nothing.
use Rattle.std.proofs.Common.{◌≡◌, ℕ, zero, suc, ◌+◌, ◌-◌, ◌*◌, ◌/◌, ◌%◌, ◌^◌, ◌<◌, ◌≤◌, List, [], ◌∷◌, map, length, replicate, sym, refl, ap, ◌∙◌, ap₂, le_trans, lt_of_lt_of_le, le_of_lt, mod-lt, mod-eq_of_lt, mul-le-mul, mul-pos, pow-suc, div-add-mod', le-mul_of_pos_right, arith, lit<, lit≤, pow_pos, pow-add}
use native.Mathlib.Nat.{pow-zero, zero-div, zero-mod}
use lib.Arith.{digits_div, digits_mod, digits_lt}
use lib.Bits.{bit_and, and_block, and_le_r, and_mask, and_zero_r}
use lib.Pow.{ones_lt}
use Rattle.digits.specs.Digits.{value, value_from, Below}
use Rattle.digits.specs.Text.{ascii}
use Rattle.digits.proofs.Last.{value-lt}
use Rattle.lanes.specs.Lanes.{word}
use Rattle.lanes.proofs.Letters.{word_bytes, bytes-more, bytes_most}
use Rattle.words.specs.Bytes.{bytes_of}
use Rattle.words.proofs.Bytes.{length-bytes_of}

-- two and two of a list of even length
unfoldable pub paired : ℕ → List ℕ → List ℕ
paired c [] = []
paired c (x ∷ []) = []
paired c (x ∷ y ∷ ds) = (x * c + y) ∷ paired c ds

module _ (c : ℕ) where
  length-paired : (k : ℕ) (ds : List ℕ) → length ds ≡ k + k → length (paired c ds) ≡ k
  unfolding paired
  length-paired k [] e = omega arith
  length-paired k (x ∷ []) e = absurd (omega arith)
  length-paired k (x ∷ y ∷ ds) e = let h = length-paired (k - 1) ds (omega arith) in omega arith

  below-paired : (ds : List ℕ) → Below c ds → Below (c * c) (paired c ds)
  unfolding paired Below
  below-paired [] h = tt
  below-paired (x ∷ []) h = tt
  below-paired (x ∷ y ∷ ds) h = (digits_lt h.0 h.1.0, below-paired ds h.1.1)

  -- they stand for the same number
  value-paired : (k n : ℕ) (ds : List ℕ) → length ds ≡ k + k → value_from (c * c) n (paired c ds) ≡ value_from c n ds
  unfolding paired value_from
  value-paired k n [] e = refl
  value-paired k n (x ∷ []) e = absurd (omega arith)
  value-paired k n (x ∷ y ∷ ds) e =
      let m : n * (c * c) + (x * c + y) ≡ (n * c + x) * c + y = omega arith in
      ap (λ (i : ℕ). value_from (c * c) i (paired c ds)) m ∙ value-paired (k - 1) ((n * c + x) * c + y) ds (omega arith)

-- ---- a step of the code, in lanes of w bits

module _ (w c : ℕ) (some : 0 < c) (small : c * c ≤ 2 ^ w) where
  narrow : c ≤ 2 ^ w
  narrow = le_trans (le-mul_of_pos_right c some) small

  -- the lowest lane
  lowest : (ds : List ℕ) → Below c ds → word (2 ^ w) ds % 2 ^ w < c
  unfolding word Below
  lowest [] h = rw (zero-mod (2 ^ w)) some
  lowest (d ∷ ds) h = rw (digits_mod (word (2 ^ w) ds) (lt_of_lt_of_le h.0 narrow)) h.0

  gathered : (k : ℕ) (ds : List ℕ) → length ds ≡ k + k → Below c ds →
      bit_and (word (2 ^ w) ds * c + word (2 ^ w) ds / 2 ^ w) (word (2 ^ w * 2 ^ w) (replicate k (2 ^ w - 1))) ≡ word (2 ^ w * 2 ^ w) (paired c ds)
  unfolding word paired Below
  gathered zero [] e h = and_zero_r (0 * c + 0 / 2 ^ w)
  gathered zero (x ∷ ds) e h = absurd (omega arith)
  gathered (suc k) [] e h = absurd (omega arith)
  gathered (suc k) (x ∷ []) e h = absurd (omega arith)
  gathered (suc k) (x ∷ y ∷ ds) e h =
      let B = 2 ^ w in
      let v = word B ds in
      let m = word (B * B) (replicate k (B - 1)) in
      let t = x * c + y in
      let u = y * c + v % B in
      let ht : t < B = lt_of_lt_of_le (digits_lt h.0 h.1.0) small in
      let hu : u < B = lt_of_lt_of_le (digits_lt h.1.0 (lowest ds h.1.1)) small in
      let s : 2 ^ (w + w) ≡ B * B = pow-add 2 w w in
      let n : ((v * B + y) * B + x) / B ≡ v * B + y = digits_div (v * B + y) (lt_of_lt_of_le h.0 narrow) in
      let q : (v / B * B + v % B) * B ≡ v * B = ap (λ (z : ℕ). z * B) (div-add-mod' v B) in
      let i : ((v * B + y) * B + x) * c + (v * B + y) ≡ (v * c + v / B) * (B * B) + (u * B + t) = omega arith in
      let b = rw s at (and_block (w + w) (v * c + v / B) m (u * B + t) (B - 1) (rw s (digits_lt hu ht)) (rw s (lt_of_lt_of_le (ones_lt w) (le-mul_of_pos_right B (pow_pos w))))) in
      ap (λ (z : ℕ). bit_and (((v * B + y) * B + x) * c + z) (m * (B * B) + (B - 1))) n
      ∙ ap (λ (z : ℕ). bit_and z (m * (B * B) + (B - 1))) i
      ∙ b
      ∙ ap₂ (λ (y z : ℕ). y * (B * B) + z) (gathered k ds (omega arith) h.1.1) (and_mask (u * B + t) w ∙ digits_mod u ht)

  -- no lane runs over before the mask
  room : (ds : List ℕ) → Below c ds → word (2 ^ w) ds * c + word (2 ^ w) ds / 2 ^ w < (2 ^ w) ^ length ds
  unfolding word Below
  room [] h = rw (zero-div (2 ^ w), pow-zero) (omega arith)
  room (x ∷ ds) h =
      let B = 2 ^ w in
      let v = word B ds in
      let n : (v * B + x) / B ≡ v = digits_div v (lt_of_lt_of_le h.0 narrow) in
      let u : x * c + v % B < B = lt_of_lt_of_le (digits_lt h.0 (lowest ds h.1)) small in
      let i : (v * B + x) * c + v ≡ (v * c + v / B) * B + (x * c + v % B) = omega (arith, div-add-mod' v B) in
      rw (n, i, pow-suc B (length ds)) (digits_lt (room ds h.1) u)

  pub gather : (k : ℕ) {x : ℕ} (ds : List ℕ) → x ≡ word (2 ^ w) ds → length ds ≡ k + k → Below c ds →
      (bit_and (x * c + x / 2 ^ w) (word (2 ^ w * 2 ^ w) (replicate k (2 ^ w - 1))) ≡ word (2 ^ w * 2 ^ w) (paired c ds)) × (x * c + x / 2 ^ w < (2 ^ w) ^ (k + k))
  gather k ds e n h = rw e (gathered k ds n h, rw n at (room ds h))

-- ---- eight digits

-- the last two, by their quotient and remainder
ends : (b c : ℕ) {q : ℕ} (ds : List ℕ) → q ≡ word b ds → length ds ≡ 2 → Below c ds → c ≤ b → q % b * c + q / b ≡ value c ds
unfolding word value value_from Below
ends b c [] e n h l = absurd (omega arith)
ends b c (x ∷ []) e n h l = absurd (omega arith)
ends b c (x ∷ y ∷ []) e n h l =
    let z : 0 * b + y ≡ y = omega arith in
    rw (e, z, digits_mod y (lt_of_lt_of_le h.0 l), digits_div y (lt_of_lt_of_le h.0 l)) (omega arith)
ends b c (x ∷ y ∷ d ∷ ds) e n h l = absurd (omega arith)

module _ (b w : ℕ) where
  abbrev twos : List ℕ
  twos = paired b (bytes_of 8 w)

  abbrev fours : List ℕ
  fours = paired (b * b) twos

  n2 : length twos ≡ 4
  n2 = length-paired b 4 (bytes_of 8 w) (length-bytes_of 8 w)

  n4 : length fours ≡ 2
  n4 = length-paired (b * b) 2 twos n2

  -- the code's steps
  abbrev pub in_twos : ℕ
  in_twos = bit_and (w * b + w / 2 ^ 8) 0x00ff_00ff_00ff_00ff

  abbrev pub in_fours : ℕ
  in_fours = bit_and (in_twos * (b * b) + in_twos / 2 ^ 16) 0x0000_ffff_0000_ffff

  abbrev pub in_all : ℕ
  in_all = in_fours % 2 ^ 32 * (b * b * (b * b)) + in_fours / 2 ^ 32

  -- what they are, and that no product or sum runs over
  pub record Steps : Type 0 where
    pub square : b * b ≤ 256
    pub fourth : b * b * (b * b) ≤ 65536
    pub twos_fit : w * b + w / 2 ^ 8 < 2 ^ 64
    pub fours-fit : in_twos * (b * b) + in_twos / 2 ^ 16 < 2 ^ 64
    pub fours-most : in_fours ≤ 0x0000_ffff_0000_ffff
    pub product : in_fours % 2 ^ 32 * (b * b * (b * b)) ≤ 4294967296 * 65536
    pub number : (in_all ≡ value b (bytes_of 8 w)) × (in_all < b ^ 8)

  pub steps : 2 ≤ b → b ≤ 16 → w < 2 ^ 64 → Below b (bytes_of 8 w) → Steps
  unfolding word value
  steps big few fits d = record {
    square = h2;
    fourth = h4;
    twos_fit = first.1;
    fours-fit = second.1;
    fours-most = and_le_r (in_twos * (b * b) + in_twos / 2 ^ 16) 0x0000_ffff_0000_ffff;
    product = mul-le-mul (le_of_lt (mod-lt in_fours (lit< tt))) h4;
    number = (is, rw is (rw length-bytes_of at (value-lt b big (bytes_of 8 w) d)));
  }
    where
      h2 : b * b ≤ 256
      h2 = mul-le-mul few few

      h4 : b * b * (b * b) ≤ 65536
      h4 = mul-le-mul h2 h2

      p1 : 0 < b
      p1 = omega arith

      first : (in_twos ≡ word (2 ^ 16) twos) × (w * b + w / 2 ^ 8 < 2 ^ 64)
      first = gather 8 b p1 h2 4 (bytes_of 8 w) (sym (word_bytes 8 w fits)) (length-bytes_of 8 w) d

      second : (in_fours ≡ word (2 ^ 32) fours) × (in_twos * (b * b) + in_twos / 2 ^ 16 < 2 ^ 64)
      second = gather 16 (b * b) (mul-pos p1 p1) h4 2 twos first.0 n2 (below-paired b (bytes_of 8 w) d)

      third : in_all ≡ value (b * b * (b * b)) fours
      third = ends (2 ^ 32) (b * b * (b * b)) fours second.0 n4 (below-paired (b * b) twos (below-paired b (bytes_of 8 w) d)) (le_trans h4 (lit≤ tt))

      is : in_all ≡ value b (bytes_of 8 w)
      is = third ∙ value-paired (b * b) 2 0 twos n2 ∙ value-paired b 4 0 (bytes_of 8 w) (length-bytes_of 8 w)

-- the text of a word of digits
pub text_of : (u w : ℕ) → w < 2 ^ 64 → (w + 0x3030_3030_3030_3030) % 2 ^ 64 ≡ u → Below 10 (bytes_of 8 w) → bytes_of 8 u ≡ map ascii (bytes_of 8 w)
unfolding word
text_of u w h e d = ap (bytes_of 8) (sym e ∙ mod-eq_of_lt (in-word w (bytes_most 8 w 9 h d))) ∙ bytes-more 8 w 10 h d 48 (lit≤ tt)
  where
    in-word : (w : ℕ) → w ≤ 0x0909_0909_0909_0909 → w + 0x3030_3030_3030_3030 < 2 ^ 64
    in-word w h = omega arith
