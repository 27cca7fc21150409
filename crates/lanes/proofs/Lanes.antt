-- Laws of numbers side by side in a word: a shift and a mask take the same bits of each, and two digits stand in the place of each of the squared base.
-- Over all naturals. Assumes nothing.
use mathlib.Core.Path.{◌≡◌, refl, sym, ap, ap₂, ◌∙◌}
use mathlib.Core.List.{List, [], ◌∷◌, map}
use Prim.Native.Nat.{ℕ, zero, suc, ◌+◌, ◌*◌, ◌-◌, ◌/◌, ◌%◌, ◌^◌, ◌≤◌, ◌<◌}
use native.Mathlib.Nat.{add-zero, suc-add, add-suc, zero-mul, mul_comm, mul_assoc, pow-zero, pow-suc, div-one, mod-mod, div-add-mod', div-div-eq-div-mul, div-lt_iff_lt-mul, mod-lt, mul-add-mod_self_right, mul-le-mul_right, lt_of_lt_of_le, mod-eq_of_lt, one-mul}
use native.Mathlib.Omega.{arith}
use lib.Arith.{digits_lt, digits_div, digits_mod, mod-mul}
use lib.Bits.{bit_and, and_block, and_mask, and_zero_r}
use lib.ListN.{length, replicate}
use lib.Pow.{pow-add, pow_pos, pow_mono, ones_lt}
use Rattle.digits.specs.Digits.{last, Below}
use Rattle.lanes.specs.Lanes.{word}

pub below_more : {b c : ℕ} → b ≤ c → (ds : List ℕ) → Below b ds → Below c ds
unfolding Below
below_more h [] p = tt
below_more h (d ∷ ds) p = (lt_of_lt_of_le p.0 h, below_more h ds p.1)

-- ---- a field of each lane

-- a word of lanes of c * j * q, shifted by q: what falls from a lane goes to the top of the one below
pub shifted : (v c j q d : ℕ) → 0 < q → (v * (c * j * q) + d) / q ≡ v / q * (c * j * q) + (v % q * (c * j) + d / q)
shifted v c j q d p =
    let m : v / q * q + v % q ≡ v = div-add-mod' v q in
    let n : d / q * q + d % q ≡ d = div-add-mod' d q in
    let t : (v / q * q + v % q) * (c * j * q) ≡ v * (c * j * q) = ap (λ (x : ℕ). x * (c * j * q)) m in
    let e : v * (c * j * q) + d ≡ (v / q * (c * j * q) + (v % q * (c * j) + d / q)) * q + d % q = omega arith in
    rw e (digits_div (v / q * (c * j * q) + (v % q * (c * j) + d / q)) (mod-lt d p))

-- so the low j of the lane are the field's
fielded : (v c j q d : ℕ) → (v % q * (c * j) + d / q) % j ≡ d / q % j
fielded v c j q d = let e : v % q * (c * j) ≡ v % q * c * j = sym (mul_assoc (v % q) c j) in rw e (mul-add-mod_self_right (v % q * c) j (d / q))

room : (v c j q d : ℕ) → 0 < q → d < c * j * q → v % q * (c * j) + d / q < c * j * q
room v c j q d p h = rw (mul_comm (c * j) q) (digits_lt (mod-lt v p) ((div-lt_iff_lt-mul p).1 h))

-- the j bits of each lane from bit s on
module _ (c j s : ℕ) where
  powers : 2 ^ (c + j + s) ≡ 2 ^ c * 2 ^ j * 2 ^ s
  powers = pow-add 2 (c + j) s ∙ ap (λ (x : ℕ). x * 2 ^ s) (pow-add 2 c j)

  carried : (v d : ℕ) → (v * 2 ^ (c + j + s) + d) / 2 ^ s ≡ v / 2 ^ s * 2 ^ (c + j + s) + (v % 2 ^ s * (2 ^ c * 2 ^ j) + d / 2 ^ s)
  carried v d = rw powers (shifted v (2 ^ c) (2 ^ j) (2 ^ s) d (pow_pos s))

  within : (v d : ℕ) → d < 2 ^ (c + j + s) → v % 2 ^ s * (2 ^ c * 2 ^ j) + d / 2 ^ s < 2 ^ (c + j + s)
  within v d h = rw powers (room v (2 ^ c) (2 ^ j) (2 ^ s) d (pow_pos s) (rw powers at h))

  pub field : (ds : List ℕ) → Below (2 ^ (c + j + s)) ds →
      bit_and (word (2 ^ (c + j + s)) ds / 2 ^ s) (word (2 ^ (c + j + s)) (replicate (length ds) (2 ^ j - 1))) ≡ word (2 ^ (c + j + s)) (map (λ (d : ℕ). d / 2 ^ s % 2 ^ j) ds)
  unfolding word Below
  field [] h = and_zero_r (0 / 2 ^ s)
  field (d ∷ ds) h =
      let b = 2 ^ (c + j + s) in
      let v = word b ds in
      let m = word b (replicate (length ds) (2 ^ j - 1)) in
      let low = v % 2 ^ s * (2 ^ c * 2 ^ j) + d / 2 ^ s in
      let o : 2 ^ j - 1 < b = lt_of_lt_of_le (ones_lt j) (pow_mono (omega arith)) in
      ap (λ (x : ℕ). bit_and x (m * b + (2 ^ j - 1))) (carried v d)
      ∙ and_block (c + j + s) (v / 2 ^ s) m low (2 ^ j - 1) (within v d h.0) o
      ∙ ap₂ (λ (x y : ℕ). x * b + y) (field ds h.1) (and_mask low j ∙ fielded v (2 ^ c) (2 ^ j) (2 ^ s) d)

-- the low j bits
pub masked : (c j : ℕ) (ds : List ℕ) → Below (2 ^ (c + j)) ds → bit_and (word (2 ^ (c + j)) ds) (word (2 ^ (c + j)) (replicate (length ds) (2 ^ j - 1))) ≡ word (2 ^ (c + j)) (map (λ (d : ℕ). d % 2 ^ j) ds)
masked c j ds h =
    let h' : Below (2 ^ (c + j + 0)) ds = rw add-zero h in
    simp (add-zero, pow-zero, div-one) at (field c j 0 ds h')

-- ---- two numbers in the place of each: lanes of half the size

unfoldable pub both : (ℕ → ℕ) → (ℕ → ℕ) → List ℕ → List ℕ
both f g [] = []
both f g (d ∷ ds) = f d ∷ g d ∷ both f g ds

pub halved : (b : ℕ) (f g : ℕ → ℕ) (ds : List ℕ) → word (b * b) (map f ds) + word (b * b) (map g ds) * b ≡ word b (both f g ds)
unfolding word both
halved b f g [] = omega arith
halved b f g (d ∷ ds) = rw (← halved b f g ds) (omega arith)

-- a digit of base q * q is two of base q
digit-halves : (q x : ℕ) → 0 < q → (x % (q * q) / q % q ≡ x / q % q) × (x % (q * q) % q ≡ x % q)
digit-halves q x p =
    let m : x % (q * q) ≡ x / q % q * q + x % q = mod-mul x p p in
    let l : x % q < q = mod-lt x p in
    (rw (m, digits_div (x / q % q) l) (mod-mod (x / q) q), rw (m, digits_mod (x / q % q) l))

pub square : (q k : ℕ) → (q * q) ^ k ≡ q ^ (k + k)
square q zero = pow-zero (q * q) ∙ sym (pow-zero q)
square q (suc k) = rw (pow-suc, square q k, suc-add, add-suc, pow-suc, pow-suc) (omega arith)

pub digits-halves : (q k n : ℕ) → 0 < q → both (λ (d : ℕ). d / q % q) (λ (d : ℕ). d % q) (last (q * q) k n) ≡ last q (k + k) n
unfolding both last
digits-halves q zero n p = refl
digits-halves q (suc k) n p =
    let h = digit-halves q (n / q ^ (k + k)) p in
    let t : n / q ^ suc (k + k) ≡ n / q ^ (k + k) / q = ap (λ (x : ℕ). n / x) (pow-suc q (k + k)) ∙ sym (div-div-eq-div-mul n (q ^ (k + k)) q) in
    rw (suc-add, add-suc, t, square q k)
    (ap₂ (λ (x : ℕ) (l : List ℕ). x ∷ l) h.0 (ap₂ (λ (x : ℕ) (l : List ℕ). x ∷ l) h.1 (digits-halves q k n p)))

-- the first step: both halves of a number of 2 * s bits, in lanes of b
pub spread-first : (b q n : ℕ) → 0 < q → n < q * q → n / q + n % q * b ≡ word b (last q 2 n)
unfolding word last
spread-first b q n p h =
    let o : q ^ 1 ≡ q = pow-suc q 0 ∙ rw (pow-zero, one-mul) in
    let t : n / q % q ≡ n / q = mod-eq_of_lt ((div-lt_iff_lt-mul p).1 h) in
    rw (o, pow-zero, div-one, t) (omega arith)

-- ---- lane by lane: sums, multiples, bounds

module _ (b : ℕ) where
  pub word_sum : (f g : ℕ → ℕ) (ds : List ℕ) → word b (map f ds) + word b (map g ds) ≡ word b (map (λ (d : ℕ). f d + g d) ds)
  unfolding word
  word_sum f g [] = refl
  word_sum f g (d ∷ ds) = rw (← word_sum f g ds) (omega arith)

  pub word-times : (f : ℕ → ℕ) (x : ℕ) (ds : List ℕ) → word b (map f ds) * x ≡ word b (map (λ (d : ℕ). f d * x) ds)
  unfolding word
  word-times f x [] = zero-mul x
  word-times f x (d ∷ ds) = rw (← word-times f x ds) (omega arith)

  -- the same number in each lane
  word_each : (x : ℕ) (ds : List ℕ) → word b (replicate (length ds) x) ≡ word b (map (λ (d : ℕ). x) ds)
  unfolding word
  word_each x [] = refl
  word_each x (d ∷ ds) = ap (λ (v : ℕ). v * b + x) (word_each x ds)

  pub word-plus : (f : ℕ → ℕ) (x : ℕ) (ds : List ℕ) → word b (map f ds) + word b (replicate (length ds) x) ≡ word b (map (λ (d : ℕ). f d + x) ds)
  word-plus f x ds = ap (λ (y : ℕ). word b (map f ds) + y) (word_each x ds) ∙ word_sum f (λ (d : ℕ). x) ds

  pub word-most : (x : ℕ) (ds : List ℕ) → Below (suc x) ds → word b ds ≤ word b (replicate (length ds) x)
  unfolding word Below
  word-most x [] h = omega arith
  word-most x (d ∷ ds) h = omega (arith, mul-le-mul_right b (word-most x ds h.1), h.0)
