-- Both halves of each lane go into lanes of half the size by two shifts, an `or` and one mask, where there is room between them.
-- Over all naturals. Assumes nothing.
use mathlib.Core.Path.{◌≡◌, sym, ap, ap₂, ◌∙◌}
use mathlib.Core.List.{List, [], ◌∷◌, map}
use Prim.Native.Nat.{ℕ, suc, ◌+◌, ◌*◌, ◌-◌, ◌/◌, ◌%◌, ◌^◌, ◌≤◌, ◌<◌}
use native.Mathlib.Nat.{add-zero, add_comm, mod-eq_of_lt, mod-lt, lt_of_lt_of_le, lt_of_le_of_lt, div-lt_iff_lt-mul, mul-lt-mul_of_pos_right, mul-le-mul_right}
use native.Mathlib.Omega.{arith}
use lib.Arith.{digits_lt}
use lib.Bits.{bit_and, bit_or, and_block, or_block, and_mask, and_zero_r, or_zero_l, or_zero_r, or_lt, or_mod}
use lib.ListN.{length, replicate}
use lib.Pow.{pow-add, pow-lt, pow_pos, pow_mono, low, ones_lt}
use Rattle.digits.specs.Digits.{last, Below}
use Rattle.digits.proofs.Last.{length_last, last-below}
use Rattle.lanes.specs.Lanes.{word}
use Rattle.lanes.proofs.Lanes.{both, shifted, halved, digits-halves, word_sum, word-times, word-most}

-- lanes of twice w bits with digits of twice s bits, between which c bits are free
module _ (c s w : ℕ) (e : w ≡ c + s + s) where
  abbrev q : ℕ
  q = 2 ^ s

  abbrev b : ℕ
  b = 2 ^ (w + w)

  abbrev m : ℕ
  m = (q - 1) * 2 ^ w + (q - 1)

  square : b ≡ 2 ^ w * 2 ^ w
  square = pow-add 2 w w

  free : 2 ^ w ≡ 2 ^ c * q * q
  free = ap (λ (x : ℕ). 2 ^ x) e ∙ pow-add 2 (c + s) s ∙ ap (λ (x : ℕ). x * q) (pow-add 2 c s)

  fits : q ≤ 2 ^ w
  fits = pow_mono (omega arith)

  -- one lane: above it stands what fell from the next
  lane : (h d : ℕ) → d / q < 2 ^ w → bit_and (bit_or (h * q * 2 ^ w + d / q) (d * 2 ^ w)) m ≡ d % q * 2 ^ w + d / q % q
  lane h d l =
      let z : h * q % q ≡ 0 = ap (λ (x : ℕ). x % q) (sym (add-zero (h * q))) ∙ low h s (pow_pos s) in
      let o : bit_or (h * q) d % q ≡ d % q = or_mod (h * q) d s ∙ ap (λ (x : ℕ). bit_or x (d % q)) z ∙ or_zero_l (d % q) in
      ap (λ (x : ℕ). bit_and (bit_or (h * q * 2 ^ w + d / q) x) m) (sym (add-zero (d * 2 ^ w)))
      ∙ ap (λ (x : ℕ). bit_and x m) (or_block w (h * q) d (d / q) 0 l (pow_pos w))
      ∙ and_block w (bit_or (h * q) d) (q - 1) (bit_or (d / q) 0) (q - 1) (or_lt w (d / q) 0 l (pow_pos w)) (lt_of_lt_of_le (ones_lt s) fits)
      ∙ ap₂ (λ (x y : ℕ). x * 2 ^ w + y) (and_mask (bit_or (h * q) d) s ∙ o) (ap (λ (x : ℕ). bit_and x (q - 1)) (or_zero_r (d / q)) ∙ and_mask (d / q) s)

  carried : (v d : ℕ) → (v * b + d) / q ≡ v / q * b + (v % q * 2 ^ c * q * 2 ^ w + d / q)
  carried v d =
      let f : b ≡ 2 ^ w * (2 ^ c * q) * q = rw (square) (ap (λ (x : ℕ). 2 ^ w * x) free ∙ omega arith) in
      let t = shifted v (2 ^ w) (2 ^ c * q) q d (pow_pos s) in
      let g : v % q * (2 ^ w * (2 ^ c * q)) ≡ v % q * 2 ^ c * q * 2 ^ w = omega arith in
      ap (λ (x : ℕ). (v * x + d) / q) f ∙ t ∙ ap₂ (λ (x y : ℕ). v / q * x + (y + d / q)) (sym f) g

  low_fits : (v d : ℕ) → d / q < 2 ^ w → v % q * 2 ^ c * q * 2 ^ w + d / q < b
  low_fits v d h =
      let some : 0 < 2 ^ c * q = rw (← pow-add 2 c s) (pow_pos (c + s)) in
      let top : v % q * (2 ^ c * q) < q * (2 ^ c * q) = mul-lt-mul_of_pos_right (mod-lt v (pow_pos s)) some in
      let below : v % q * 2 ^ c * q < 2 ^ w = omega (arith, top, free) in
      rw square (digits_lt below h)

  digit-fits : (d : ℕ) → d < q * q → d * 2 ^ w < b
  digit-fits d h =
      let l : q * q ≤ 2 ^ w = rw (← pow-add 2 s s) (pow_mono (omega arith)) in
      rw square (mul-lt-mul_of_pos_right (lt_of_lt_of_le h l) (pow_pos w))

  mask_fits : m < b
  mask_fits = rw square (digits_lt (lt_of_lt_of_le (ones_lt s) fits) (lt_of_lt_of_le (ones_lt s) fits))

  each : (ds : List ℕ) → Below (q * q) ds →
      bit_and (bit_or (word b ds / q) (word b ds * 2 ^ w)) (word b (replicate (length ds) m)) ≡ word b (map (λ (d : ℕ). d % q * 2 ^ w + d / q % q) ds)
  unfolding word Below
  each [] h = and_zero_r (bit_or (0 / q) (0 * 2 ^ w))
  each (d ∷ ds) h =
      let v = word b ds in
      let ms = word b (replicate (length ds) m) in
      let up = v % q * 2 ^ c in
      let lo = up * q * 2 ^ w + d / q in
      let digit : d / q < q = (div-lt_iff_lt-mul (pow_pos s)).1 h.0 in
      let small : d / q < 2 ^ w = lt_of_lt_of_le digit fits in
      let lo-fits : lo < b = low_fits v d small in
      let d-fits : d * 2 ^ w < b = digit-fits d h.0 in
      let k : (v * b + d) * 2 ^ w ≡ v * 2 ^ w * b + d * 2 ^ w = omega arith in
      ap₂ (λ (x y : ℕ). bit_and (bit_or x y) (ms * b + m)) (carried v d) k
      ∙ ap (λ (x : ℕ). bit_and x (ms * b + m)) (or_block (w + w) (v / q) (v * 2 ^ w) lo (d * 2 ^ w) lo-fits d-fits)
      ∙ and_block (w + w) (bit_or (v / q) (v * 2 ^ w)) ms (bit_or lo (d * 2 ^ w)) m (or_lt (w + w) lo (d * 2 ^ w) lo-fits d-fits) mask_fits
      ∙ ap₂ (λ (x y : ℕ). x * b + y) (each ds h.1) (lane up d small)

  -- k digits of twice s bits become twice as many of s bits, in a word of W bits with the mask M
  pub halves_in : (W k n a M : ℕ) → 0 < s → a ≡ word b (last (q * q) k n) → M ≡ word b (replicate k m) → word b (replicate k (q * q - 1)) * 2 ^ w < 2 ^ W →
      bit_and (bit_or (a / q) (a * 2 ^ w % 2 ^ W)) M ≡ word (2 ^ w) (last q (k + k) n)
  halves_in W k n a M p i j h =
      let ds = last (q * q) k n in
      let big : 1 < q * q = rw (← pow-add 2 s s) (pow-lt {i = 0} {j = s + s} (omega arith)) in
      let in-lanes : Below (q * q) ds = last-below (q * q) big k n in
      let one : suc (q * q - 1) ≡ q * q = omega (arith, big) in
      let most : word b ds ≤ word b (replicate k (q * q - 1)) = rw length_last at (word-most b (q * q - 1) ds (rw one in-lanes)) in
      let whole : a * 2 ^ w % 2 ^ W ≡ a * 2 ^ w = mod-eq_of_lt (lt_of_le_of_lt (mul-le-mul_right (2 ^ w) (rw i most)) h) in
      let f : ℕ → ℕ = λ (d : ℕ). d / q % q in
      let g : ℕ → ℕ = λ (d : ℕ). d % q in
      let two : word b (map (λ (d : ℕ). d % q * 2 ^ w + d / q % q) ds) ≡ word b (map g ds) * 2 ^ w + word b (map f ds) =
      sym (ap (λ (x : ℕ). x + word b (map f ds)) (word-times b g (2 ^ w) ds) ∙ word_sum b (λ (d : ℕ). g d * 2 ^ w) f ds) in
      let masked : bit_and (bit_or (word b ds / q) (word b ds * 2 ^ w)) (word b (replicate k m)) ≡ word b (map (λ (d : ℕ). d % q * 2 ^ w + d / q % q) ds) = rw length_last at (each ds in-lanes) in
      let split : word b (map g ds) * 2 ^ w + word b (map f ds) ≡ word (2 ^ w) (both f g ds) =
      add_comm (word b (map g ds) * 2 ^ w) (word b (map f ds)) ∙ ap (λ (x : ℕ). word x (map f ds) + word x (map g ds) * 2 ^ w) square ∙ halved (2 ^ w) f g ds in
      rw (whole, i, j) (masked ∙ two ∙ split ∙ ap (word (2 ^ w)) (digits-halves q k n (pow_pos s)))
