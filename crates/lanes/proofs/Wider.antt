-- Two numbers in each lane, the first below the second, go into lanes of half the size, with room above each: a shift, an `or` and a mask.
-- Over all naturals. Assumes nothing.
use mathlib.Core.Path.{◌≡◌, refl, sym, ap, ap₂, ◌∙◌}
use mathlib.Core.List.{List, [], ◌∷◌}
use Prim.Native.Nat.{ℕ, ◌+◌, ◌*◌, ◌-◌, ◌/◌, ◌%◌, ◌^◌, ◌≤◌, ◌<◌}
use native.Mathlib.Nat.{add-zero, div-add-mod', div-lt_iff_lt-mul, mod-lt, mod-eq_of_lt, lt_of_le_of_lt, lt_of_lt_of_le, mul-lt-mul_of_pos_right, le-mul_of_pos_right}
use native.Mathlib.Omega.{arith}
use lib.Bits.{bit_and, bit_or, and_block, or_block, and_mask, and_zero_r, or_zero_r, or_zero_l, or_lt, and_le_r}
use lib.Arith.{digits_div, digits_mod}
use lib.Dec.{lit<, lit≤}
use lib.ListN.{length, replicate}
use lib.Pow.{pow_pos, ones_lt}
use Rattle.digits.specs.Digits.{last, Below}
use Rattle.lanes.specs.Lanes.{word}
use Rattle.lanes.proofs.Lanes.{both}

-- one lane: hi and lo of w bits each, of which the mask leaves each once
module _ (w hi lo : ℕ) (h : hi < 2 ^ w) (l : lo < 2 ^ w) where
  above : bit_and (bit_or hi (hi * 2 ^ w + lo)) ((2 ^ w - 1) * 2 ^ w + 0) ≡ hi * 2 ^ w
  above =
      let m = (2 ^ w - 1) * 2 ^ w + 0 in
      let z : hi ≡ 0 * 2 ^ w + hi = omega arith in
      ap (λ (x : ℕ). bit_and (bit_or x (hi * 2 ^ w + lo)) m) z
      ∙ ap (λ (x : ℕ). bit_and x m) (or_block w 0 hi hi lo h l)
      ∙ and_block w (bit_or 0 hi) (2 ^ w - 1) (bit_or hi lo) 0 (or_lt w hi lo h l) (pow_pos w)
      ∙ ap₂ (λ (x y : ℕ). x * 2 ^ w + y) (ap (λ (x : ℕ). bit_and x (2 ^ w - 1)) (or_zero_l hi) ∙ and_mask hi w ∙ mod-eq_of_lt h) (and_zero_r (bit_or hi lo))
      ∙ add-zero (hi * 2 ^ w)

  lane-wider : bit_and (bit_or (hi * 2 ^ w + lo) ((hi * 2 ^ w + lo) * 2 ^ w)) (((2 ^ w - 1) * 2 ^ w + 0) * 2 ^ w + (2 ^ w - 1)) ≡ hi * 2 ^ w * 2 ^ w + lo
  lane-wider =
      let e = hi * 2 ^ w + lo in
      let m = ((2 ^ w - 1) * 2 ^ w + 0) * 2 ^ w + (2 ^ w - 1) in
      ap (λ (x : ℕ). bit_and (bit_or e x) m) (sym (add-zero (e * 2 ^ w)))
      ∙ ap (λ (x : ℕ). bit_and x m) (or_block w hi e lo 0 l (pow_pos w))
      ∙ and_block w (bit_or hi e) ((2 ^ w - 1) * 2 ^ w + 0) (bit_or lo 0) (2 ^ w - 1) (or_lt w lo 0 l (pow_pos w)) (ones_lt w)
      ∙ ap₂ (λ (x y : ℕ). x * 2 ^ w + y) above (ap (λ (x : ℕ). bit_and x (2 ^ w - 1)) (or_zero_r lo) ∙ and_mask lo w ∙ mod-eq_of_lt l)

-- all lanes, of p bits, which is four times w
module _ (w p m : ℕ) (four : 2 ^ p ≡ 2 ^ w * 2 ^ w * (2 ^ w * 2 ^ w)) (i : m ≡ ((2 ^ w - 1) * 2 ^ w + 0) * 2 ^ w + (2 ^ w - 1)) (inside : m < 2 ^ p) (room : 2 ^ w * 2 ^ w * 2 ^ w ≤ 2 ^ p) where
  lane : (e : ℕ) → e < 2 ^ w * 2 ^ w → bit_and (bit_or e (e * 2 ^ w)) m ≡ e / 2 ^ w * 2 ^ w * 2 ^ w + e % 2 ^ w
  lane e h =
      let d = div-add-mod' e (2 ^ w) in
      ap₂ (λ (x y : ℕ). bit_and (bit_or x (x * 2 ^ w)) y) (sym d) i
      ∙ lane-wider w (e / 2 ^ w) (e % 2 ^ w) ((div-lt_iff_lt-mul (pow_pos w)).1 h) (mod-lt e (pow_pos w))

  pub wider : (es : List ℕ) → Below (2 ^ w * 2 ^ w) es →
      bit_and (bit_or (word (2 ^ p) es) (word (2 ^ p) es * 2 ^ w)) (word (2 ^ p) (replicate (length es) m)) ≡ word (2 ^ w * 2 ^ w) (both (λ (e : ℕ). e % 2 ^ w) (λ (e : ℕ). e / 2 ^ w) es)
  unfolding word Below both
  wider [] h = and_zero_r (bit_or 0 (0 * 2 ^ w))
  wider (e ∷ es) h =
      let v = word (2 ^ p) es in
      let ms = word (2 ^ p) (replicate (length es) m) in
      let s : (v * 2 ^ p + e) * 2 ^ w ≡ v * 2 ^ w * 2 ^ p + e * 2 ^ w = omega arith in
      let shifted : e * 2 ^ w < 2 ^ p = lt_of_lt_of_le (mul-lt-mul_of_pos_right h.0 (pow_pos w)) room in
      let plain : e < 2 ^ p = lt_of_le_of_lt (le-mul_of_pos_right e (pow_pos w)) shifted in
      ap (λ (x : ℕ). bit_and (bit_or (v * 2 ^ p + e) x) (ms * 2 ^ p + m)) s
      ∙ ap (λ (x : ℕ). bit_and x (ms * 2 ^ p + m)) (or_block p v (v * 2 ^ w) e (e * 2 ^ w) plain shifted)
      ∙ and_block p (bit_or v (v * 2 ^ w)) ms (bit_or e (e * 2 ^ w)) m (or_lt p e (e * 2 ^ w) plain shifted) inside
      ∙ ap₂ (λ (x y : ℕ). x * 2 ^ p + y) (wider es h.1) (lane e h.0)
      ∙ rw four (omega arith)

-- ---- four bytes: two steps

halves_are : (x a b c d : ℕ) → x ≡ (((0 * 256 + d) * 256 + c) * 256 + b) * 256 + a → a < 256 → b < 256 → (x % 65536 ≡ b * 256 + a) × (x / 65536 ≡ d * 256 + c)
halves_are x a b c d e ha hb =
    let s : x ≡ (d * 256 + c) * 65536 + (b * 256 + a) = omega arith in
    (rw s (digits_mod (d * 256 + c) (omega arith)), rw s (digits_div (d * 256 + c) (omega arith)))

-- the bytes of both halves of a word of four
bytes-are : (n x : ℕ) → x ≡ word 256 (last 256 4 n) → both (λ (e : ℕ). e % 256) (λ (e : ℕ). e / 256) ((x % 65536) ∷ (x / 65536) ∷ []) ≡ last 256 4 n
unfolding word last both
bytes-are n x e =
    let small : (y : ℕ) → y % 256 < 256 = λ y. mod-lt y (lit< tt) in
    let a = n / 256 ^ 3 in
    let b = n / 256 ^ 2 in
    let c = n / 256 ^ 1 in
    let d = n / 256 ^ 0 in
    let h = halves_are x (a % 256) (b % 256) (c % 256) (d % 256) e (small a) (small b) in
    rw (h.0, h.1, digits_mod (b % 256) (small a), digits_div (b % 256) (small a), digits_mod (d % 256) (small c), digits_div (d % 256) (small c))

abbrev halves_of : ℕ → ℕ
halves_of x = bit_and (bit_or x (x * 2 ^ 16 % 2 ^ 64)) 0x0000_ffff_0000_ffff

abbrev bytes_in : ℕ → ℕ
bytes_in y = bit_and (bit_or y (y * 2 ^ 8 % 2 ^ 64)) 0x00ff_00ff_00ff_00ff

halves-wider : (x : ℕ) → x < 4294967296 → halves_of x ≡ word (2 ^ 32) ((x % 65536) ∷ (x / 65536) ∷ [])
unfolding word Below both
halves-wider x h =
    let s : x * 2 ^ 16 % 2 ^ 64 ≡ x * 2 ^ 16 = mod-eq_of_lt (omega arith) in
    let i : x ≡ word (2 ^ 64) (x ∷ []) = omega arith in
    ap (λ (y : ℕ). bit_and (bit_or x y) 0x0000_ffff_0000_ffff) s
    ∙ ap (λ (y : ℕ). bit_and (bit_or y (y * 2 ^ 16)) 0x0000_ffff_0000_ffff) i
    ∙ wider 16 64 0x0000_ffff_0000_ffff refl refl (lit< tt) (lit≤ tt) (x ∷ []) (h, tt)

pub bytes-wider : (n x : ℕ) → x < 4294967296 → x ≡ word 256 (last 256 4 n) → bytes_in (halves_of x) ≡ word (2 ^ 16) (last 256 4 n)
unfolding word Below
bytes-wider n x h e =
    let es = (x % 65536) ∷ (x / 65536) ∷ [] in
    let y = halves_of x in
    let s : y * 2 ^ 8 % 2 ^ 64 ≡ y * 2 ^ 8 = mod-eq_of_lt (omega (arith, and_le_r (bit_or x (x * 2 ^ 16 % 2 ^ 64)) 0x0000_ffff_0000_ffff)) in
    ap (λ (z : ℕ). bit_and (bit_or y z) 0x00ff_00ff_00ff_00ff) s
    ∙ ap (λ (z : ℕ). bit_and (bit_or z (z * 2 ^ 8)) 0x00ff_00ff_00ff_00ff) (halves-wider x h)
    ∙ wider 8 32 0x00ff_00ff refl refl (lit< tt) (lit≤ tt) es (omega arith, (omega arith, tt))
    ∙ ap (word (2 ^ 16)) (bytes-are n x e)
