-- What a text of hex digits stands for, from two texts that overlap in it; and that with no zero in front it is the text of its number.
-- Assumes nothing.
use mathlib.Core.List.{List, [], ◌∷◌, ◌++◌}
use mathlib.Core.Path.{◌≡◌, refl, sym, ap, ap₂, ◌∙◌, subst}
use Prim.Native.Nat.{ℕ, zero, suc, ◌+◌, ◌*◌, ◌-◌, ◌/◌, ◌%◌, ◌^◌, ◌<◌, ◌≤◌}
use native.Mathlib.Decide.{dec_le}
use native.Mathlib.Nat.{div-lt_iff_lt-mul, div-eq_of_lt, lt_of_le_of_lt, lt_of_lt_of_le, mod-lt, one-le-pow, pow-suc}
use native.Mathlib.Omega.{arith}
use lib.Arith.{lt-one, digits_div, digits_mod, digits_lt}
use lib.Dec.{lit<}
use lib.ListN.{length, get_or, take, drop, length-drop, drop_of_length-le, take-append-drop}
use lib.Pow.{pow-add, pow_mono, shl_exact, shr_le}
use lib.Seq.{take_at, drop_at, drop-cons, take-take, take_all, length-take-le}
use Rattle.digits.specs.Digits.{last}
use Rattle.digits.specs.Text.{text, last_text}
use Rattle.digits.proofs.Text.{length-last_text, last_text-split, last_text-mod, text-last, text-small}
use Rattle.lanes.specs.Letters.{digit_byte}
use Rattle.words.specs.Bytes.{bytes_of}
use Rattle.words.proofs.Bytes.{bytes-cons, bytes-join}
use Rattle.sixteen_digits.specs.Hex.{Digits}

-- ---- sixteens are shifts by four

sixteens : (k : ℕ) → 2 ^ (k * 4) ≡ 16 ^ k
sixteens zero = refl
sixteens (suc k) =
    let e : suc k * 4 ≡ k * 4 + 4 = omega arith in
    ap (λ (i : ℕ). 2 ^ i) e ∙ pow-add 2 (k * 4) 4 ∙ ap (λ (x : ℕ). x * 16) (sixteens k) ∙ sym (pow-suc 16 k)

pow : (k : ℕ) → 0 < 16 ^ k
pow k = one-le-pow k 16 (lit< tt)

-- fewer digits
fewer : (j k a : ℕ) → a < 16 ^ (j + k) → a / 16 ^ k < 16 ^ j
fewer j k a h = (div-lt_iff_lt-mul (pow k)).1 (subst (λ (x : ℕ). a < x) (pow-add 16 j k) h)

-- ---- the code's shifts

module _ (a k c m : ℕ) (ha : a < 16 ^ 8) (hc : c < 16 ^ m) (hm : m ≤ 8) where
  small : a / 2 ^ (k * 4) < 2 ^ 32
  small = lt_of_le_of_lt (shr_le a (k * 4)) ha

  shifted : a / 2 ^ (k * 4) * 2 ^ (m * 4) % 2 ^ 64 ≡ a / 2 ^ (k * 4) * 2 ^ (m * 4)
  shifted = shl_exact 32 (m * 4) 64 small (omega arith)

  pub behind-is : a / 2 ^ (k * 4) * 2 ^ (m * 4) % 2 ^ 64 + c ≡ a / 16 ^ k * 16 ^ m + c
  behind-is = ap (λ (x : ℕ). x + c) (shifted ∙ ap₂ (λ (x y : ℕ). a / x * y) (sixteens k) (sixteens m))

  pub behind-fits : a / 2 ^ (k * 4) * 2 ^ (m * 4) % 2 ^ 64 + c < 2 ^ 64
  behind-fits =
      let h : c < 2 ^ (m * 4) = subst (λ (x : ℕ). c < x) (sym (sixteens m)) hc in
      let e : 2 ^ 32 * 2 ^ (m * 4) ≡ 2 ^ (32 + m * 4) = sym (pow-add 2 32 (m * 4)) in
      let w : 2 ^ (32 + m * 4) ≤ 2 ^ 64 = pow_mono {i = 32 + m * 4} {j = 64} (omega arith) in
      let g : a / 2 ^ (k * 4) * 2 ^ (m * 4) + c < 2 ^ 32 * 2 ^ (m * 4) = digits_lt small h in
      subst (λ (x : ℕ). x + c < 2 ^ 64) (sym shifted) (lt_of_lt_of_le g (subst (λ (x : ℕ). x ≤ 2 ^ 64) (sym e) w))

-- ---- digits taken from digits. Over the alphabet

module _ (α : ℕ → ℕ) where
  first_of : (j k a : ℕ) → take j (last_text α 16 (j + k) a) ≡ last_text α 16 j (a / 16 ^ k)
  first_of j k a = ap (take j) (last_text-split α 16 j k a) ∙ take_at (last_text α 16 j (a / 16 ^ k)) (last_text α 16 k a) j (length-last_text α 16 j (a / 16 ^ k))

  last_of : (j k a : ℕ) → drop j (last_text α 16 (j + k) a) ≡ last_text α 16 k a
  last_of j k a = ap (drop j) (last_text-split α 16 j k a) ∙ drop_at (last_text α 16 j (a / 16 ^ k)) (last_text α 16 k a) j (length-last_text α 16 j (a / 16 ^ k))

  -- two texts of digits from one
  halves : (x y : List ℕ) (i m v : ℕ) → length x ≡ i → x ++ y ≡ last_text α 16 (i + m) v → (x ≡ last_text α 16 i (v / 16 ^ m)) × (y ≡ last_text α 16 m (v % 16 ^ m))
  halves x y i m v n e =
      (sym (take_at x y i n) ∙ ap (take i) e ∙ first_of i m v, sym (drop_at x y i n) ∙ ap (drop i) e ∙ last_of i m v ∙ sym (last_text-mod α 16 (lit< tt) m v))

  joined : (j m a c : ℕ) → c < 16 ^ m → last_text α 16 (j + m) (a * 16 ^ m + c) ≡ last_text α 16 j a ++ last_text α 16 m c
  joined j m a c h =
      last_text-split α 16 j m (a * 16 ^ m + c)
      ∙ ap₂ (λ (x y : List ℕ). x ++ y) (ap (last_text α 16 j) (digits_div a h)) (sym (last_text-mod α 16 (lit< tt) m (a * 16 ^ m + c)) ∙ ap (last_text α 16 m) (digits_mod a h))

module _ (letter : ℕ) where
  abbrev α : ℕ → ℕ
  α = digit_byte letter

  -- the first j of i digits, and m behind them
  pub spliced : (l f : List ℕ) (i j k m a c : ℕ) → j + m ≡ length l → j + k ≡ i → f ≡ last_text α 16 i a → a < 16 ^ i → take j l ≡ take j f → drop j l ≡ last_text α 16 m c → c < 16 ^ m
      → Digits letter l (a / 16 ^ k * 16 ^ m + c)
  spliced l f i j k m a c el ei ef ha first last hc = record {
    text =
        sym (take-append-drop j l) ∙ ap₂ (λ (x y : List ℕ). x ++ y) (first ∙ ap (take j) (ef ∙ ap (λ (n : ℕ). last_text α 16 n a) (sym ei)) ∙ first_of α j k a) last
        ∙ sym (joined α j m (a / 16 ^ k) c hc) ∙ ap (λ (n : ℕ). last_text α 16 n (a / 16 ^ k * 16 ^ m + c)) el;
    fits =
        let h : a < 16 ^ (j + k) = subst (λ (n : ℕ). a < 16 ^ n) (sym ei) ha in
        subst (λ (n : ℕ). a / 16 ^ k * 16 ^ m + c < 16 ^ n) el (subst (λ (x : ℕ). a / 16 ^ k * 16 ^ m + c < x) (sym (pow-add 16 j m)) (digits_lt (fewer j k a h) hc));
  }

  -- a digit more than the number has is a zero in front
  nought : (k v : ℕ) → v < 16 ^ k → get_or (last_text α 16 (suc k) v) 0 0 ≡ 48
  unfolding last_text last
  nought k v h = ap (λ (x : ℕ). α (x % 16)) (div-eq_of_lt h)

  single : last_text α 16 1 0 ≡ 48 ∷ []
  unfolding last_text last
  single = refl

  -- with no zero in front it is the text of the number
  pub whole : (l : List ℕ) (v : ℕ) → 0 < length l → (get_or l 0 0 ≡ 48 → length l ≤ 1) → Digits letter l v → l ≡ text α 16 v
  whole l v some f D = go (length l) refl
    where
      none : (k : ℕ) → length l ≡ suc k → v < 16 ^ k → l ≡ text α 16 v
      none k e h =
          let t : l ≡ last_text α 16 (suc k) v = D.text ∙ ap (λ (n : ℕ). last_text α 16 n v) e in
          let z : k ≡ 0 = omega (arith, e, f (ap (λ (m : List ℕ). get_or m 0 0) t ∙ nought k v h)) in
          let o : v ≡ 0 = lt-one (subst (λ (n : ℕ). v < 16 ^ n) z h) in
          t ∙ ap₂ (λ (n x : ℕ). last_text α 16 (suc n) x) z o ∙ single ∙ sym (text-small α 16 (lit< tt) 0 (lit< tt)) ∙ ap (text α 16) (sym o)

      go : (n : ℕ) → length l ≡ n → l ≡ text α 16 v
      go zero e = absurd (omega arith)
      go (suc k) e = sides (dec_le (16 ^ k) v)
        where
          sides : Dec (16 ^ k ≤ v) → l ≡ text α 16 v
          sides (yes h) = D.text ∙ ap (λ (n : ℕ). last_text α 16 n v) e ∙ sym (text-last α 16 (lit< tt) k v h (subst (λ (n : ℕ). v < 16 ^ n) e D.fits))
          sides (no h) = none k e (omega arith)

  -- ---- 1 to 3 digits

  three-bytes : (a b c : ℕ) → a < 256 → b < 256 → c < 256 → bytes_of 8 (a + b * 256 + c * 65536 + 0x3030_3030_3000_0000) ≡ (a ∷ b ∷ c ∷ []) ++ (48 ∷ 48 ∷ 48 ∷ 48 ∷ 48 ∷ [])
  unfolding bytes_of
  three-bytes a b c ha hb hc =
      let e : a + b * 256 + c * 65536 + 0x3030_3030_3000_0000 ≡ ((0x30_3030_3030 * 256 + c) * 256 + b) * 256 + a = omega arith in
      ap (bytes_of 8) e ∙ bytes-cons 7 ((0x30_3030_3030 * 256 + c) * 256 + b) a ha
      ∙ ap (λ (x : List ℕ). a ∷ x) (bytes-cons 6 (0x30_3030_3030 * 256 + c) b hb ∙ ap (λ (x : List ℕ). b ∷ x) (bytes-cons 5 0x30_3030_3030 c hc))

  front : (l : List ℕ) → 0 < length l → length l < 4 → take (length l - 1) l ≡ take (length l - 1) (get_or l 0 0 ∷ get_or l (length l / 2) 0 ∷ [])
  front [] some few = refl
  front (x ∷ []) some few = refl
  front (x ∷ y ∷ []) some few = refl
  front (x ∷ y ∷ z ∷ []) some few = refl
  front (x ∷ y ∷ z ∷ t ∷ l) some few = absurd (omega arith)

  pub three-digits : (l : List ℕ) (a b c v : ℕ) → 0 < length l → length l < 4 → a ≡ get_or l 0 0 → a < 256 → b ≡ get_or l (length l / 2) 0 → b < 256 → c ≡ get_or l (length l - 1) 0 → c < 256
      → bytes_of 8 (a + b * 256 + c * 65536 + 0x3030_3030_3000_0000) ≡ last_text α 16 8 v → v < 16 ^ 8 → Digits letter l (v / 16 ^ 5 / 16 / 16 ^ (3 - length l) * 16 + v / 16 ^ 5 % 16)
  three-digits l a b c v some few ea ha eb hb ec hc e h =
      let three = (halves α (a ∷ b ∷ c ∷ []) (48 ∷ 48 ∷ 48 ∷ 48 ∷ 48 ∷ []) 3 5 v refl (sym (three-bytes a b c ha hb hc) ∙ e)).0 in
      let two = halves α (a ∷ b ∷ []) (c ∷ []) 2 1 (v / 16 ^ 5) refl three in
      let last : drop (length l - 1) l ≡ c ∷ [] = drop-cons l (length l - 1) 0 (omega arith) ∙ ap₂ (λ (x : ℕ) (y : List ℕ). x ∷ y) (sym ec) (drop_of_length-le l {i = suc (length l - 1)} (omega arith)) in
      spliced l (a ∷ b ∷ []) 2 (length l - 1) (3 - length l) 1 (v / 16 ^ 5 / 16) (v / 16 ^ 5 % 16) (omega arith) (omega arith) two.0 (fewer 2 1 (v / 16 ^ 5) (fewer 3 5 v h))
      (front l some few ∙ ap₂ (λ (x y : ℕ). take (length l - 1) (x ∷ y ∷ [])) (sym ea) (sym eb)) (last ∙ two.1) (mod-lt (v / 16 ^ 5) (lit< tt))

  -- ---- 4 to 7 digits

  pub seven-digits : (l : List ℕ) (lo hi v : ℕ) → 4 ≤ length l → length l < 8 → bytes_of 4 lo ≡ take 4 (drop 0 l) → lo < 2 ^ 32 → bytes_of 4 hi ≡ take 4 (drop (length l - 4) l)
      → bytes_of 8 (lo + hi * 4294967296) ≡ last_text α 16 8 v → v < 16 ^ 8 → Digits letter l (v / 16 ^ 4 / 16 ^ (8 - length l) * 16 ^ 4 + v % 16 ^ 4)
  seven-digits l lo hi v some few el hl eh e h =
      let o : lo + hi * 4294967296 ≡ hi * 4294967296 + lo = omega arith in
      let both : bytes_of 8 (lo + hi * 4294967296) ≡ take 4 l ++ take 4 (drop (length l - 4) l) = ap (bytes_of 8) o ∙ bytes-join 4 4 hi hl ∙ ap₂ (λ (x y : List ℕ). x ++ y) el eh in
      let two = halves α (take 4 l) (take 4 (drop (length l - 4) l)) 4 4 v (length-take-le 4 l some) (sym both ∙ e) in
      spliced l (take 4 l) 4 (length l - 4) (8 - length l) 4 (v / 16 ^ 4) (v % 16 ^ 4) (omega arith) (omega arith) two.0 (fewer 4 4 v h)
      (sym (take-take (length l - 4) 4 l (omega arith))) (sym (take_all 4 (drop (length l - 4) l) (omega (arith, length-drop (length l - 4) l))) ∙ two.1) (mod-lt v (lit< tt))

  -- ---- 8 to 16 digits

  pub sixteen-digits : (l : List ℕ) (u v t w : ℕ) → 8 ≤ length l → length l ≤ 16 → bytes_of 8 u ≡ take 8 (drop (length l - 8) l) → bytes_of 8 u ≡ last_text α 16 8 v → v < 16 ^ 8
      → bytes_of 8 t ≡ take 8 (drop 0 l) → bytes_of 8 t ≡ last_text α 16 8 w → w < 16 ^ 8 → Digits letter l (w / 16 ^ (16 - length l) * 16 ^ 8 + v)
  sixteen-digits l u v t w some few eu e h et f g =
      spliced l (take 8 l) 8 (length l - 8) (16 - length l) 8 w v (omega arith) (omega arith) (sym et ∙ f) g (sym (take-take (length l - 8) 8 l (omega arith)))
      (sym (take_all 8 (drop (length l - 8) l) (omega (arith, length-drop (length l - 8) l))) ∙ sym eu ∙ e) h
