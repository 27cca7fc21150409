-- Digits in the bytes of a word become their text, byte by byte. Over all naturals.
-- Assumes nothing.
use mathlib.Core.Bool.{Bool, true, false}
use mathlib.Core.Path.{◌≡◌, refl, sym, ap, ap₂, ◌∙◌}
use mathlib.Core.List.{List, [], ◌∷◌, map, map-id, map-map}
use Prim.Native.Nat.{ℕ, zero, suc, ◌+◌, ◌*◌, ◌-◌, ◌/◌, ◌%◌, ◌^◌, ◌≤◌, ◌<◌}
use native.Mathlib.Nat.{add_comm, div-add-mod', mul-le-mul, pow-suc}
use native.Mathlib.Omega.{arith}
use borrow.Author.Tests.{ltb-true, ltb-false}
use lib.Arith.{digits_div, digits_mod}
use lib.Bits.{bit_and, and_le_r}
use lib.Dec.{ltb}
use lib.ListN.{length, replicate, length-map}
use Rattle.digits.specs.Digits.{last, Below}
use Rattle.digits.proofs.Last.{length_last, last-below}
use Rattle.lanes.specs.Lanes.{word}
use Rattle.lanes.specs.Letters.{digit_byte}
use Rattle.lanes.proofs.Lanes.{below_more, field, word_sum, word-times, word-plus, word-most}
use Rattle.words.specs.Bytes.{bytes_of}
use Rattle.words.proofs.Bytes.{length-bytes_of}

-- the bytes of a word of bytes
bytes_word : (ds : List ℕ) → Below 256 ds → bytes_of (length ds) (word 256 ds) ≡ ds
unfolding bytes_of word Below
bytes_word [] h = refl
bytes_word (d ∷ ds) h =
    rw (digits_mod (word 256 ds) h.0, digits_div (word 256 ds) h.0) (ap (λ (l : List ℕ). d ∷ l) (bytes_word ds h.1))

-- two alphabets that agree on the digits
module _ (α β : ℕ → ℕ) (b : ℕ) (same : (d : ℕ) → d < b → α d ≡ β d) where
  pub map_same : (ds : List ℕ) → Below b ds → map α ds ≡ map β ds
  unfolding Below
  map_same [] h = refl
  map_same (d ∷ ds) h = ap₂ (λ (x : ℕ) (l : List ℕ). x ∷ l) (same d h.0) (map_same ds h.1)

pub below-map : (b c : ℕ) (f : ℕ → ℕ) → ((d : ℕ) → d < b → f d < c) → (ds : List ℕ) → Below b ds → Below c (map f ds)
unfolding Below
below-map b c f s [] h = tt
below-map b c f s (d ∷ ds) h = (s d h.0, below-map b c f s ds h.1)

-- ---- numbers one a lane, as bytes

-- a word from its bytes
pub word_bytes : (k x : ℕ) → x < 256 ^ k → word 256 (bytes_of k x) ≡ x
unfolding bytes_of word
word_bytes zero x h = omega arith
word_bytes (suc k) x h =
    let p : 256 ^ suc k ≡ 256 ^ k * 256 = pow-suc 256 k in
    let m : x / 256 * 256 + x % 256 ≡ x = div-add-mod' x 256 in
    ap (λ (y : ℕ). y * 256 + x % 256) (word_bytes k (x / 256) (omega arith)) ∙ m

-- digits in their lanes are the word's bytes
pub bytes-last : (b k n : ℕ) {x : ℕ} → 1 < b → b ≤ 256 → x ≡ word 256 (last b k n) → bytes_of k x ≡ last b k n
bytes-last b k n big small e = rw e (rw length_last at (bytes_word (last b k n) (below_more small (last b k n) (last-below b big k n))))

pub below_last : (b k n : ℕ) {x : ℕ} → 1 < b → b ≤ 256 → x ≡ word 256 (last b k n) → Below b (bytes_of k x)
below_last b k n big small e = rw (bytes-last b k n big small e) (last-below b big k n)

-- k bytes, each below b
module _ (k x b : ℕ) (fits : x < 256 ^ k) (h : Below b (bytes_of k x)) where
  -- what one makes of each stays in its lane
  mapped : (f : ℕ → ℕ) → ((d : ℕ) → d < b → f d < 256) → bytes_of k (word 256 (map f (bytes_of k x))) ≡ map f (bytes_of k x)
  mapped f small =
      let e : length (map f (bytes_of k x)) ≡ k = length-map (bytes_of k x) f ∙ length-bytes_of k x in
      rw e at (bytes_word (map f (bytes_of k x)) (below-map b 256 f small (bytes_of k x) h))

  -- c more in each
  more : (c : ℕ) → x + word 256 (replicate k c) ≡ word 256 (map (λ (d : ℕ). d + c) (bytes_of k x))
  more c =
      let i : x ≡ word 256 (map (λ (d : ℕ). d) (bytes_of k x)) = sym (word_bytes k x fits) ∙ ap (word 256) (sym (map-id (bytes_of k x))) in
      ap (λ (y : ℕ). y + word 256 (replicate k c)) i ∙ rw length-bytes_of at (word-plus 256 (λ (d : ℕ). d) c (bytes_of k x))

  pub bytes-more : (c : ℕ) → c + b ≤ 256 → bytes_of k (x + word 256 (replicate k c)) ≡ map (λ (d : ℕ). c + d) (bytes_of k x)
  bytes-more c room =
      ap (bytes_of k) (more c ∙ ap (word 256) (map_same _ (λ (d : ℕ). c + d) b (λ d l. add_comm d c) (bytes_of k x) h)) ∙ mapped (λ (d : ℕ). c + d) (λ d l. omega arith)

pub bytes_most : (k x t : ℕ) → x < 256 ^ k → Below (suc t) (bytes_of k x) → x ≤ word 256 (replicate k t)
bytes_most k x t fits h = rw (word_bytes k x fits, length-bytes_of) at (word-most 256 t (bytes_of k x) h)

-- ---- one hex digit

module _ (letter : ℕ) (low : 57 < letter) where
  byte-is : (d : ℕ) → d < 16 → d + 48 + (d + 6) / 2 ^ 4 % 2 ^ 1 * (letter - 58) ≡ digit_byte letter d
  byte-is d h = go (ltb d 10) refl
    where
      go : (t : Bool) → ltb d 10 ≡ t → d + 48 + (d + 6) / 2 ^ 4 % 2 ^ 1 * (letter - 58) ≡ digit_byte letter d
      go true e =
          let l : d < 10 = ltb-true d 10 e in
          let z : (d + 6) / 2 ^ 4 % 2 ^ 1 ≡ 0 = omega arith in
          rw (e, z) (omega arith)
      go false e =
          let l : 10 ≤ d = ltb-false d 10 e in
          let z : (d + 6) / 2 ^ 4 % 2 ^ 1 ≡ 1 = omega arith in
          rw (e, z) (omega arith)

  byte-below : letter ≤ 250 → (d : ℕ) → d < 16 → digit_byte letter d < 256
  byte-below most d h = go (ltb d 10) refl
    where
      go : (t : Bool) → ltb d 10 ≡ t → digit_byte letter d < 256
      go true e = rw e (omega arith)
      go false e = rw e (omega arith)

-- ---- all hex digits

module _ (k x : ℕ) (fits : x < 256 ^ k) (h : Below 16 (bytes_of k x)) where
  -- the first digit beyond nine is the first that six more carry into the next bit
  tens : bit_and ((x + word 256 (replicate k 6)) / 2 ^ 4) (word 256 (replicate k 1)) ≡ word 256 (map (λ (d : ℕ). (d + 6) / 2 ^ 4 % 2 ^ 1) (bytes_of k x))
  tens =
      let six : ℕ → ℕ = λ (d : ℕ). d + 6 in
      let ds = bytes_of k x in
      let e : length (map six ds) ≡ k = length-map ds six ∙ length-bytes_of k x in
      ap (λ (y : ℕ). bit_and (y / 2 ^ 4) (word 256 (replicate k 1))) (more k x 16 fits h 6)
      ∙ rw (e, map-map) at (field 3 1 4 (map six ds) (below-map 16 256 six (λ d l. omega arith) ds h))

  pub hex-bytes : (letter : ℕ) → 57 < letter → letter ≤ 250 →
      bytes_of k (x + word 256 (replicate k 48) + bit_and ((x + word 256 (replicate k 6)) / 2 ^ 4) (word 256 (replicate k 1)) * (letter - 58)) ≡ map (digit_byte letter) (bytes_of k x)
  hex-bytes letter low most =
      let ds = bytes_of k x in
      ap (bytes_of k)
      (rw (more k x 16 fits h 48, tens, word-times 256 (λ (d : ℕ). (d + 6) / 2 ^ 4 % 2 ^ 1) (letter - 58) ds)
      (word_sum 256 (λ (d : ℕ). d + 48) (λ (d : ℕ). (d + 6) / 2 ^ 4 % 2 ^ 1 * (letter - 58)) ds ∙ ap (word 256) (map_same _ (digit_byte letter) 16 (byte-is letter low) ds h)))
      ∙ mapped k x 16 fits h (digit_byte letter) (byte-below letter low most)

-- no lane runs over: m has a 1 in each

module _ (y m letter : ℕ) (most : letter ≤ 250) where
  pub letters-most : bit_and y m * (letter - 58) ≤ m * 192
  letters-most = mul-le-mul (and_le_r y m) (omega arith)

  pub text-most : (x : ℕ) → x ≤ m * 15 → x + m * 48 + bit_and y m * (letter - 58) ≤ m * 255
  text-most x h = omega (arith, letters-most)
