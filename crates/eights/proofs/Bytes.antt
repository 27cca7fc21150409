-- The bytes of a word of digits are the last digits of its number.
-- Assumes nothing.
use mathlib.Core.Path.{◌≡◌, sym, ap, ap₂, ◌∙◌}
use mathlib.Core.List.{List, [], ◌∷◌, ◌++◌}
use Prim.Native.Nat.{ℕ, ◌+◌, ◌*◌, ◌/◌, ◌%◌, ◌<◌}
use native.Mathlib.Nat.{div-one}
use native.Mathlib.Omega.{arith}
use lib.Dec.{lit<}
use Rattle.digits.specs.Digits.{last}
use Rattle.digits.proofs.Last.{last-split, last-mod}
use Rattle.words.specs.Bytes.{bytes_of}
use Rattle.words.proofs.Bytes.{bytes-cons, bytes-join}
use Rattle.eights.proofs.Lanes.{four_of}

four_bytes : (a b c d : ℕ) → a < 10 → b < 10 → c < 10 → d < 10 → bytes_of 4 (a + b * 256 + c * 65536 + d * 16777216) ≡ a ∷ b ∷ c ∷ d ∷ []
unfolding bytes_of
four_bytes a b c d ha hb hc hd =
    let e : a + b * 256 + c * 65536 + d * 16777216 ≡ (((0 * 256 + d) * 256 + c) * 256 + b) * 256 + a = omega arith in
    ap (bytes_of 4) e
    ∙ rw (bytes-cons 3 (((0 * 256 + d) * 256 + c) * 256 + b) a (omega arith), bytes-cons 2 ((0 * 256 + d) * 256 + c) b (omega arith), bytes-cons 1 (0 * 256 + d) c (omega arith), bytes-cons 0 0 d (omega arith))

module _ (n : ℕ) (h : n < 10000) where
  a : n / 1000 < 10
  a = omega arith

  b : n / 100 % 10 < 10
  b = omega arith

  c : n / 10 % 10 < 10
  c = omega arith

  d : n % 10 < 10
  d = omega arith

  pub bytes-four_of : bytes_of 4 (four_of n) ≡ last 10 4 n
  unfolding four_of last
  bytes-four_of =
      let e : n / 1000 % 10 ≡ n / 1000 = omega arith in
      rw (four_bytes (n / 1000) (n / 100 % 10) (n / 10 % 10) (n % 10) a b c d, div-one, e)

  pub four_of-lt : four_of n < 4294967296
  unfolding four_of
  four_of-lt = omega (arith, a, b, c, d)

pub bytes-eight_of : (n : ℕ) → n < 100000000 → bytes_of 8 (four_of (n % 10000) * 4294967296 + four_of (n / 10000)) ≡ last 10 8 n
bytes-eight_of n h =
    let q : n / 10000 < 10000 = omega arith in
    let r : n % 10000 < 10000 = omega arith in
    bytes-join 4 4 (four_of (n % 10000)) (four_of-lt (n / 10000) q)
    ∙ ap₂ (λ (x y : List ℕ). x ++ y) (bytes-four_of (n / 10000) q) (bytes-four_of (n % 10000) r ∙ last-mod 10 (lit< tt) 4 n)
    ∙ sym (last-split 10 4 4 n)
