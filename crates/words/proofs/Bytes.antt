-- Laws of the bytes of a word, over the count of bytes: how many, cut in two, some of them, shifted down and up.
-- Assumes nothing.
use mathlib.Core.Path.{◌≡◌, refl, sym, ap, ◌∙◌}
use mathlib.Core.List.{List, ◌∷◌, ◌++◌}
use Prim.Native.Nat.{ℕ, zero, suc, ◌+◌, ◌*◌, ◌/◌, ◌%◌, ◌^◌, ◌≤◌, ◌<◌}
use native.Mathlib.Nat.{add-zero, zero-add, suc-add, div-one, div-div-eq-div-mul, mod-lt, one-le-pow, pow-suc}
use native.Mathlib.Omega.{arith}
use lib.Arith.{digits_div, digits_mod}
use lib.Dec.{lit<}
use lib.ListN.{length, take, drop, replicate}
use lib.Pow.{shr-shr, mod-pow-add}
use lib.Seq.{take_at, drop_at, drop-append-le}
use Rattle.std.specs.Int.{byte_at, bytes_low_first}
use Rattle.words.specs.Bytes.{bytes_of}

pub length-bytes_of : (k x : ℕ) → length (bytes_of k x) ≡ k
unfolding bytes_of
length-bytes_of zero x = refl
length-bytes_of (suc k) x = ap suc (length-bytes_of k (x / 256))

-- the low bytes, and those from bit 8 j on
pub bytes-split : (j k x : ℕ) → bytes_of (j + k) x ≡ bytes_of j x ++ bytes_of k (x / 2 ^ (j * 8))
unfolding bytes_of
bytes-split zero k x = rw (zero-add, div-one)
bytes-split (suc j) k x =
    let e : x / 2 ^ 8 / 2 ^ (j * 8) ≡ x / 2 ^ (suc j * 8) = shr-shr x 8 (j * 8) ∙ ap (λ (i : ℕ). x / 2 ^ i) (omega arith) in
    rw suc-add (ap (λ (l : List ℕ). x % 256 ∷ l) (bytes-split j k (x / 256) ∙ ap (λ (y : ℕ). bytes_of j (x / 256) ++ bytes_of k y) e))

-- a shift drops bytes in front; what comes in behind is what stood above
pub bytes-shift : (j z x : ℕ) → z ≤ j → bytes_of j (x / 2 ^ (z * 8)) ≡ drop z (bytes_of j x) ++ bytes_of z (x / 2 ^ (j * 8))
bytes-shift j z x h =
    sym (drop_at (bytes_of z x) (bytes_of j (x / 2 ^ (z * 8))) z (length-bytes_of z x))
    ∙ ap (drop z) (sym (bytes-split z j x) ∙ ap (λ (i : ℕ). bytes_of i x) (omega arith) ∙ bytes-split j z x)
    ∙ drop-append-le z (bytes_of j x) (bytes_of z (x / 2 ^ (j * 8))) (rw length-bytes_of h)

-- what stands above does not matter
pub bytes-mod : (k x : ℕ) → bytes_of k (x % 2 ^ (k * 8)) ≡ bytes_of k x
unfolding bytes_of
bytes-mod zero x = refl
bytes-mod (suc k) x =
    let p : suc k * 8 ≡ k * 8 + 8 = omega arith in
    let m : x % 2 ^ (suc k * 8) ≡ x / 256 % 2 ^ (k * 8) * 256 + x % 256 = ap (λ (i : ℕ). x % 2 ^ i) p ∙ mod-pow-add x (k * 8) 8 in
    let r : x % 256 < 256 = mod-lt x (lit< tt) in
    rw (m, digits_mod (x / 256 % 2 ^ (k * 8)) r, digits_div (x / 256 % 2 ^ (k * 8)) r) (ap (λ (l : List ℕ). x % 256 ∷ l) (bytes-mod k (x / 256)))

-- a word made of a byte and of those above it
pub bytes-cons : (k q a : ℕ) → a < 256 → bytes_of (suc k) (q * 256 + a) ≡ a ∷ bytes_of k q
unfolding bytes_of
bytes-cons k q a h = rw (digits_mod q h, digits_div q h)

-- a word made of two
pub bytes-join : (j k y : ℕ) {x : ℕ} → x < 2 ^ (j * 8) → bytes_of (j + k) (y * 2 ^ (j * 8) + x) ≡ bytes_of j x ++ bytes_of k y
bytes-join j k y {x} h =
    let low : bytes_of j (y * 2 ^ (j * 8) + x) ≡ bytes_of j x = sym (bytes-mod j (y * 2 ^ (j * 8) + x)) ∙ ap (bytes_of j) (digits_mod y h) in
    let high : bytes_of k ((y * 2 ^ (j * 8) + x) / 2 ^ (j * 8)) ≡ bytes_of k y = ap (bytes_of k) (digits_div y h) in
    bytes-split j k (y * 2 ^ (j * 8) + x) ∙ rw (low, high)

-- some of a word's bytes
pub bytes_take : (j k x : ℕ) → take j (bytes_of (j + k) x) ≡ bytes_of j x
bytes_take j k x = ap (take j) (bytes-split j k x) ∙ take_at (bytes_of j x) (bytes_of k (x / 2 ^ (j * 8))) j (length-bytes_of j x)

pub bytes_drop : (j k x : ℕ) → drop j (bytes_of (j + k) x) ≡ bytes_of k (x / 2 ^ (j * 8))
bytes_drop j k x = ap (drop j) (bytes-split j k x) ∙ drop_at (bytes_of j x) (bytes_of k (x / 2 ^ (j * 8))) j (length-bytes_of j x)

zero-bytes : (k : ℕ) → bytes_of k 0 ≡ replicate k 0
unfolding bytes_of
zero-bytes zero = refl
zero-bytes (suc k) = ap (λ (l : List ℕ). 0 ∷ l) (zero-bytes k)

-- a word shifted by k bytes has k zeros below it
pub bytes_shifted : (k j x : ℕ) → bytes_of (k + j) (x * 2 ^ (k * 8)) ≡ replicate k 0 ++ bytes_of j x
bytes_shifted k j x =
    let e : x * 2 ^ (k * 8) ≡ x * 2 ^ (k * 8) + 0 = sym (add-zero (x * 2 ^ (k * 8))) in
    ap (bytes_of (k + j)) e ∙ bytes-join k j x {x = 0} (one-le-pow (k * 8) 2 (lit< tt)) ∙ ap (λ (l : List ℕ). l ++ bytes_of j x) (zero-bytes k)

-- the library's bytes of a number, from byte i on
library_from : (i k x : ℕ) → bytes_low_first i k x ≡ bytes_of k (x / 256 ^ i)
unfolding bytes_of
library_from i zero x = refl
library_from i (suc k) x =
    let e : x / 256 ^ suc i ≡ x / 256 ^ i / 256 = ap (λ (m : ℕ). x / m) (pow-suc 256 i) ∙ sym (div-div-eq-div-mul x (256 ^ i) 256) in
    ap (λ (l : List ℕ). byte_at i x ∷ l) (library_from (suc i) k x ∙ ap (bytes_of k) e) ∙ ap (λ (b : ℕ). b ∷ bytes_of k (x / 256 ^ i / 256)) (low i)
  where
    low : (j : ℕ) → byte_at j x ≡ x / 256 ^ j % 256
    low zero = rw div-one
    low (suc j) = refl

pub library_bytes : (k x : ℕ) → bytes_low_first 0 k x ≡ bytes_of k x
library_bytes k x = library_from 0 k x ∙ ap (bytes_of k) (div-one x)
