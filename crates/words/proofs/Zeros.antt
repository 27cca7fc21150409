-- The bytes of a word that are 0 in front: an eighth of the zeros below its lowest set bit.
-- Assumes nothing.
use mathlib.Core.Path.{◌≡◌, refl, ap, ◌∙◌}
use mathlib.Core.List.{◌∷◌}
use Prim.Native.Nat.{ℕ, zero, suc, ◌+◌, ◌*◌, ◌/◌, ◌%◌, ◌^◌, ◌<◌, ◌≤◌, suc-le-suc}
use native.Mathlib.Nat.{zero-add, suc-add, div-one, mod-one, pow-suc, zero-lt-suc, le_of_suc-le-suc, not-suc-le-zero}
use native.Mathlib.Numerals.{one-add}
use native.Mathlib.Omega.{arith}
use lib.Arith.{mod-mul}
use lib.Count.{under, count_trailing_zeros}
use lib.Dec.{lit<}
use lib.Pow.{pow_pos, shr-shr}
use Rattle.words.specs.Bytes.{bytes_of, zeros_front}

-- the lowest bit, and the j above it
halves : (j n : ℕ) → n % 2 ^ suc j ≡ n / 2 % 2 ^ j * 2 + n % 2
halves j n = ap (λ (x : ℕ). n % x) (pow-suc 2 j) ∙ mod-mul n (pow_pos j) (lit< tt)

-- j bits that are 0 count whole
zeros-above : (j w n : ℕ) → n % 2 ^ j ≡ 0 → count_trailing_zeros (j + w) n ≡ j + count_trailing_zeros w (n / 2 ^ j)
unfolding count_trailing_zeros
zeros-above zero w n e = rw (zero-add w, zero-add (count_trailing_zeros w (n / 2 ^ 0)), div-one)
zeros-above (suc j) w n e =
    let h = halves j n in
    let l : n % 2 ≡ 0 = omega arith in
    let q : n / 2 / 2 ^ j ≡ n / 2 ^ suc j = shr-shr n 1 j ∙ ap (λ (i : ℕ). n / 2 ^ i) (one-add j) in
    rw (suc-add j w, suc-add j (count_trailing_zeros w (n / 2 ^ suc j)), l) (ap suc (zeros-above j w (n / 2) (omega arith) ∙ ap (λ (x : ℕ). j + count_trailing_zeros w x) q))

under-lt : (d t j : ℕ) → (d ≡ 0 → t < j) → under d t < suc j
under-lt zero t j f = suc-le-suc (f refl)
under-lt (suc d) t j f = zero-lt-suc j

none : (n : ℕ) → 0 < n % 2 ^ zero → ⊥
none n h = let e : n % 1 ≡ 0 = mod-one n in omega arith

-- a number that is not 0 in its j lowest bits has its lowest set bit there
zeros_within : (j w n : ℕ) → j ≤ w → 0 < n % 2 ^ j → count_trailing_zeros w n < j
unfolding count_trailing_zeros
zeros_within zero w n l h = absurd (none n h)
zeros_within (suc j) zero n l h = absurd (not-suc-le-zero l)
zeros_within (suc j) (suc w) n l h =
    under-lt (n % 2) (count_trailing_zeros w (n / 2)) j (λ e. zeros_within j w (n / 2) (le_of_suc-le-suc l) (let p = halves j n in omega arith))

pub zeros-bytes : (k x : ℕ) → count_trailing_zeros (k * 8) x / 8 ≡ zeros_front (bytes_of k x)
unfolding bytes_of zeros_front count_trailing_zeros
zeros-bytes zero x = refl
zeros-bytes (suc k) x = go (x % 256) refl (zeros-bytes k (x / 256))
  where
    go : (r : ℕ) → x % 256 ≡ r → count_trailing_zeros (k * 8) (x / 256) / 8 ≡ zeros_front (bytes_of k (x / 256)) → count_trailing_zeros (suc k * 8) x / 8 ≡ zeros_front (r ∷ bytes_of k (x / 256))
    go zero e above =
        let s : suc k * 8 ≡ 8 + k * 8 = omega arith in
        let t : count_trailing_zeros (suc k * 8) x ≡ 8 + count_trailing_zeros (k * 8) (x / 256) = ap (λ (w : ℕ). count_trailing_zeros w x) s ∙ zeros-above 8 (k * 8) x e in
        let d : (8 + count_trailing_zeros (k * 8) (x / 256)) / 8 ≡ suc (count_trailing_zeros (k * 8) (x / 256) / 8) = omega arith in
        rw (t, d) (ap suc above)
    go (suc r) e above =
        let t = zeros_within 8 (suc k * 8) x (omega arith) (omega arith) in
        omega arith
