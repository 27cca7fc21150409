-- The last k digits of a number that has no more, without the zeros in front, are all its digits.
-- Assumes nothing.
use mathlib.Core.Path.{◌≡◌, refl, sym, ap, ◌∙◌}
use mathlib.Core.List.{◌∷◌, map}
use Prim.Native.Nat.{ℕ, zero, suc, ◌+◌, ◌-◌, ◌*◌, ◌/◌, ◌%◌, ◌^◌, ◌<◌, ◌≤◌}
use native.Mathlib.Nat.{div-eq_of_lt, div-lt_iff_lt-mul, le-div_iff_mul-le, mod-eq_of_lt, one-le-pow, pow-succ', pow-zero}
use native.Mathlib.Omega.{arith}
use lib.Arith.{lt-one}
use lib.ListN.{length, drop, length-drop}
use Rattle.digits.specs.Digits.{bare, last}
use Rattle.digits.specs.Text.{text, last_text}
use Rattle.digits.proofs.Digits.{bare-zero, bare-length-gt, digits-pos}
use Rattle.digits.proofs.Last.{bare-split}
use Rattle.digits.proofs.Text.{length-last_text, map-drop, text-some}
use Rattle.words.specs.Bytes.{zeros_front}

module _ (b : ℕ) (big : 1 < b) where
  -- the first of the k + 1 last digits
  first : (k n : ℕ) → n < b ^ suc k → n / b ^ k % b ≡ n / b ^ k
  first k n h = mod-eq_of_lt ((div-lt_iff_lt-mul (one-le-pow k b (omega arith))).1 (rw (← pow-succ' b k) h))

  pub bare-front : (k n : ℕ) → n < b ^ k → drop (zeros_front (last b k n)) (last b k n) ≡ bare b n
  unfolding last zeros_front
  bare-front zero n h = rw (lt-one (rw pow-zero at h)) (sym (bare-zero b big))
  bare-front (suc k) n h = go (n / b ^ k % b) refl (bare-front k n)
    where
      pow : 0 < b ^ k
      pow = one-le-pow k b (omega arith)

      go : (d : ℕ) → n / b ^ k % b ≡ d → (n < b ^ k → drop (zeros_front (last b k n)) (last b k n) ≡ bare b n) → drop (zeros_front (d ∷ last b k n)) (d ∷ last b k n) ≡ bare b n
      go zero e shorter =
          let l : n < 1 * b ^ k = (div-lt_iff_lt-mul {k = b ^ k} {x = n} {y = 1} pow).0 (omega (arith, first k n h)) in
          shorter (omega arith)
      go (suc d) e shorter =
          let m : 1 * b ^ k ≤ n = (le-div_iff_mul-le {k = b ^ k} {x = 1} {y = n} pow).0 (omega (arith, first k n h)) in
          let l : b ^ k ≤ n = omega arith in
          let z : n / b ^ suc k ≡ 0 = div-eq_of_lt h in
          let s : bare b n ≡ last b (suc k) n = bare-split b big (suc k) n (bare-length-gt b big k n l) ∙ rw (z, bare-zero b big) in
          ap (λ (x : ℕ). x ∷ last b k n) (sym e) ∙ sym s

-- the same of the text, and of how many digits that leaves
module _ (α : ℕ → ℕ) (b : ℕ) (big : 1 < b) (k n : ℕ) (p : 0 < n) (h : n < b ^ k) where
  pub text-front : drop (zeros_front (last b k n)) (last_text α b k n) ≡ text α b n
  unfolding text last_text
  text-front = sym (map-drop α (zeros_front (last b k n)) (last b k n)) ∙ ap (map α) (bare-front b big k n h ∙ sym (digits-pos b big n p))

  pub front_length : zeros_front (last b k n) + length (text α b n) ≡ k
  front_length =
      let l : length (text α b n) ≡ k - zeros_front (last b k n) = ap length (sym text-front) ∙ length-drop (zeros_front (last b k n)) (last_text α b k n) ∙ ap (λ (j : ℕ). j - zeros_front (last b k n)) (length-last_text α b k n) in
      omega (arith, text-some α b big n)
