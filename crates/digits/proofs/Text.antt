-- Laws of the text of a natural, for any base above 1 and any alphabet. The decimal text is the case `ascii`, 10.
-- Assumes nothing.
use mathlib.Core.Path.{◌≡◌, refl, ap, ◌∙◌}
use mathlib.Core.List.{List, [], ◌∷◌, ◌++◌, map, map-append}
use Prim.Native.Nat.{ℕ, zero, suc, ◌+◌, ◌*◌, ◌/◌, ◌%◌, ◌^◌, ◌≤◌, ◌<◌}
use lib.Dec.{leb, ltb}
use lib.ListN.{length, drop, replicate, length-append, length-map}
use Rattle.digits.specs.Digits.{digits, last}
use Rattle.digits.specs.Text.{text, last_text}
use Rattle.digits.proofs.Digits.{digits_step, digits-small, digits-some, digits-length, digits-length-le}
use Rattle.digits.proofs.Last.{digits_last, digits-split, last-mod, last-split, last-zeros, length_last}
use Rattle.digits.proofs.Length.{digits-fit, length-mono}

-- the text of digits without the first
pub map-drop : (f : ℕ → ℕ) (j : ℕ) (l : List ℕ) → map f (drop j l) ≡ drop j (map f l)
map-drop f zero l = refl
map-drop f (suc j) [] = refl
map-drop f (suc j) (x ∷ l) = map-drop f j l

pub length-last_text : (α : ℕ → ℕ) (b k n : ℕ) → length (last_text α b k n) ≡ k
unfolding last_text
length-last_text α b k n = length-map (last b k n) α ∙ length_last b k n

-- the last j + k digits: the last j of what stands in front of the last k, and those
pub last_text-split : (α : ℕ → ℕ) (b j k n : ℕ) → last_text α b (j + k) n ≡ last_text α b j (n / b ^ k) ++ last_text α b k n
unfolding last_text
last_text-split α b j k n = ap (map α) (last-split b j k n) ∙ map-append α (last b j (n / b ^ k)) (last b k n)

map-replicate : (α : ℕ → ℕ) (z d : ℕ) → map α (replicate z d) ≡ replicate z (α d)
map-replicate α zero d = refl
map-replicate α (suc z) d = ap (λ (l : List ℕ). α d ∷ l) (map-replicate α z d)

module _ (α : ℕ → ℕ) (b : ℕ) (big : 1 < b) where
  pub length-text : (n : ℕ) → length (text α b n) ≡ length (digits b n)
  unfolding text
  length-text n = length-map (digits b n) α

  pub text-step : (n : ℕ) → b ≤ n → text α b n ≡ text α b (n / b) ++ (α (n % b) ∷ [])
  unfolding text
  text-step n h = rw (digits_step b big n h) (map-append α (digits b (n / b)) (n % b ∷ []))

  pub text-split : (k n : ℕ) → b ^ k ≤ n → text α b n ≡ text α b (n / b ^ k) ++ last_text α b k n
  unfolding text last_text
  text-split k n h = rw (digits-split b big k n h) (map-append α (digits b (n / b ^ k)) (last b k n))

  pub text-longer : (k n : ℕ) → b ^ k ≤ n → length (text α b n) ≡ length (text α b (n / b ^ k)) + k
  text-longer k n h =
      ap length (text-split k n h)
      ∙ length-append (text α b (n / b ^ k)) (last_text α b k n)
      ∙ ap (λ (j : ℕ). length (text α b (n / b ^ k)) + j) (length-last_text α b k n)

  pub text-small : (n : ℕ) → n < b → text α b n ≡ α n ∷ []
  unfolding text
  text-small n h = rw (digits-small b big n h)

  pub text-some : (n : ℕ) → 0 < length (text α b n)
  text-some n = rw (length-text n) (digits-some b big n)

  -- the text fits k places exactly where n is below b ^ k
  pub text-fit : (k n : ℕ) → 0 < k → leb (length (text α b n)) k ≡ ltb n (b ^ k)
  text-fit k n p = rw (length-text n) (digits-fit b big k n p)

  pub text-most : (k n : ℕ) → 0 < k → n < b ^ k → length (text α b n) ≤ k
  text-most k n p h = rw (length-text n) (digits-length-le b big k n p h)

  pub text-mono : {n m : ℕ} → n ≤ m → length (text α b n) ≤ length (text α b m)
  text-mono {n} {m} h = rw (length-text n, length-text m) (length-mono b big h)

  -- ---- the last k digits

  -- what stands in front does not matter
  pub last_text-mod : (k n : ℕ) → last_text α b k (n % b ^ k) ≡ last_text α b k n
  unfolding last_text
  last_text-mod k n = ap (map α) (last-mod b big k n)

  -- zeros behind the digits of n
  pub last_text-zeros : (k z n : ℕ) → last_text α b (k + z) (n * b ^ z) ≡ last_text α b k n ++ replicate z (α 0)
  unfolding last_text
  last_text-zeros k z n =
      ap (map α) (last-zeros b big k z n)
      ∙ map-append α (last b k n) (replicate z 0)
      ∙ ap (λ (l : List ℕ). map α (last b k n) ++ l) (map-replicate α z 0)

  -- all digits, where n has k + 1 of them
  pub text-last : (k n : ℕ) → b ^ k ≤ n → n < b ^ suc k → text α b n ≡ last_text α b (suc k) n
  unfolding text last_text
  text-last k n l h = ap (map α) (digits_last b big n ∙ ap (λ (j : ℕ). last b j n) (digits-length b big k n l h))
