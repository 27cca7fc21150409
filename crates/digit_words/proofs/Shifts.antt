-- A word of digits shifted: zeros stand in front of the digits that are left, and the number is theirs.
-- Assumes nothing.
use Rattle.std.proofs.Common.{◌≡◌, ℕ, zero, suc, ◌+◌, ◌-◌, ◌*◌, ◌/◌, ◌%◌, ◌^◌, ◌<◌, ◌≤◌, List, [], ◌∷◌, ◌++◌, take, drop, replicate, sym, refl, ap, ◌∙◌, subst, ap₂, append_assoc, mod-lt, add_comm, arith, lit<, take-take}
use Rattle.digits.specs.Digits.{value, value_from, Below}
use Rattle.digits.proofs.Digits.{Below-append}
use Rattle.words.specs.Bytes.{bytes_of}
use Rattle.words.proofs.Bytes.{bytes-mod, bytes-join, bytes_take, bytes_drop, bytes_shifted}

-- ---- digits left out, put in front, put together

pub Below-take : (b j : ℕ) (ds : List ℕ) → Below b ds → Below b (take j ds)
unfolding Below
Below-take b zero ds h = tt
Below-take b (suc j) [] h = tt
Below-take b (suc j) (d ∷ ds) h = (h.0, Below-take b j ds h.1)

Below-drop : (b j : ℕ) (ds : List ℕ) → Below b ds → Below b (drop j ds)
unfolding Below
Below-drop b zero ds h = h
Below-drop b (suc j) [] h = tt
Below-drop b (suc j) (d ∷ ds) h = Below-drop b j ds h.1

Below-zeros : (k : ℕ) (ds : List ℕ) → Below 10 ds → Below 10 (replicate k 0 ++ ds)
unfolding Below
Below-zeros zero ds h = h
Below-zeros (suc k) ds h = (lit< tt, Below-zeros k ds h)

pub value-zeros : (k : ℕ) (ds : List ℕ) → value 10 (replicate k 0 ++ ds) ≡ value 10 ds
unfolding value value_from
value-zeros zero ds = refl
value-zeros (suc k) ds = value-zeros k ds

-- a word whose bytes are zeros and then digits
module _ (x k : ℕ) (ds : List ℕ) (e : bytes_of 8 x ≡ replicate k 0 ++ ds) where
  pub padded-below : Below 10 ds → Below 10 (bytes_of 8 x)
  padded-below h = subst (Below 10) (sym e) (Below-zeros k ds h)

  pub padded-value : value 10 (bytes_of 8 x) ≡ value 10 ds
  padded-value = ap (value 10) e ∙ value-zeros k ds

-- ---- the shifts of the code

-- n bytes, k of them shifted out
shifted : (n k w : ℕ) → k ≤ n → bytes_of n (w * 2 ^ (k * 8)) ≡ replicate k 0 ++ take (n - k) (bytes_of n w)
shifted n k w h =
    let e : k + (n - k) ≡ n = omega arith in
    let f : n - k + k ≡ n = omega arith in
    ap (λ (i : ℕ). bytes_of i (w * 2 ^ (k * 8))) (sym e) ∙ bytes_shifted k (n - k) w
    ∙ ap (λ (l : List ℕ). replicate k 0 ++ l) (sym (bytes_take (n - k) k w) ∙ ap (λ (i : ℕ). take (n - k) (bytes_of i w)) f)

-- the lowest n bytes of a shifted word of n + m
pub low : (n m k w : ℕ) → k ≤ n → bytes_of n (w * 2 ^ (k * 8) % 2 ^ ((n + m) * 8) % 2 ^ (n * 8)) ≡ replicate k 0 ++ take (n - k) (bytes_of n w)
low n m k w h =
    let x = w * 2 ^ (k * 8) in
    bytes-mod n (x % 2 ^ ((n + m) * 8)) ∙ sym (bytes_take n m (x % 2 ^ ((n + m) * 8))) ∙ ap (take n) (bytes-mod (n + m) x) ∙ bytes_take n m x ∙ shifted n k w h

module _ (w k : ℕ) where
  pub before : k < 8 → bytes_of 8 (w * 2 ^ (k * 8) % 2 ^ 64) ≡ replicate k 0 ++ take (8 - k) (bytes_of 8 w)
  before h = bytes-mod 8 (w * 2 ^ (k * 8)) ∙ shifted 8 k w (omega arith)

  first-four : k ≤ 4 → bytes_of 4 (w * 2 ^ (k * 8) % 2 ^ 64 % 2 ^ 32) ≡ replicate k 0 ++ take (4 - k) (bytes_of 8 w)
  first-four h =
      low 4 4 k w h
      ∙ ap (λ (l : List ℕ). replicate k 0 ++ l) (ap (take (4 - k)) (sym (bytes_take 4 4 w)) ∙ take-take (4 - k) 4 (bytes_of 8 w) (omega arith))

  pub around : k ≤ 4 → bytes_of 8 (w * 2 ^ (k * 8) % 2 ^ 64 % 2 ^ 32 + w / 2 ^ 32 * 2 ^ 32) ≡ replicate k 0 ++ (take (4 - k) (bytes_of 8 w) ++ drop 4 (bytes_of 8 w))
  around h =
      let x = w * 2 ^ (k * 8) % 2 ^ 64 % 2 ^ 32 in
      let e : x + w / 2 ^ 32 * 2 ^ 32 ≡ w / 2 ^ 32 * 2 ^ 32 + x = add_comm x (w / 2 ^ 32 * 2 ^ 32) in
      ap (bytes_of 8) e ∙ bytes-join 4 4 (w / 2 ^ 32) (mod-lt (w * 2 ^ (k * 8) % 2 ^ 64) (lit< tt)) ∙ ap₂ (λ (a b : List ℕ). a ++ b) (first-four h) (sym (bytes_drop 4 4 w))
      ∙ append_assoc (replicate k 0) (take (4 - k) (bytes_of 8 w)) (drop 4 (bytes_of 8 w))

  pub around-below : Below 10 (bytes_of 8 w) → Below 10 (take (4 - k) (bytes_of 8 w) ++ drop 4 (bytes_of 8 w))
  around-below h = Below-append 10 (take (4 - k) (bytes_of 8 w)) (drop 4 (bytes_of 8 w)) (Below-take 10 (4 - k) (bytes_of 8 w) h) (Below-drop 10 4 (bytes_of 8 w) h)
