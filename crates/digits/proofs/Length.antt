-- How many digits a natural has, for any base above 1: exactly, as a test, and in order.
-- Assumes nothing.
use mathlib.Core.Path.{◌≡◌, refl}
use mathlib.Core.Bool.{Bool, true, false}
use Prim.Native.Nat.{ℕ, suc, ◌^◌, ◌-◌, ◌≤◌, ◌<◌}
use native.Mathlib.Nat.{pow-zero}
use native.Mathlib.Decide.{dec_le}
use native.Mathlib.Omega.{arith}
use borrow.Author.Tests.{ltb-true, ltb-false, le-leb, lt-leb}
use lib.Count.{count_leading_zeros, leading_top}
use lib.Dec.{leb, ltb, lit<}
use lib.ListN.{length}
use Rattle.digits.specs.Digits.{digits}
use Rattle.digits.proofs.Digits.{digits-some, digits-length, digits-length-le, digits-length-gt}

module _ (b : ℕ) (big : 1 < b) where
  -- the digits fit k places exactly where n is below b ^ k
  pub digits-fit : (k n : ℕ) → 0 < k → leb (length (digits b n)) k ≡ ltb n (b ^ k)
  digits-fit k n p = go (ltb n (b ^ k)) refl
    where
      go : (t : Bool) → ltb n (b ^ k) ≡ t → leb (length (digits b n)) k ≡ ltb n (b ^ k)
      go true e = rw e (le-leb (length (digits b n)) k (digits-length-le b big k n p (ltb-true n (b ^ k) e)))
      go false e = rw e (lt-leb (length (digits b n)) k (digits-length-gt b big k n (ltb-false n (b ^ k) e)))

  -- n is below b to the number of its digits, and one less is a power that n reaches, unless n is 0
  pub below_length : (n : ℕ) → n < b ^ length (digits b n)
  below_length n = go (dec_le (suc n) (b ^ length (digits b n)))
    where
      go : Dec (suc n ≤ b ^ length (digits b n)) → n < b ^ length (digits b n)
      go (yes h) = h
      go (no h) = absurd (let l = digits-length-gt b big (length (digits b n)) n (omega arith) in omega arith)

  pub from-length : (n : ℕ) → 0 < n → b ^ (length (digits b n) - 1) ≤ n
  from-length n p = go (dec_le (b ^ (length (digits b n) - 1)) n)
    where
      k : ℕ
      k = length (digits b n) - 1

      go : Dec (b ^ k ≤ n) → b ^ k ≤ n
      go (yes h) = h
      go (no h) = absurd (small (dec_le 1 k))
        where
          below : n < b ^ k
          below = omega arith

          small : Dec (1 ≤ k) → ⊥
          small (yes q) = let l = digits-length-le b big k n q below in omega (arith, digits-some b big n)
          small (no q) = let z : k ≡ 0 = omega arith in let l : n < b ^ 0 = rw (← z) below in omega (arith, pow-zero b)

  -- a larger number has no fewer digits
  pub length-mono : {n m : ℕ} → n ≤ m → length (digits b n) ≤ length (digits b m)
  length-mono {n} {m} h = digits-length-le b big (length (digits b m)) n (digits-some b big m) (omega (arith, below_length m))

-- the bits that n needs, at least 1, are what its leading zeros in a word of w bits leave: so many binary digits has it
pub bits-leading : (w n : ℕ) → 0 < n → n < 2 ^ w → w - count_leading_zeros w n ≡ length (digits 2 n)
bits-leading w n p h =
    let t = leading_top w n p h in
    let l = digits-length 2 (lit< tt) t.0 n t.2 t.3 in
    omega (arith, t.1)
